-- The digits so far, behind a space.
use Rattle.std.proofs.Common.{◌∷◌, ◌<◌, All, take}
use Rattle.std.specs.List.{flat_map}
use Rattle.dri_scene.specs.Texts.{Adds, hex}
use Rattle.dri_scene.proofs.words.push_image.Given as goal

abbrev pub invariant-loop-byte : goal.invariant-loop-byte
invariant-loop-byte l = (Adds l.fn.text.items (32 ∷ flat_map hex (take l.byte-index l.byte-items)) l.text.items) × All (λ b. b < 256) (take l.byte-index l.byte-items)
