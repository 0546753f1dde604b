-- The lines so far.
use Rattle.std.proofs.Common.{All, take}
use Rattle.std.specs.List.{flat_map}
use Rattle.dri_scene.specs.Texts.{Adds, texture_words}
use Rattle.dri_words.specs.Lines.{line_bytes}
use Rattle.dri_scene.specs.Stored.{IsStoredTexture}
use Rattle.dri_scene.proofs.print.push_textures.Given as goal

abbrev pub invariant-loop-texture : goal.invariant-loop-texture
invariant-loop-texture l = (Adds l.fn.text.items (flat_map (λ x. line_bytes (texture_words x)) (take l.texture-index l.texture-items)) l.text.items) × All IsStoredTexture (take l.texture-index l.texture-items)
