-- The header and the pixels so far.
use Rattle.std.proofs.Common.{◌≡◌, ◌++◌, take}
use Rattle.std.specs.List.{flat_map}
use Rattle.dri_ppm.specs.Ppm.{channels, header}
use Rattle.dri_ppm.proofs.whole.p6.Given as goal

abbrev pub invariant-loop-pixel : goal.invariant-loop-pixel
invariant-loop-pixel l = l.bytes.items ≡ header l.width l.height ++ flat_map channels (take l.pixel-index l.pixels)
