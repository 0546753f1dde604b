-- The pixels so far, three bytes each.
use Rattle.std.proofs.Common.{◌≡◌, ◌*◌, length, take}
use Rattle.std.specs.List.{flat_map}
use Rattle.dri_ppm.specs.Ppm.{channels}
use Rattle.dri_ppm.proofs.write.row_of.Given as goal

abbrev pub invariant-loop-pixel : goal.invariant-loop-pixel
invariant-loop-pixel l = record {
  bytes : l.row.items ≡ flat_map channels (take l.pixel-index l.pixels);
  size : length l.row.items ≡ 3 * l.pixel-index;
}
