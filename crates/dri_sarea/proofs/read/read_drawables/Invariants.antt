use Rattle.std.proofs.Common.{◌≡◌, get_or, length}
use Rattle.dri_sarea.specs.Areas.{no_drawable}
use Rattle.dri_sarea.specs.Layouts.{pieces, drawable_fields, drawable_values}
use Rattle.dri_sarea.specs.Images.{numbers_at}
use Rattle.dri_sarea.proofs.read.read_drawables.Given as goal

abbrev pub invariant-loop-i : goal.invariant-loop-i
invariant-loop-i l = record {
  values : numbers_at l.bytes 128 (pieces (λ i. drawable_fields) l.i) ≡ pieces (λ k. drawable_values (get_or l.list.items k no_drawable)) l.i;
  size : length l.list.items ≡ l.i;
}
