use Rattle.std.proofs.Common.{◌≡◌, ◌++◌, get_or}
use Rattle.dri_sarea.specs.Areas.{no_drawable}
use Rattle.dri_sarea.specs.Layouts.{pieces, drawable_fields, drawable_values}
use Rattle.dri_sarea.specs.Images.{written}
use Rattle.dri_sarea.proofs.write.put_drawables.Given as goal

abbrev pub invariant-loop-shown : goal.invariant-loop-shown
invariant-loop-shown l = l.out.items ≡ l.fn.out.items ++ written (pieces (λ i. drawable_fields) l.shown-index) (pieces (λ i. drawable_values (get_or l.drawables i no_drawable)) l.shown-index)
