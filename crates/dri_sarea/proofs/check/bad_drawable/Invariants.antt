use Rattle.std.proofs.Common.{◌≡◌, None}
use Rattle.dri_sarea.specs.Layouts.{pieces, drawable_fields}
use Rattle.dri_sarea.specs.Images.{first_bad}
use Rattle.dri_sarea.proofs.check.bad_drawable.Given as goal

abbrev pub invariant-loop-i : goal.invariant-loop-i
invariant-loop-i l = first_bad l.bytes 128 (pieces (λ i. drawable_fields) l.i) ≡ None
