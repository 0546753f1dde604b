use Rattle.std.proofs.Common.{◌≡◌, None}
use Rattle.dri_sarea.specs.Layouts.{zero_fields}
use Rattle.dri_sarea.specs.Images.{first_bad}
use Rattle.dri_sarea.proofs.check.bad_zero.Given as goal

abbrev pub invariant-loop-i : goal.invariant-loop-i
invariant-loop-i l = first_bad l.bytes l.at (zero_fields l.i) ≡ None
