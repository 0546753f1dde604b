use Rattle.std.proofs.Common.{◌≡◌, None}
use Rattle.dri_sarea.specs.Layouts.{pieces, entry_fields}
use Rattle.dri_sarea.specs.Images.{first_bad}
use Rattle.dri_sarea.proofs.check.bad_entry.Given as goal

abbrev pub invariant-loop-i : goal.invariant-loop-i
invariant-loop-i l = first_bad l.bytes 2216 (pieces (entry_fields l.count) l.i) ≡ None
