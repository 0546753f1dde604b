use Rattle.std.proofs.Common.{◌≡◌, ◌++◌, get_or}
use Rattle.dri_sarea.specs.Areas.{no_region}
use Rattle.dri_sarea.specs.Layouts.{pieces, entry_fields, entry_values}
use Rattle.dri_sarea.specs.Images.{written}
use Rattle.dri_sarea.proofs.write.put_entries.Given as goal

abbrev pub invariant-loop-i : goal.invariant-loop-i
invariant-loop-i l = l.out.items ≡ l.fn.out.items ++ written (pieces (entry_fields l.count) l.i) (pieces (λ i. entry_values l.count i (get_or l.regions i no_region)) l.i)
