use Rattle.std.proofs.Common.{◌≡◌, arith}
use Rattle.std.specs.Bool.{Decides}
use Rattle.std.proofs.lemmas.Bool.Decides.{nat_tests}
use Rattle.std.proofs.lemmas.Slice.Eq.{slice_eq-Decides}
use Rattle.dri_base.specs.declared.journal.Entry.{Entry}
use Rattle.dri_base.specs.contracts.journal.EntryPartialEq.TheImpl.{eq-value}
use Rattle.dri_explore.proofs.same.are_entries.Goals as goal

same_entry : (a b : Entry) → Decides (eq-value.it a b) (a ≡ b)
same_entry a b = (λ e. grind (arith, nat_tests, e), λ e. grind (arith, nat_tests, e))

pub returns : goal.returns
returns c = slice_eq-Decides same_entry _ _ _ c.eq.ensures
