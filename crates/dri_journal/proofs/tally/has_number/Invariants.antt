-- The rest is looked through as the whole would be.
use Rattle.std.proofs.Common.{◌≡◌, drop}
use Rattle.dri_journal.specs.Tallies.{has_number}
use Rattle.dri_journal.proofs.tally.has_number.Given as goal

abbrev pub invariant-loop-other : goal.invariant-loop-other
invariant-loop-other l = has_number (drop l.other-index l.numbers) l.number ≡ has_number l.numbers l.number
