-- The members so far stand in no group, and not behind themselves.
use Rattle.std.proofs.Common.{◌≡◌, length}
use Rattle.dri_many.specs.Readings.{are_new}
use Rattle.dri_many.proofs.reading.are_new.Given as goal

abbrev pub invariant-loop-rest : goal.invariant-loop-rest
invariant-loop-rest l = are_new l.groups l.rest ≡ are_new l.groups l.members

abbrev pub decreases-loop-rest : goal.decreases-loop-rest
decreases-loop-rest l = length l.rest
