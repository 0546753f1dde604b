-- The members so far are clients of the scene.
use Rattle.std.proofs.Common.{◌≡◌, drop}
use Rattle.dri_base.specs.Ranges.{client_numbers}
use Rattle.dri_many.specs.Readings.{are_there}
use Rattle.dri_many.proofs.reading.are_there.Given as goal

abbrev pub invariant-loop-member : goal.invariant-loop-member
invariant-loop-member l = are_there (client_numbers l.clients) (drop l.member-index l.members) ≡ are_there (client_numbers l.clients) l.members
