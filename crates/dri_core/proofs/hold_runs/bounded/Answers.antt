use Rattle.dri_core.proofs.Bounds.{age_most_of_all, stamp_most, place_bounded, made_bounded}
use Rattle.dri_core.proofs.hold_runs.bounded.Goals as goal

pub returns-clause-age : goal.returns-clause-age
returns-clause-age c = age_most_of_all

pub returns-clause-stamps : goal.returns-clause-stamps
returns-clause-stamps c = stamp_most

pub returns-clause-places : goal.returns-clause-places
returns-clause-places c = place_bounded

pub returns-clause-made : goal.returns-clause-made
returns-clause-made c = made_bounded
