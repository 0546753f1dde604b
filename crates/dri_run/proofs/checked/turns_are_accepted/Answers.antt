-- A run of the schedule is a run of the core, whose journal is a hold-run.
use Rattle.dri_core.proofs.RunLaws.{hold_run, turns_run}
use Rattle.dri_run.proofs.checked.turns_are_accepted.Goals as goal

pub returns-clause-run : goal.returns-clause-run
returns-clause-run c = λ scene events in_range made. hold_run scene events in_range (turns_run scene events in_range made.turns)

pub returns-clause-whole : goal.returns-clause-whole
returns-clause-whole c = λ scene events in_range made. made.holds.whole
