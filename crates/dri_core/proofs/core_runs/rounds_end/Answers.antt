use Rattle.dri_core.proofs.RoundsEnd.{one_run}
use Rattle.dri_core.proofs.RunLaws.{scheduled_run, ends, turns_whole, whole_where_passed}
use Rattle.dri_core.proofs.core_runs.rounds_end.Goals as goal

pub returns-clause-run : goal.returns-clause-run
returns-clause-run c = scheduled_run

pub returns-clause-ends : goal.returns-clause-ends
returns-clause-ends c = ends

pub returns-clause-one : goal.returns-clause-one
returns-clause-one c = one_run

pub returns-clause-whole : goal.returns-clause-whole
returns-clause-whole c = turns_whole

pub returns-clause-passed : goal.returns-clause-passed
returns-clause-passed c = whole_where_passed
