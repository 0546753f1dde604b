use Rattle.dri_core.proofs.FirstBad.{bad_is_no_run, judged, one_first_bad}
use Rattle.dri_core.proofs.hold_runs.judged.Goals as goal

pub returns-clause-either : goal.returns-clause-either
returns-clause-either c = judged

pub returns-clause-not_both : goal.returns-clause-not_both
returns-clause-not_both c = bad_is_no_run

pub returns-clause-one : goal.returns-clause-one
returns-clause-one c = one_first_bad
