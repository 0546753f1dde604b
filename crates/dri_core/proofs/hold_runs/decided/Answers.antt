use Rattle.dri_core.specs.Worlds.{opening}
use Rattle.dri_core.proofs.Decide.{hold_run_from_test, test_from_hold_run}
use Rattle.dri_core.proofs.hold_runs.decided.Goals as goal

pub returns-clause-yes : goal.returns-clause-yes
returns-clause-yes c = λ s journal e. hold_run_from_test s (opening s) journal e

pub returns-clause-no : goal.returns-clause-no
returns-clause-no c = λ s journal h. test_from_hold_run s (opening s) journal h
