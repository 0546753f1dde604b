use Rattle.dri_core.proofs.RunLaws.{stamp}
use Rattle.dri_core.proofs.hold_runs.stamped.Goals as goal

pub returns : goal.returns
returns c = stamp
