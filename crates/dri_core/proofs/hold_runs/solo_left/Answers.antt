use Rattle.dri_core.proofs.RunLaws as RunLaws
use Rattle.dri_core.proofs.hold_runs.solo_left.Goals as goal

pub returns : goal.returns
returns c = RunLaws.solo_left
