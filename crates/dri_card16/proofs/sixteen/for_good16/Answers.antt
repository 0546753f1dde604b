use Rattle.dri_card16.proofs.Good16.{good16}
use Rattle.dri_card16.proofs.Planes.{kept_after}
use Rattle.dri_card16.proofs.sixteen.for_good16.Goals as goal
use Rattle.dri_card16.specs.Sixteen.{rule16}

pub returns-clause-rule : goal.returns-clause-rule
returns-clause-rule c = good16

pub returns-clause-planes : goal.returns-clause-planes
returns-clause-planes c s journal = kept_after rule16 s journal good16
