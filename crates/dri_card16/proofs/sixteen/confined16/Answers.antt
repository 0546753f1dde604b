use Rattle.dri_card16.proofs.Good16.{good16}
use Rattle.dri_card16.proofs.Planes.{confined}
use Rattle.dri_card16.proofs.sixteen.confined16.Goals as goal
use Rattle.dri_card16.specs.Sixteen.{rule16}

pub returns : goal.returns
returns c s journal = confined rule16 s journal good16
