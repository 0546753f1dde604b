use Rattle.dri_base.proofs.RangeLemmas.{well_formed}
use Rattle.dri_card16.proofs.Good16.{good16}
use Rattle.dri_card16.proofs.Shown.{solo_left, stood_is_shown}
use Rattle.dri_card16.proofs.sixteen.alone16.Goals as goal
use Rattle.dri_card16.specs.Sixteen.{rule16}

pub returns-clause-left : goal.returns-clause-left
returns-clause-left c s journal good run = solo_left rule16 s journal good16 (well_formed s good) run

pub returns-clause-swapped : goal.returns-clause-swapped
returns-clause-swapped c s journal good run = stood_is_shown rule16 s journal good16 (well_formed s good) run
