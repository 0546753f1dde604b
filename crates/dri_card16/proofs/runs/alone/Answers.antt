use Rattle.dri_base.proofs.RangeLemmas.{well_formed}
use Rattle.dri_card16.proofs.Shown.{solo_left, stood_is_shown}
use Rattle.dri_card16.proofs.runs.alone.Goals as goal

pub returns-clause-left : goal.returns-clause-left
returns-clause-left c rule s journal for_good good run = solo_left rule s journal for_good (well_formed s good) run

pub returns-clause-swapped : goal.returns-clause-swapped
returns-clause-swapped c rule s journal for_good good run = stood_is_shown rule s journal for_good (well_formed s good) run
