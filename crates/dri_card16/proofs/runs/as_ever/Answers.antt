use Rattle.dri_base.proofs.RangeLemmas.{well_formed}
use Rattle.dri_card16.proofs.AsEver as AsEver
use Rattle.dri_card16.proofs.runs.as_ever.Goals as goal

pub returns-clause-alone : goal.returns-clause-alone
returns-clause-alone c = AsEver.frame_as_ever

pub returns-clause-run : goal.returns-clause-run
returns-clause-run c s journal good run = AsEver.as_ever s journal (well_formed s good) run
