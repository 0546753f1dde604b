use Rattle.dri_threads.proofs.Made.{buried}
use Rattle.dri_threads.proofs.events.bury.Goals as goal

pub returns-clause-made : goal.returns-clause-made
returns-clause-made c = buried _ _ _ _ _ c.requires.seated c.requires.living c.in_ok-bury.ensures.made c.gone.ensures.state c.gone.ensures.fits
