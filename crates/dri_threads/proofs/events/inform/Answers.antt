use Rattle.dri_threads.proofs.Made.{informed}
use Rattle.dri_threads.proofs.events.inform.Goals as goal

pub returns-clause-made : goal.returns-clause-made
returns-clause-made c = informed _ _ _ _ _ c.in_ok-told.told c.requires.seated c.in_ok-told.ensures.made c.in_ok-told.ensures.told c.told.ensures.state c.told.ensures.fits
