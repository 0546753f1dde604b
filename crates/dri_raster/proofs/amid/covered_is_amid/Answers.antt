-- The law is the lemma.
use Rattle.dri_raster.proofs.Reach.{amid}
use Rattle.dri_raster.proofs.amid.covered_is_amid.Goals as goal

pub returns : goal.returns
returns c = amid
