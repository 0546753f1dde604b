use Rattle.dri_card16.proofs.Planes as Planes
use Rattle.dri_card16.proofs.runs.confined.Goals as goal

pub returns : goal.returns
returns c = Planes.confined
