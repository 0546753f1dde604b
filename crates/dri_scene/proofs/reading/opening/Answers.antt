-- Nothing was read yet.
use Rattle.std.proofs.Common.{rules}
use Rattle.dri_scene.proofs.SoundSteps.{opens_at}
use Rattle.dri_scene.proofs.reading.opening.Goals as goal

pub returns-clause-sound : goal.returns-clause-sound
returns-clause-sound c = opens_at _ (search rules)
