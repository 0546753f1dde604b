-- The line keeps the reading sound.
use Rattle.dri_many.proofs.SoundSteps.{step}
use Rattle.dri_many.proofs.reading.after_bytes.Goals as goal

pub returns-clause-sound : goal.returns-clause-sound
returns-clause-sound c = step c.args.scene.now c.args.reading.now c.after_line.new.reading c.args.line.now c.after_line.result c.requires c.after_line.ensures
