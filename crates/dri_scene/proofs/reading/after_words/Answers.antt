-- The line keeps the reading sound.
use Rattle.std.proofs.Common.{rules}
use Rattle.dri_scene.proofs.SoundSteps.{step}
use Rattle.dri_scene.proofs.reading.after_words.Goals as goal

pub returns-clause-sound : goal.returns-clause-sound
returns-clause-sound c =
    step c.args.reading.now c.in-Some.form c.in-Some-place_after.place c.in-Some-line_in.line c.taken.new.reading c.requires
    (search rules) c.in-Some-line_in.ensures.range c.in_ok-taken.ensures
