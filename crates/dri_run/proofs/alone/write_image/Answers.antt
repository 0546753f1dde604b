-- The sinks take the picture and nothing.
use Rattle.std.proofs.Common.{[], refl}
use Rattle.dri_run.proofs.alone.write_image.Goals as goal

pub returns-clause-taken : goal.returns-clause-taken
returns-clause-taken g c = λ taken. let both = taken c.as_slice.result.now [] (c.as_slice.ensures, refl) in c.write.ensures.taken both.0 both.1
