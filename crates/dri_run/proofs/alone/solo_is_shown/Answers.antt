-- The run is solo left.
use Rattle.dri_run.proofs.OnScreen.{on_screen}
use Rattle.dri_run.proofs.alone.solo_is_shown.Goals as goal

pub returns : goal.returns
returns c = λ scene events client k width height pixels run last shot. on_screen scene events client k width height pixels run.holds.solo_left last shot
