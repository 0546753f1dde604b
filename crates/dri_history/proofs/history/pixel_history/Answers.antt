-- The two ways to say which entry is named.
use Rattle.dri_history.proofs.Told.{names_bad, never_bad}
use Rattle.dri_history.proofs.history.pixel_history.Goals as goal

pub returns-clause-refuses : goal.returns-clause-refuses
returns-clause-refuses c entry is = names_bad c.args.scene.now c.args.entries.now c.args.x c.args.y c.touches_of.result entry c.touches_of.ensures is

pub returns-clause-takes : goal.returns-clause-takes
returns-clause-takes c run entry is = never_bad c.args.scene.now c.args.entries.now c.args.x c.args.y c.touches_of.result entry c.touches_of.ensures run is
