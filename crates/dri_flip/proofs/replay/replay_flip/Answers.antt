-- The two ways to say which entry is named.
use Rattle.dri_flip.proofs.Followed.{names_bad, never_bad}
use Rattle.dri_flip.proofs.replay.replay_flip.Goals as goal

pub returns-clause-refuses : goal.returns-clause-refuses
returns-clause-refuses c entry is = names_bad c.args.scene.now c.args.entries.now c.counted_replay.result entry c.counted_replay.ensures is

pub returns-clause-takes : goal.returns-clause-takes
returns-clause-takes c run entry is = never_bad c.args.scene.now c.args.entries.now c.counted_replay.result entry c.counted_replay.ensures run is
