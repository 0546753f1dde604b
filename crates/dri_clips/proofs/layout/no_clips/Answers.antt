use Rattle.std.proofs.Common.{refl}
use Rattle.dri_clips.proofs.Lists.{replicate_more}
use Rattle.dri_clips.proofs.layout.no_clips.Goals as goal

pub loop-number-preserved : goal.loop-number-preserved
loop-number-preserved g c = replicate_more _ _ c.loop-number._number _ _ _ refl c.loop-number.invariant c.empty.ensures.region c.in_ok-push.ensures.items
