use Rattle.dri_clips.specs.Gains.{ArePartlyPaints}
use Rattle.dri_clips.specs.Motions.{moved_in}
use Rattle.dri_clips.proofs.paints.paints.Given as goal

abbrev pub invariant-loop-at : goal.invariant-loop-at
invariant-loop-at l = ArePartlyPaints l.old.width l.old.height l.fn.root l.old.stack l.new (moved_in l.motion) l.at l.paints
