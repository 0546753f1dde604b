use Rattle.std.proofs.Common.{length}
use Rattle.dri_rect.specs.Walk.{Skipped}
use Rattle.dri_rect.proofs.bands.skip.Given as goal

abbrev pub invariant-loop-head : goal.invariant-loop-head
invariant-loop-head l = Skipped l.rects l.rest l.y

abbrev pub decreases-loop-head : goal.decreases-loop-head
decreases-loop-head l = length l.rest
