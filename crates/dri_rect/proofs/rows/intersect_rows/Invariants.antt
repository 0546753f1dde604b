use Rattle.std.proofs.Common.{length, ◌+◌}
use Rattle.dri_rect.specs.Walk.{Intersecting}
use Rattle.dri_rect.proofs.rows.intersect_rows.Given as goal

abbrev pub invariant-loop-one : goal.invariant-loop-one
invariant-loop-one l = Intersecting l.first l.second l.left l.right l.fn.into.items l.into.items l.top l.bottom

abbrev pub decreases-loop-one : goal.decreases-loop-one
decreases-loop-one l = length l.left + length l.right
