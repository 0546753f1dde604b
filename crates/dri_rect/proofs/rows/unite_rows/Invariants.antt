use Rattle.std.proofs.Common.{length, ◌+◌}
use Rattle.dri_rect.specs.Walk.{Uniting}
use Rattle.dri_rect.proofs.rows.unite_rows.Given as goal

abbrev pub invariant-loop-next : goal.invariant-loop-next
invariant-loop-next l = Uniting l.first l.second l.left l.right l.fn.into.items l.into.items l.top l.bottom l.begun.x1 l.begun.x2

abbrev pub decreases-loop-next : goal.decreases-loop-next
decreases-loop-next l = length l.left + length l.right
