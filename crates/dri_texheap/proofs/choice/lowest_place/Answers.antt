use Rattle.std.proofs.Common.{sym}
use Rattle.dri_texheap.proofs.Passing.{passed_more, passed_over}
use Rattle.dri_texheap.proofs.choice.lowest_place.Goals.{then-not-is_available, else-not-is_available}
use Rattle.dri_texheap.proofs.choice.lowest_place.Goals as goal

pub loop-i-preserved : goal.loop-i-preserved
loop-i-preserved c = elim c.if-not-is_available.branch [
  | then-not-is_available w ↦ rw w.first-is (passed_over _ _ _ c.loop-i.i c.loop-i.first c.loop-i.invariant c.if-i-first.false (sym w.if-not-is_available.ensures))
  | else-not-is_available w ↦ rw w.first-is (passed_more _ _ _ c.loop-i.i c.loop-i.first c.loop-i.invariant c.if-i-first.false (sym w.if-not-is_available.ensures))
]
