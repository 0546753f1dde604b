use Rattle.std.proofs.Common.{◌-◌, length}
use Rattle.dri_rect.specs.Walk.{Lowering}
use Rattle.dri_rect.proofs.bands.lower.Given as goal

abbrev pub invariant-loop-i : goal.invariant-loop-i
invariant-loop-i l = Lowering l.fn.out.items l.out.items l.start l.i l.bottom

abbrev pub decreases-loop-i : goal.decreases-loop-i
decreases-loop-i l = length l.out.items - l.i
