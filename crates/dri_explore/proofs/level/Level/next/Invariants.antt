use Rattle.std.specs.Arc.{arc_value}
use Rattle.dri_explore.proofs.Steps.{NextOf}
use Rattle.dri_explore.proofs.level.Level.next.Given as goal

abbrev pub invariant-loop-i : goal.invariant-loop-i
invariant-loop-i l = NextOf (arc_value l.scene) l.self l.i l.next
