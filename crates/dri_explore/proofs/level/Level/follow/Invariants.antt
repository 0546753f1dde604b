use Rattle.std.proofs.Common.{take}
use Rattle.std.specs.Arc.{arc_value}
use Rattle.dri_explore.specs.Levels.{GoesOnFrom}
use Rattle.dri_explore.proofs.level.Level.follow.Given as goal

abbrev pub invariant-loop-i : goal.invariant-loop-i
invariant-loop-i l = GoesOnFrom (arc_value l.scene) l.node (take l.i l.items) l.fn.self l.self
