use Rattle.std.proofs.Common.{◌+◌}
use Rattle.dri_core.specs.Measures.{one_if, work_left}
use Rattle.dri_world.specs.Courses.{core_of}
use Rattle.dri_world.proofs.Rounding.{PlaysRounds}
use Rattle.dri_world.proofs.world.World.finish.Given as goal

abbrev pub invariant-loop-moves : goal.invariant-loop-moves
invariant-loop-moves l = PlaysRounds l.fn.self l.self l.moves

abbrev pub decreases-loop-moves : goal.decreases-loop-moves
decreases-loop-moves l = work_left l.self.scene (core_of l.self) + one_if l.moves
