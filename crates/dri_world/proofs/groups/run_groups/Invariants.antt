use Rattle.std.proofs.Common.{◌+◌}
use Rattle.std.specs.Arc.{arc_value}
use Rattle.dri_core.specs.Measures.{one_if, work_left}
use Rattle.dri_world.specs.Courses.{core_of}
use Rattle.dri_world.proofs.Parties.{PlaysGroups}
use Rattle.dri_world.proofs.groups.run_groups.Given as goal

abbrev pub invariant-loop-moves : goal.invariant-loop-moves
invariant-loop-moves l = PlaysGroups (arc_value l.fn.scene) l.fn.groups l.world l.seats.items l.moves

abbrev pub decreases-loop-moves : goal.decreases-loop-moves
decreases-loop-moves l = work_left l.world.scene (core_of l.world) + one_if l.moves
