use Rattle.std.proofs.Common.{◌≡◌, map, take}
use Rattle.dri_base.specs.Ranges.{client_numbers}
use Rattle.dri_world.specs.Courses.{core_of}
use Rattle.dri_explore.proofs.node.dying_in.Given as goal

abbrev pub invariant-loop-i : goal.invariant-loop-i
invariant-loop-i l = l.dying ≡ map (core_of l.world).dying (client_numbers (take l.i l.scene.clients))
