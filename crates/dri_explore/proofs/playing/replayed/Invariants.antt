use Rattle.std.proofs.Common.{◌≡◌, take}
use Rattle.std.specs.Arc.{arc_value}
use Rattle.dri_explore.specs.Runs.{course_of}
use Rattle.dri_explore.proofs.playing.replayed.Given as goal

abbrev pub invariant-loop-i : goal.invariant-loop-i
invariant-loop-i l = l.world ≡ course_of (arc_value l.fn.scene) (take l.i l.items)
