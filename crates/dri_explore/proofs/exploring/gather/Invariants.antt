use Rattle.std.specs.Arc.{arc_value}
use Rattle.dri_explore.proofs.Finding.{Gathers}
use Rattle.dri_explore.proofs.exploring.gather.Given as goal

abbrev pub invariant-loop-i : goal.invariant-loop-i
invariant-loop-i l = Gathers (arc_value l.scene) l.level l.i l.fn.found l.found l.cut
