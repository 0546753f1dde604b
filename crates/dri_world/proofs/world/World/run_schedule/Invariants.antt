use Rattle.std.proofs.Common.{◌≡◌, length, take}
use Rattle.dri_core.specs.Turns.{played}
use Rattle.dri_world.specs.Courses.{GoesOn, core_of}
use Rattle.dri_world.proofs.world.World.run_schedule.Given as goal

abbrev pub invariant-loop-i : goal.invariant-loop-i
invariant-loop-i l = record {
  last : l.i-end ≡ length l.fn.self.scene.turns;
  made : GoesOn l.fn.self l.self (played l.fn.self.scene (core_of l.fn.self) (take l.i l.fn.self.scene.turns));
}
