use Rattle.std.proofs.Common.{◌≡◌, [], false, length, take}
use Rattle.std.specs.Prelude.{◌↔◌}
use Rattle.dri_core.specs.Turns.{played, round}
use Rattle.dri_world.specs.Courses.{GoesOn, LeavesLess, core_of}
use Rattle.dri_world.proofs.world.World.round.Given as goal

abbrev pub invariant-loop-i : goal.invariant-loop-i
invariant-loop-i l = record {
  last : l.i-end ≡ length l.fn.self.scene.clients;
  made : GoesOn l.fn.self l.self (played l.fn.self.scene (core_of l.fn.self) (take l.i (round l.fn.self.scene)));
  moves : (l.moves ≡ false) ↔ (played l.fn.self.scene (core_of l.fn.self) (take l.i (round l.fn.self.scene)) ≡ []);
  less : LeavesLess l.fn.self l.self l.moves;
}
