use Rattle.std.proofs.Common.{◌≡◌, take, true}
use Rattle.dri_core.specs.Turns.{all_pass}
use Rattle.dri_world.specs.Courses.{core_of}
use Rattle.dri_explore.proofs.playing.is_over.Given as goal

abbrev pub invariant-loop-i : goal.invariant-loop-i
invariant-loop-i l = record {
  same : l.world ≡ l.fn.world;
  passed : all_pass l.fn.world.scene (core_of l.fn.world) (take l.i l.turns) ≡ true;
}
