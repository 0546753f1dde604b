use Rattle.std.proofs.Common.{◌≡◌, take}
use Rattle.dri_core.specs.Cores.{opening_core}
use Rattle.dri_core.specs.Turns.{played}
use Rattle.dri_play.specs.Plays.{passed_over}
use Rattle.dri_world.specs.Courses.{GoesOn}
use Rattle.dri_play.proofs.playing.take_all.Given as goal

abbrev pub invariant-loop-i : goal.invariant-loop-i
invariant-loop-i l = record {
  made : GoesOn l.fn.world l.world (played l.scene (opening_core l.scene) (take l.i l.scene.turns));
  flags : l.passed ≡ passed_over l.scene (opening_core l.scene) (take l.i l.scene.turns);
}
