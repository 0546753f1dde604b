-- The entries so far were taken, the card follows them, and they are told.
use Rattle.std.proofs.Common.{take}
use Rattle.dri_core.specs.Worlds.{opening}
use Rattle.dri_replay.specs.Cards.{Follows}
use Rattle.dri_history.specs.Touches.{AreTouches}
use Rattle.dri_journal.specs.Replays.{world_of}
use Rattle.dri_replay.proofs.Taken.{AreTaken}
use Rattle.dri_history.proofs.history.touches_of.Given as goal

abbrev pub invariant-loop-taken : goal.invariant-loop-taken
invariant-loop-taken l = record {
  are : AreTaken l.fn.scene l.entries l.taken l.replay;
  follows : Follows l.replay.scene (world_of l.replay) l.card;
  told : AreTouches l.fn.scene (opening l.fn.scene) 1 (take l.taken l.entries) l.x l.y l.touches;
}
