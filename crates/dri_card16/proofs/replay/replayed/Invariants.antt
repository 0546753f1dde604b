-- The entries so far were taken, and the card follows them.
use Rattle.dri_card16.specs.Following.{Follows16}
use Rattle.dri_replay.proofs.Taken.{AreTaken}
use Rattle.dri_card16.proofs.replay.replayed.Given as goal

abbrev pub invariant-loop-taken : goal.invariant-loop-taken
invariant-loop-taken l = record {
  are : AreTaken l.fn.scene l.entries l.taken l.replay;
  follows : Follows16 l.replay l.card;
}
