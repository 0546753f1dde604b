-- The entries so far were taken, and the card follows them.
use Rattle.dri_flip.specs.Follows.{IsAfter}
use Rattle.dri_replay.proofs.Taken.{AreTaken}
use Rattle.dri_flip.proofs.replay.counted_replay.Given as goal

abbrev pub invariant-loop-taken : goal.invariant-loop-taken
invariant-loop-taken g l = record {
  are : AreTaken l.fn.scene l.entries l.taken l.replay;
  follows : IsAfter l.replay l.card;
}
