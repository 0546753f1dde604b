-- The entries so far were taken, and the ring follows them.
use Rattle.dri_replay.proofs.Taken.{AreTaken}
use Rattle.dri_ring.specs.Follows.{IsAfter}
use Rattle.dri_ring.proofs.replay.drawn.Given as goal

abbrev pub invariant-loop-taken : goal.invariant-loop-taken
invariant-loop-taken l = record {
  are : AreTaken l.fn.scene l.entries l.taken l.replay;
  follows : IsAfter l.replay l.fn.opened.engine.room l.ring;
}
