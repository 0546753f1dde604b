-- The rounds so far.
use Rattle.dri_lab_run.proofs.Rounded.{Rounded}
use Rattle.dri_lab_run.proofs.events.take_rounds.Given as goal

abbrev pub invariant-loop-taken : goal.invariant-loop-taken
invariant-loop-taken l = Rounded l.fn.world l.world l.fn.text.items l.text.items l._taken
