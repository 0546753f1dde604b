-- The pair and the state after the commands so far.
use Rattle.std.proofs.Common.{◌≡◌, ◌+◌}
use Rattle.dri_base.specs.States.{state_at}
use Rattle.dri_meaning.proofs.SoloPixels.{solo_before}
use Rattle.dri_meaning.proofs.solo.solo.Given as goal

abbrev pub invariant-loop-n : goal.invariant-loop-n
invariant-loop-n l = record {
  pixel : l.pixel ≡ solo_before l.script l.frame.clear l.n l.x l.y;
  state : l.state ≡ state_at l.script.commands (l.frame.clear + l.n);
}
