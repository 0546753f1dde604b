-- What is left of the script leads to the frame.
use Rattle.std.proofs.Common.{◌≡◌, ◌+◌, ◌<◌, ◌≤◌, drop, IfSome}
use Rattle.dri_core.specs.Solo.{frame, frame_from}
use Rattle.dri_meaning.proofs.frame.frame_of.Given as goal

abbrev pub invariant-loop-i : goal.invariant-loop-i
invariant-loop-i l = record {
  found : frame_from (drop l.i l.commands) (l.i + 1) l.clear l.ahead ≡ frame l.commands l.fn.number;
  first : IfSome l.clear (λ c. 0 < c);
  order : IfSome l.clear (λ c. c ≤ l.i);
}
