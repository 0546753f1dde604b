use Rattle.std.proofs.Common.{◌≡◌}
use Rattle.dri_hwlock.specs.Tokens.{id_of, pass_token}
use Rattle.dri_lock_tests.proofs.waiting.marked_word.Given as goal

abbrev pub invariant-loop : goal.invariant-loop
invariant-loop g l = (pass_token l.first).lock ≡ id_of l.fn.lock
