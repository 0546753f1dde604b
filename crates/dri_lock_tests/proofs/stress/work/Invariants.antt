use Rattle.std.proofs.Common.{◌≡◌}
use Rattle.dri_hwlock.specs.Tokens.{id_of, pass_token}
use Rattle.dri_lock_tests.proofs.stress.work.Given as goal

abbrev pub invariant-loop-number : goal.invariant-loop-number
invariant-loop-number g l = ((pass_token l.pass).lock ≡ id_of l.fn.lock) × ((pass_token l.pass).context ≡ l.fn.context)
