use Rattle.std.proofs.Common.{◌≡◌}
use Rattle.dri_hwlock.specs.Tokens.{id_of, pass_token}
use Rattle.dri_bench.proofs.contend.holds.Given as goal

abbrev pub invariant-loop : goal.invariant-loop
invariant-loop g l = ((pass_token l.pass).lock ≡ id_of l.fn.lock) × ((pass_token l.pass).context ≡ l.fn.context)
