use Rattle.std.proofs.Common.{sym, subst, ℕ}
use Rattle.dri_hwlock.specs.Tokens.{id_of, passes_in, AreNew}
use Rattle.dri_lock_tests.proofs.stress.work_in_eight.Goals as goal

pub last_two-eighth-requires-clause-new : goal.last_two-eighth-requires-clause-new
last_two-eighth-requires-clause-new g c = let made = c.in-Ok.ensures in subst (λ (b : ℕ). AreNew (id_of c.in-Ok.lock) b 1 (passes_in c.in-Ok.passes)) (sym made.base) made.passes
