use Rattle.std.proofs.Common.{sym, subst, ℕ}
use Rattle.dri_hwlock.specs.Tokens.{id_of, passes_in, AreNew}
use Rattle.dri_lock_tests.proofs.waiting.words_of_a_wait.Goals as goal

pub last_pass-third-requires-clause-new : goal.last_pass-third-requires-clause-new
last_pass-third-requires-clause-new g c = let made = c.in-Ok.ensures in subst (λ (b : ℕ). AreNew (id_of c.in-Ok.lock) b 1 (passes_in c.in-Ok.passes)) (sym made.base) made.passes
