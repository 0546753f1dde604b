-- The passes that the threads work with.
use Rattle.std.specs.Prelude.{◌≡◌, ℕ}
use Rattle.dri_hwlock.specs.declared.guarded.Guarded.{Ghosts}
use Rattle.dri_hwlock.specs.declared.tokens.Pass.{Pass}
use Rattle.dri_hwlock.specs.Tokens.{LockId, pass_token}

-- the pass is of this lock and context
abbrev pub IsPassOf : {G B E : Type 0} {g : Ghosts G B E} → LockId → ℕ → Pass G B E g → Type 0
IsPassOf id context p = ((pass_token p).lock ≡ id) × ((pass_token p).context ≡ context)
