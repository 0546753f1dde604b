-- The tokens that a test's threads work with.
use Rattle.std.specs.Prelude.{◌≡◌, ℕ, ◌+◌}
use Rattle.dri_hwlock.specs.declared.guarded.Guarded.{Ghosts}
use Rattle.dri_hwlock.specs.declared.tokens.Pass.{Pass}
use Rattle.dri_hwlock.specs.declared.tokens.Late.{Late}
use Rattle.dri_hwlock.specs.Tokens.{LockId, pass_token, late_token}

module _ {G B E : Type 0} {g : Ghosts G B E} where
  -- a late token of this lock and context
  abbrev pub IsLateOf : LockId → ℕ → Late G B E g → Type 0
  IsLateOf id context l = ((late_token l).lock ≡ id) × ((late_token l).context ≡ context)

  -- two passes of this lock, of this context and the next
  abbrev pub IsPairOf : LockId → ℕ → Pass G B E g × Pass G B E g → Type 0
  IsPairOf id context ps = ((pass_token ps.0).lock ≡ id) × ((pass_token ps.0).context ≡ context) × ((pass_token ps.1).lock ≡ id) × ((pass_token ps.1).context ≡ context + 1)
