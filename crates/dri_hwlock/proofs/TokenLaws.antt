-- When two tokens are equal.
use Rattle.std.proofs.Common.{◌≡◌, ℕ}
use Rattle.dri_hwlock.specs.declared.view.View.{View}
use Rattle.dri_hwlock.specs.Tokens.{LockId, token_at}

-- the tokens of equal locks, contexts and views
pub same_token : {B E : Type 0} (id id' : LockId) (c c' : ℕ) (v v' : View B E) → id ≡ id' → c ≡ c' → v ≡ v' → token_at id c v ≡ token_at id' c' v'
same_token id id' c c' v v' e f h = λ i. token_at (e i) (f i) (h i)
