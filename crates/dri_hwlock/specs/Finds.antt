-- What a take finds.
use Rattle.std.specs.Prelude.{◌≡◌, ◌⊎◌, ℕ, List, Some}
use Rattle.dri_hwlock.specs.declared.view.View.{View}
use Rattle.dri_hwlock.specs.Words.{IsFree}
use Rattle.dri_hwlock.specs.Entries.{StartsWith, mine}

-- at a seat with the view v, the value g, and a free word that is 0 or names the value's closer
pub record IsFound {G B E : Type 0} (base_of : G → B) (entries_of : G → List E) (context_of : E → ℕ) (closer_of : G → ℕ) (v : View B E) (g : G) (word : ℕ) : Type 0 where
  pub free : IsFree word
  pub base : Some (base_of g) ≡ v.base
  pub begins : StartsWith (entries_of g) v.seen
  pub own : mine context_of v.context (entries_of g) ≡ mine context_of v.context v.seen
  pub closer : (word ≡ 0) ⊎ (word ≡ closer_of g)
