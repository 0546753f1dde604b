-- What the calls that wait make of a token.
use Rattle.std.specs.Prelude.{◌≡◌, ℕ, ◌<◌, ◌↔◌}
use Rattle.dri_hwlock.specs.declared.guarded.Guarded.{Ghosts}
use Rattle.dri_hwlock.specs.declared.tokens.Hold.{Hold}
use Rattle.dri_hwlock.specs.Words.{IsUncontended}
use Rattle.dri_hwlock.specs.Tokens.{Token, IsAfterLooks, after_take, after_look, hold_token, found_word, value_in}

-- the hold was taken after some looks that were refused or marked
pub record IsTakenAfter {G B E : Type 0} {g : Ghosts G B E} (t : Token B E) (h : Hold G B E g) : Type 0 where
  pub waited : Token B E
  pub looks : IsAfterLooks t waited
  pub taken : hold_token h ≡ after_take waited (found_word h) (g.entries_of (value_in h))

module _ {B E : Type 0} where
  -- The pass u has left what t stands for, with at least one look more. It has left lightly exactly where its last word isn't
  -- contended
  pub record IsUnlocked (t u : Token B E) (left_lightly : ℕ) : Type 0 where
    pub kept : IsAfterLooks t u
    pub looked : t.looks < u.looks
    pub lightly : (left_lightly ≡ 1) ↔ IsUncontended u.last_word

  -- the pass u has left what t stands for, with one look more, and not lightly
  pub record IsReleased (t u : Token B E) (left_lightly : ℕ) : Type 0 where
    pub look : u ≡ after_look t u.last_word
    pub heavily : left_lightly ≡ 0
