-- What waits for the lock, in the words of its token.
use Rattle.std.specs.Prelude.{◌≡◌, ◌≢◌, ℕ}
use Rattle.dri_hwlock.specs.declared.guarded.Guarded.{Ghosts}
use Rattle.dri_hwlock.specs.Tokens.{Token, IsAfterLooks, late_token, pass_token}
use Rattle.dri_kernel.specs.declared.waiter.Waiter.{Waiter}
use Rattle.dri_kernel.specs.declared.waiter.Waiter.TheVariants.{Client, Server}

module _ {G B E : Type 0} {g : Ghosts G B E} where
  -- its token
  abbrev pub waiting_token : Waiter G B E g → Token B E
  waiting_token (Client late) = late_token late
  waiting_token (Server pass) = pass_token pass

  -- the name under which it wants to hold
  abbrev pub name_wanted : Waiter G B E g → ℕ
  name_wanted (Client late) = (late_token late).context
  name_wanted (Server pass) = 1

  -- a client's finds another word than its own context
  abbrev pub FindsOther : Waiter G B E g → ℕ → Type 0
  FindsOther (Client late) word = word ≢ (late_token late).context
  FindsOther (Server pass) word = Unit {0}

  -- w' is w after some looks: of the same lock, and it wants and finds what w does
  pub record IsSameWaiter (w w' : Waiter G B E g) : Type 0 where
    pub looks : IsAfterLooks (waiting_token w) (waiting_token w')
    pub name : name_wanted w' ≡ name_wanted w
    pub finds : (word : ℕ) → FindsOther w' word → FindsOther w word
