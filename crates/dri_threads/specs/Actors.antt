-- A client with its pass, between two holds and in a hold.
use Rattle.std.specs.Prelude.{◌≡◌, ℕ, ◌+◌, Some, true, false}
use Rattle.dri_base.specs.Ranges.{IsWithin}
use Rattle.dri_base.specs.declared.journal.Entry.{Entry}
use Rattle.dri_base.specs.declared.scene.Scene.{Scene}
use Rattle.dri_hwlock.specs.Tokens.{Token}
use Rattle.dri_core.specs.Phases.{Phase, Out, Asking}
use Rattle.dri_shared.specs.States.{SharedState}
use Rattle.dri_driver.specs.Clients.{ClientState}
use Rattle.dri_threads.specs.Sessions.{IsSeated, is_at_rest}
use Rattle.dri_threads.specs.declared.actor.Want.{Want}
use Rattle.dri_threads.specs.declared.actor.Want.TheVariants.{Act, Learn, Nothing}

-- a client's number
abbrev pub IsNumber : ℕ → Type 0
IsNumber n = IsWithin 1 32 n

-- the value of the scene with the entries that the token has seen
abbrev pub seen_value : Scene → Token Scene Entry → SharedState
seen_value s t = record { scene = s; journal = t.seen; spare = 0 }

-- client c is between two holds, and fits the entries that its pass has seen
pub record Stands (t : Token Scene Entry) (k : ClientState) (c : ℕ) : Type 0 where
  pub base : t.base ≡ Some k.scene
  pub context : t.context ≡ c + 1
  pub seated : IsSeated (seen_value k.scene t) k c
  pub living : k.dying ≡ false
  pub rests : is_at_rest k.phase ≡ true

-- a hold of context x, whose value is as it was found
pub record IsFound (x : ℕ) (t : Token Scene Entry) (v : SharedState) : Type 0 where
  pub context : t.context ≡ x
  pub base : t.base ≡ Some v.scene
  pub seen : t.seen ≡ v.journal

-- what a client in this phase wants
abbrev pub want_in : Phase → Want
want_in Out = Act
want_in Asking = Learn
want_in phase = Nothing
