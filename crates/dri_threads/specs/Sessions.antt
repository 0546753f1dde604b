-- Sessions: what a hold does to the value and to its client.
use Rattle.std.specs.Prelude.{◌≡◌, ◌≢◌, ◌≤◌, ◌⊎◌, ℕ, ◌+◌, Bool, true, false, None, Contains}
use Rattle.dri_base.specs.Ranges.{client_numbers}
use Rattle.dri_base.specs.declared.journal.Entry.{Entry}
use Rattle.dri_core.specs.Phases.{Phase, Out, Asking, Ended, Dead}
use Rattle.dri_core.specs.Runs.{context_of}
use Rattle.dri_core.specs.Worlds.{World}
use Rattle.dri_hwlock.specs.Entries.{Adds}
use Rattle.dri_shared.specs.Sides.{IsSameSide, client_at, value_at}
use Rattle.dri_shared.specs.States.{SharedState, Added, world_of}
use Rattle.dri_shared.specs.declared.client_side.ClientSide.{ClientSide}
use Rattle.dri_driver.specs.Clients.{ClientState}
use Rattle.dri_driver.specs.Fits.{Fits, IsSameClient}
use Rattle.dri_threads.specs.declared.session.Entrance.{Entrance}
use Rattle.dri_threads.specs.declared.session.Entrance.TheVariants as Entrance_is

-- a client in this phase holds nothing
abbrev pub is_at_rest : Phase → Bool
is_at_rest Out = true
is_at_rest Asking = true
is_at_rest Ended = true
is_at_rest Dead = true
is_at_rest phase = false

-- the client of this number is one of the scene, and fits the journal
pub record IsSeated (v : SharedState) (k : ClientState) (c : ℕ) : Type 0 where
  pub numbered : k.number ≡ c
  pub fits : Fits k v
  pub there : Contains (client_numbers v.scene.clients) c

-- the client k has made the event of this entry, is l now, and fits what it leaves
pub record Makes (v w : SharedState) (k l : ClientState) (e : Entry) : Type 0 where
  pub added : Added v w e
  pub fits : Fits l w
  pub same : IsSameClient k l

-- entries of this context were added to the journal
pub record Grows (x : ℕ) (v w : SharedState) : Type 0 where
  pub scene : w.scene ≡ v.scene
  pub adds : Adds context_of x v.journal w.journal

-- client c has added entries of its own, is l now, and fits what they leave
pub record Works (c : ℕ) (v w : SharedState) (k l : ClientState) : Type 0 where
  pub grows : Grows (c + 1) v w
  pub seated : IsSeated w l c
  pub same : IsSameClient k l

-- the client of a side has worked in it, and the side is the same
pub record WorksIn (before after : ClientSide) (k l : ClientState) : Type 0 where
  pub works : Works (client_at before) (value_at before) (value_at after) k l
  pub same : IsSameSide before after

-- client c may come in in this way
abbrev pub MayEnter : ℕ → World → Entrance → Type 0
MayEnter c w Entrance_is.Light = w.left ≡ c + 1
MayEnter c w (Entrance_is.Kernel found) = ((found ≡ 0) ⊎ (found ≡ w.left)) × (found ≢ c + 1)

-- nobody holds, and there is room for so many entries
pub record IsReady (v : SharedState) (entries : ℕ) : Type 0 where
  pub nobody : (world_of v).holder ≡ None
  pub room : entries ≤ v.spare
