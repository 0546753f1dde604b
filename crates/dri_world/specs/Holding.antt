-- What a world keeps: the core that its events leave, in parts.
use Rattle.std.specs.Prelude.{◌≡◌, ℕ, List, length, Some, slice_get}
use Rattle.dri_base.specs.Ranges.{InRange, client_numbers}
use Rattle.dri_base.specs.declared.scene.Scene.{Scene}
use Rattle.dri_base.specs.declared.journal.Event.{Event}
use Rattle.dri_driver.specs.Clients.{ClientState}
use Rattle.dri_driver.specs.Fits.{Fits}
use Rattle.dri_core.specs.CoreRuns.{IsRun, after_events}
use Rattle.dri_core.specs.Cores.{Core, journal_of, opening_core}
use Rattle.dri_shared.specs.States.{SharedState}
use Rattle.dri_world.specs.declared.site.Site.{Site}

-- a client has this number, fits the journal, and is dying where the core says so
pub record IsClientOf (v : SharedState) (core : Core) (number : ℕ) (k : ClientState) : Type 0 where
  pub numbered : k.number ≡ number
  pub fits : Fits k v
  pub dying : k.dying ≡ core.dying number

-- there is a client of each of these numbers, in their order
pub record HasClients (v : SharedState) (core : Core) (numbers : List ℕ) (ks : List ClientState) : Type 0 where
  pub number : length ks ≡ length numbers
  pub each : (i n : ℕ) (k : ClientState) → slice_get numbers i ≡ Some n → slice_get ks i ≡ Some k → IsClientOf v core n k

-- the parts are those of the core that the events leave
pub record IsHeld (s : Scene) (events : List Event) (t : Site) (ks : List ClientState) : Type 0 where
  pub good : InRange s
  pub run : IsRun s events
  pub scene : t.shared.scene ≡ s
  pub journal : t.shared.journal ≡ journal_of events
  pub word : t.lock.word ≡ (after_events s (opening_core s) events).word
  pub queue : t.lock.queue ≡ (after_events s (opening_core s) events).queue
  pub clients : HasClients t.shared (after_events s (opening_core s) events) (client_numbers s.clients) ks
