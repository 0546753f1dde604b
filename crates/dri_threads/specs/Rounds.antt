-- Passes and clients, before all actors run and after. The pass at place n is that of client n, and the first that of the server.
use Rattle.std.specs.Prelude.{◌≡◌, ◌≤◌, ℕ, ◌+◌, ◌<◌, List, length, Some, Bool, true, false, Contains, slice_get}
use Rattle.std.specs.List.{All}
use mathlib.Core.Option.{some}
use lib.ListN.{get_elem?}
use Rattle.dri_base.specs.Ranges.{client_numbers}
use Rattle.dri_base.specs.declared.journal.Entry.{Entry}
use Rattle.dri_base.specs.declared.scene.Scene.{Scene}
use Rattle.dri_hwlock.specs.declared.guarded.Guarded.{Ghosts}
use Rattle.dri_hwlock.specs.declared.tokens.Pass.{Pass}
use Rattle.dri_hwlock.specs.Tokens.{LockId, pass_token}
use Rattle.dri_core.specs.Phases.{is_done}
use Rattle.dri_core.specs.Runs.{after}
use Rattle.dri_driver.specs.Clients.{ClientState}
use Rattle.dri_driver.specs.Opening.{IsOpening}

-- so many passes are enough for the server and for each client, whose pass has the place of its number
pub record IsEnough (s : Scene) (passes : ℕ) : Type 0 where
  pub server : 0 < passes
  pub clients : All (λ c. c < passes) (client_numbers s.clients)

-- the list has the scene's clients with numbers below n, in their order, at the opening
pub record AreBelow (s : Scene) (n : ℕ) (ks : List ClientState) : Type 0 where
  pub count : length ks ≤ length (client_numbers s.clients)
  pub each : (i c : ℕ) (k : ClientState) → slice_get (client_numbers s.clients) i ≡ Some c → slice_get ks i ≡ Some k → IsOpening s c k
  pub below : (i c : ℕ) → slice_get (client_numbers s.clients) i ≡ Some c → i < length ks → c < n
  pub above : (i c : ℕ) → slice_get (client_numbers s.clients) i ≡ Some c → length ks ≤ i → n ≤ c

module _ {G : Type 0} {g : Ghosts G Scene Entry} where
  -- The pass at place n is of this lock, and has the context n + 1. Where no actor gave up, all changes are made after what the
  -- server's pass has seen, and client n is ended or dead after what its pass has seen
  pub record IsServed (s : Scene) (id : LockId) (n : ℕ) (short : Bool) (p : Pass G Scene Entry g) : Type 0 where
    pub of : (pass_token p).lock ≡ id
    pub context : (pass_token p).context ≡ n + 1
    pub made : short ≡ false → n ≡ 0 → (after s (pass_token p).seen).made ≡ length s.changes
    pub done : short ≡ false → 0 < n → Contains (client_numbers s.clients) n → is_done ((after s (pass_token p).seen).client n).phase ≡ true

  -- all n passes are back, in their order, and are served
  pub record AreServed (s : Scene) (id : LockId) (n : ℕ) (short : Bool) (ps : List (Pass G Scene Entry g)) : Type 0 where
    pub count : length ps ≡ n
    pub each : (j : ℕ) (p : Pass G Scene Entry g) → get_elem? ps j ≡ some p → IsServed s id j short p
