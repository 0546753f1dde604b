-- The actors that wait for the lock, the first first.
use Rattle.std.specs.Prelude.{◌≤◌, ◌≢◌, ℕ, List, All, AllPairs}

-- an actor: 0 is the server, 1 to 32 are the clients
abbrev pub IsActor : ℕ → Type 0
IsActor a = a ≤ 32

-- a queue: actors, none of them twice
pub record IsQueue (queue : List ℕ) : Type 0 where
  pub actors : All IsActor queue
  pub once : AllPairs ◌≢◌ queue
