-- What is said of turns.
use Rattle.std.specs.Prelude.{Bool, List, Some, [], false, map, true, ℕ, ◌++◌, ◌∷◌, ◌≡◌, ◌⊎◌}
use Rattle.dri_base.specs.declared.command.Item.{Item}
use Rattle.dri_base.specs.declared.command.Item.TheVariants.{Kill, Turn}
use Rattle.dri_base.specs.declared.journal.Event.{Event}
use Rattle.dri_base.specs.declared.journal.Event.TheVariants.{Change, Emit, Gone, Info, Kernel, LeaveKernel, LeaveLight, Light, Mark, Place, Queue, Run, Stale, Stop}
use Rattle.dri_base.specs.declared.scene.Scene.{Scene}
use Rattle.dri_core.specs.CoreRuns.{after_events}
use Rattle.dri_core.specs.Cores.{Core, opening_core}
use Rattle.dri_core.specs.EventTable.{LegalEvent, after_event}
use Rattle.dri_base.specs.Scenes.{command_at, is_named, kills_in}
use Rattle.dri_core.specs.Phases.{is_holding}
use Rattle.dri_core.specs.Turns.{kill, played, turn}
use Rattle.dri_base.specs.declared.command.Command.TheVariants as Command_is
use Rattle.dri_core.specs.Phases as Phase_is

-- whose event it is; the server is 0
abbrev pub actor_of : Event → ℕ
actor_of (Light c) = c
actor_of (Kernel c found) = c
actor_of (Queue a) = a
actor_of (Mark a) = a
actor_of (Stale c) = c
actor_of (Emit c groups) = c
actor_of (Place c t first count) = c
actor_of (Run c i) = c
actor_of (LeaveLight c) = c
actor_of (LeaveKernel c) = c
actor_of (Info c) = c
actor_of (Change i) = 0
actor_of (Stop c) = c
actor_of (Gone c) = c

-- a death that a turn makes: the client is dying, or its next command is die
abbrev pub DiesByTurn : Scene → Core → ℕ → Type 0
DiesByTurn s k c = (k.dying c ≡ true) ⊎ (((k.world.client c).phase ≡ Phase_is.In) × (command_at s c (k.world.client c).place ≡ Some Command_is.Die))

-- the event can come by a turn, kills aside
abbrev pub ByTurn : Scene → Core → Event → Type 0
ByTurn s k (Stop c) = ⊥
ByTurn s k (Gone c) = DiesByTurn s k c
ByTurn s k _ = Unit {0}

-- the event can come by a kill: a stop, or the death of a client that holds
abbrev pub ByKill : Core → Event → Type 0
ByKill k (Stop c) = Unit {0}
ByKill k (Gone c) = is_holding (k.world.client c).phase ≡ true
ByKill k _ = ⊥

-- kills aside, an actor's turn makes its one legal event
abbrev pub OneEvent : Scene → Core → Type 0
OneEvent s k = (e : Event) → LegalEvent s k e → ByTurn s k e → turn s k (actor_of e) ≡ Some e

-- what a turn makes is legal
abbrev pub TurnsAreLegal : Scene → Core → Type 0
TurnsAreLegal s k = (a : ℕ) (e : Event) → turn s k a ≡ Some e → LegalEvent s k e

-- a client's kill makes the one legal event that can come by it
abbrev pub OneKill : Scene → Core → Type 0
OneKill s k = (e : Event) → LegalEvent s k e → ByKill k e → kill k (actor_of e) ≡ Some e

-- what the kill of a client makes is legal, where the schedule kills it
abbrev pub KillsAreLegal : Scene → Core → Type 0
KillsAreLegal s k = (c : ℕ) (e : Event) → is_named s c ≡ true → kill k c ≡ Some e → LegalEvent s k e

-- whose turn or kill it is
abbrev pub actor_in : Item → ℕ
actor_in (Turn a) = a
actor_in (Kill c) = c

-- the items kill nobody but whom the schedule kills
abbrev pub IsScheduled : Scene → List Item → Type 0
IsScheduled s items = (c : ℕ) → kills_in items c ≡ true → is_named s c ≡ true

-- the events are what turns and kills make, one each, of their own actors and in their order
pub record IsPlayed (s : Scene) (events : List Event) : Type 0 where
  pub items : List Item
  pub scheduled : IsScheduled s items
  pub made : events ≡ played s (opening_core s) items
  pub actors : map actor_in items ≡ map actor_of events

-- the event takes a word that is unheld
abbrev pub is_take : Event → Bool
is_take (Light c) = true
is_take (Kernel c found) = true
is_take (Info c) = true
is_take (Change i) = true
is_take (Gone c) = true
is_take _ = false

-- none of these events takes the word where it is unheld
abbrev pub NoTake : Scene → Core → List Event → Type 0
NoTake s k [] = Unit {0}
NoTake s k (e ∷ es) = ((k.word.held ≡ true) ⊎ (is_take e ≡ false)) × NoTake s (after_event s k e) es

-- between a mark and the next event that takes the unheld word no light lock is legal
abbrev pub NoLightAfterMark : Scene → List Event → Type 0
NoLightAfterMark s events =
    (past more : List Event) (a c : ℕ) → events ≡ past ++ Mark a ∷ more → NoTake s (after_event s (after_events s (opening_core s) past) (Mark a)) more →
    LegalEvent s (after_events s (after_event s (after_events s (opening_core s) past) (Mark a)) more) (Light c) → ⊥
