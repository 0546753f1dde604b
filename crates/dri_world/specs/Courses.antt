-- What contracts see of a world on one thread: its scene, and the events made in it. What a turn, a kill and the rounds bring.
use Rattle.std.specs.Prelude.{◌≡◌, ◌++◌, ◌+◌, ◌≤◌, ℕ, zero, suc, true, false, Bool, List, take, length, Option, Some, None, Contains, ◌⊎◌}
use Rattle.dri_base.specs.Ranges.{InRange, client_numbers}
use Rattle.dri_base.specs.Scenes.{is_named}
use Rattle.dri_base.specs.declared.command.Item.{Item}
use Rattle.dri_base.specs.declared.command.Item.TheVariants.{Kill, Turn}
use Rattle.dri_base.specs.declared.journal.Event.{Event}
use Rattle.dri_base.specs.declared.scene.Scene.{Scene}
use Rattle.dri_core.specs.CoreRuns.{IsRun, after_events}
use Rattle.dri_core.specs.Cores.{Core, IsFirst, is_first, is_queued, opening_core}
use Rattle.dri_core.specs.Measures.{one_if, work_left}
use Rattle.dri_core.specs.Phases.{is_done}
use Rattle.dri_core.specs.Turns.{all_pass, played, round, rounds}
use Rattle.dri_world.specs.declared.turned.Turned.{Turned}
use Rattle.dri_world.specs.declared.turned.Turned.TheVariants.{Did, Passed}

-- a scene, and all events made in it, in order
pub record Course : Type 0 where
  pub scene : Scene
  pub events : List Event

-- the core that the events leave
abbrev pub core_of : Course → Core
core_of w = after_events w.scene (opening_core w.scene) w.events

-- the same scene, with these events after those before
pub record GoesOn (old new : Course) (more : List Event) : Type 0 where
  pub scene : new.scene ≡ old.scene
  pub events : new.events ≡ old.events ++ more

-- the actor is the server, or a client of the scene
abbrev pub IsActor : Scene → ℕ → Type 0
IsActor s a = (a ≡ 0) ⊎ Contains (client_numbers s.clients) a

-- what is answered where this event is made, or none
abbrev pub turned : Option Event → Turned
turned (Some e) = Did e
turned None = Passed

-- the actor has nothing left to do: the server where no change is left, a client where it has ended or is dead
abbrev pub IsThrough : Scene → Core → ℕ → Type 0
IsThrough s k zero = k.world.made ≡ length s.changes
IsThrough s k (suc c) = is_done (k.world.client (suc c)).phase ≡ true

-- the actor stands in the queue behind another
abbrev pub IsBehind : Core → ℕ → Type 0
IsBehind k a = (is_queued a k.queue ≡ true) × (is_first a k.queue ≡ false)

-- the actor is the first in the queue, and the word is held and contended already
abbrev pub HasMarked : Core → ℕ → Type 0
HasMarked k a = IsFirst a k.queue × (k.word.held ≡ true) × (k.word.contended ≡ true)

-- where a turn is passed over
abbrev pub IsPassedOver : Scene → Core → ℕ → Type 0
IsPassedOver s k a = IsThrough s k a ⊎ (IsBehind k a ⊎ HasMarked k a)

-- where a kill is passed over: the client has ended, is dying, or is dead
abbrev pub IsPastKilling : Core → ℕ → Type 0
IsPastKilling k c = (k.dying c ≡ true) ⊎ (is_done (k.world.client c).phase ≡ true)

-- so many rounds were played, and after them every turn would be passed over
pub record IsPlayedOut (old new : Course) : Type 0 where
  pub number : ℕ
  pub goes_on : GoesOn old new (played old.scene (core_of old) (rounds old.scene number))
  pub ended : all_pass new.scene (core_of new) (round new.scene) ≡ true

-- the first so many turns of so many rounds were played
pub record IsPlayedOn (old new : Course) : Type 0 where
  pub number : ℕ
  pub turns : ℕ
  pub goes_on : GoesOn old new (played old.scene (core_of old) (take turns (rounds old.scene number)))

-- the first so many turns of one round were played
pub record IsPlayedIn (old new : Course) : Type 0 where
  pub turns : ℕ
  pub goes_on : GoesOn old new (played old.scene (core_of old) (take turns (round old.scene)))

-- an event was made
abbrev pub is_move : Turned → Bool
is_move (Did e) = true
is_move Passed = false

-- the scene is in range, and the events are a run of it
pub record IsSound (w : Course) : Type 0 where
  pub good : InRange w.scene
  pub run : IsRun w.scene w.events

-- what is left to do, and one more where an event was made, is no more than was left before
abbrev pub LeavesLess : Course → Course → Bool → Type 0
LeavesLess old new moved = work_left new.scene (core_of new) + one_if moved ≤ work_left old.scene (core_of old)

-- an item that may be taken: the turn of an actor of the scene, or a kill that the schedule has
abbrev pub MayTake : Scene → Item → Type 0
MayTake s (Turn a) = IsActor s a
MayTake s (Kill c) = is_named s c ≡ true

-- the first so many items of the schedule were taken
pub record IsScheduledIn (old new : Course) : Type 0 where
  pub items : ℕ
  pub goes_on : GoesOn old new (played old.scene (core_of old) (take items old.scene.turns))
