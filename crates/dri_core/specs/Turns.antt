-- Whose turn brings which event.
use Rattle.std.specs.Prelude.{Bool, List, None, Option, Some, [], if◌then◌else◌, is_none, length, map, nat_lt, not, suc, true, zero, ℕ, ◌&&◌, ◌++◌, ◌+◌, ◌==◌, ◌||◌, ◌∷◌, ◌≡◌}
use Rattle.dri_base.specs.declared.command.Command.{Command}
use Rattle.dri_base.specs.declared.command.Item.{Item}
use Rattle.dri_base.specs.declared.command.Item.TheVariants.{Kill, Turn}
use Rattle.dri_base.specs.declared.journal.Event.{Event}
use Rattle.dri_base.specs.declared.journal.Event.TheVariants.{Change, Emit, Gone, Info, Kernel, LeaveKernel, LeaveLight, Light, Mark, Place, Queue, Run, Stale, Stop}
use Rattle.dri_base.specs.declared.scene.Scene.{Scene}
use Rattle.dri_core.specs.CoreRuns.{after_events}
use Rattle.dri_core.specs.Cores.{Core, is_first, is_next, is_queued, opening_core}
use Rattle.dri_core.specs.EventTable.{after_event}
use Rattle.dri_core.specs.Phases.{Phase, is_done, is_holding}
use Rattle.dri_core.specs.Privates.{Private, room_in, textured_with}
use Rattle.dri_base.specs.Scenes.{command_at, regions_needed}
use Rattle.dri_core.specs.Worlds.{World}
use Rattle.dri_model.specs.Groups.{bits, is_empty}
use Rattle.dri_model.specs.Heaps.{Heap, Spot, classes_for, lowest_place}
use Rattle.dri_base.specs.declared.command.Command.TheVariants as Command_is
use Rattle.dri_core.specs.Phases as Phase_is

-- who can't go on joins the queue; who waits as the first in it marks the word
abbrev pub waiting : Core → ℕ → Option Event
waiting k a =
    if is_queued a k.queue then (if is_first a k.queue && (k.word.held && not k.word.contended) then Some (Mark a) else None)
    else Some (Queue a)

-- an event that wants the word unheld and nobody before a
abbrev pub or_waiting : Core → ℕ → Event → Option Event
or_waiting k a e = if not k.word.held && is_next a k.queue then Some e else waiting k a

-- emit what is dirty, else draw
abbrev pub emit_turn : Private → ℕ → Option Event
emit_turn p c = if is_empty p.dirty then Some (Run c p.place) else Some (Emit c (bits p.dirty))

-- where the run for so many regions begins: where there is room, at its region; else by the heap's rule
abbrev pub start_for : Option Spot → ℕ → Heap → ℕ → ℕ
start_for None n h count = lowest_place n h count (classes_for n h count)
start_for (Some room) n h count = room.run.first

-- place the texture that isn't there, else emit what is dirty, else draw
abbrev pub triangle_turn : Scene → World → ℕ → Option ℕ → Option Event
triangle_turn s w c (Some t) =
    if is_none ((w.client c).placed t)
    then Some (Place c t (start_for (room_in s c (w.client c) t) s.regions w.heap (regions_needed s c t)) (regions_needed s c t))
    else emit_turn (w.client c) c
triangle_turn s w c None = emit_turn (w.client c) c

-- who is in runs its next command, or makes ready for it, or dies
abbrev pub acting_turn : Scene → World → ℕ → Option Command → Option Event
acting_turn s w c None = None
acting_turn s w c (Some Command_is.Die) = Some (Gone c)
acting_turn s w c (Some (Command_is.Triangle t)) = triangle_turn s w c (textured_with (w.client c).state)
acting_turn s w c (Some _) = Some (Run c (w.client c).place)

-- the event that a client makes in each phase
abbrev pub phase_turn : Scene → Core → ℕ → Phase → Option Event
phase_turn s k c Phase_is.Out =
    if not k.word.held && (k.word.context == c + 1) then Some (Light c) else or_waiting k c (Kernel c k.word.context)
phase_turn s k c Phase_is.Old = Some (Stale c)
phase_turn s k c Phase_is.In = acting_turn s k.world c (command_at s c (k.world.client c).place)
phase_turn s k c Phase_is.Over = if k.word.contended then Some (LeaveKernel c) else Some (LeaveLight c)
phase_turn s k c Phase_is.Ask = if k.word.contended then Some (LeaveKernel c) else Some (LeaveLight c)
phase_turn s k c Phase_is.Asking = or_waiting k c (Info c)
phase_turn s k c _ = None

-- the one event that client c makes at its turn, kills aside
abbrev pub turn_of : Scene → Core → ℕ → Option Event
turn_of s k c = if k.dying c then or_waiting k c (Gone c) else phase_turn s k c (k.world.client c).phase

-- the one event that the server makes at its turn
abbrev pub server_turn : Scene → Core → Option Event
server_turn s k = if nat_lt k.world.made (length s.changes) then or_waiting k 0 (Change (k.world.made + 1)) else None

-- the turn of an actor: the server is 0
abbrev pub turn : Scene → Core → ℕ → Option Event
turn s k zero = server_turn s k
turn s k (suc c) = turn_of s k (suc c)

-- the kill of a client that neither has ended nor is dying nor is dead: at once where it holds
abbrev pub kill : Core → ℕ → Option Event
kill k c =
    if is_holding (k.world.client c).phase then Some (Gone c)
    else (if k.dying c || is_done (k.world.client c).phase then None else Some (Stop c))

-- the event of a schedule's item
abbrev pub item_event : Scene → Core → Item → Option Event
item_event s k (Turn a) = turn s k a
item_event s k (Kill c) = kill k c

-- no event, or one
abbrev pub one_event : Option Event → List Event
one_event None = []
one_event (Some e) = e ∷ []

-- the core after an event, where there is one
abbrev pub core_after : Scene → Core → Option Event → Core
core_after s k None = k
core_after s k (Some e) = after_event s k e

-- the events that the items bring, one after another
abbrev pub played : Scene → Core → List Item → List Event
played s k [] = []
played s k (item ∷ items) = one_event (item_event s k item) ++ played s (core_after s k (item_event s k item)) items

-- one turn each: the clients as they stand, then the server
abbrev pub round : Scene → List Item
round s = map (λ p. Turn p.number) s.clients ++ Turn 0 ∷ []

-- n rounds
abbrev pub rounds : Scene → ℕ → List Item
rounds s zero = []
rounds s (suc n) = round s ++ rounds s n

-- a turn of each would be passed over
abbrev pub all_pass : Scene → Core → List Item → Bool
all_pass s k [] = true
all_pass s k (item ∷ items) = is_none (item_event s k item) && all_pass s k items

-- the events of the schedule and then of n rounds
abbrev pub turns_and_rounds : Scene → ℕ → List Event
turns_and_rounds s n = played s (opening_core s) (s.turns ++ rounds s n)

-- the run that takes the schedule's items in order and then rounds, until every turn would be passed over
pub record IsTurns (s : Scene) (events : List Event) : Type 0 where
  pub rounds : ℕ
  pub made : events ≡ turns_and_rounds s rounds
  pub ended : all_pass s (after_events s (opening_core s) events) (round s) ≡ true
