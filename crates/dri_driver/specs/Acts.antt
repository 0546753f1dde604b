-- What an acting client answers.
use Rattle.std.specs.Prelude.{◌≡◌, ◌⊎◌, ◌+◌, ◌≤◌, Option, Some, None}
use Rattle.dri_base.specs.declared.command.Command.TheVariants.{Die}
use Rattle.dri_base.specs.declared.journal.Entry.{Entry}
use Rattle.dri_base.specs.declared.journal.Entry.TheVariants as Entry_is
use Rattle.dri_base.specs.declared.journal.Event.{Event}
use Rattle.dri_base.specs.declared.journal.Event.TheVariants as Event_is
use Rattle.dri_core.specs.Phases.{In, Over}
use Rattle.dri_core.specs.Runs.{client_of}
use Rattle.dri_core.specs.Turns.{acting_turn}
use Rattle.dri_core.specs.Worlds.{World}
use Rattle.dri_shared.specs.Sides.{world_at}
use Rattle.dri_shared.specs.declared.client_side.ClientSide.{ClientSide}
use Rattle.dri_driver.specs.Clients.{ClientState, next_command}
use Rattle.dri_driver.specs.Fits.{HasMade}
use Rattle.dri_driver.specs.Needs.{entries_left}
use Rattle.dri_driver.specs.declared.answers.Acted.{Acted}
use Rattle.dri_driver.specs.declared.answers.Acted.TheVariants.{Ran, MustLeave, Dies, Done}

-- the event that an entry is; a leave is a light one
abbrev pub event_of : Entry → Event
event_of (Entry_is.Light c) = Event_is.Light c
event_of (Entry_is.Kernel c found) = Event_is.Kernel c found
event_of (Entry_is.Stale c) = Event_is.Stale c
event_of (Entry_is.Emit c groups) = Event_is.Emit c groups
event_of (Entry_is.Place c t first count) = Event_is.Place c t first count
event_of (Entry_is.Run c i) = Event_is.Run c i
event_of (Entry_is.Leave c) = Event_is.LeaveLight c
event_of (Entry_is.Info c) = Event_is.Info c
event_of (Entry_is.Change i) = Event_is.Change i
event_of (Entry_is.Gone c) = Event_is.Gone c

-- the client may act, or must leave
abbrev pub IsActing : ClientState → Type 0
IsActing k = (k.phase ≡ In) ⊎ (k.phase ≡ Over)

-- the one event that is the client's turn in this world, where it is in
abbrev pub next_event : ClientState → World → Option Event
next_event k w = acting_turn k.scene w k.number (next_command k)

-- it has to leave, and a command is left
abbrev pub MustGo : ClientState → Type 0
MustGo k = (k.phase ≡ Over) × (next_command k ≡ None → ⊥)

-- its next command is its death
abbrev pub IsAtDeath : ClientState → Type 0
IsAtDeath k = (k.phase ≡ In) × (next_command k ≡ Some Die)

-- it has to leave, and no command is left
abbrev pub IsAtEnd : ClientState → Type 0
IsAtEnd k = (k.phase ≡ Over) × (next_command k ≡ None)

-- where an event was made, this holds of its entry
abbrev pub IfRan : Acted → (Entry → Type 0) → Type 0
IfRan (Ran entry) P = P entry
IfRan MustLeave P = Unit {0}
IfRan Dies P = Unit {0}
IfRan Done P = Unit {0}

-- where no event was made, this holds
abbrev pub UnlessRan : Acted → Type 0 → Type 0
UnlessRan (Ran entry) P = Unit {0}
UnlessRan MustLeave P = P
UnlessRan Dies P = P
UnlessRan Done P = P

-- the client has made the event that is its turn, as its own entry; it may act or must leave, and can add one entry less
pub record IsStep (old new : ClientState) (before after : ClientSide) (e : Entry) : Type 0 where
  pub event : next_event old (world_at before) ≡ Some (event_of e)
  pub own : client_of e ≡ old.number
  pub made : HasMade old new before after e
  pub acting : IsActing new
  pub falls : entries_left new + 1 ≤ entries_left old
