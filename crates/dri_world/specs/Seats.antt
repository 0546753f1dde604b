-- What the code keeps of a group: its standing, at a place of a list that is gone round.
use Rattle.std.specs.Prelude.{Bool, List, None, Option, Some, false, drop, if◌then◌else◌, length, ℕ, ◌++◌, ◌+◌, ◌<◌, ◌==◌, ◌≡◌, ◌≤◌, slice_get, true}
use Rattle.dri_base.specs.declared.journal.Entry.{Entry}
use Rattle.dri_base.specs.declared.journal.Event.{Event}
use Rattle.dri_base.specs.declared.scene.Scene.{Scene}
use Rattle.dri_core.specs.CoreRuns.{world_of}
use Rattle.dri_core.specs.Cores.{journal_of}
use Rattle.dri_core.specs.Worlds.{World}
use Rattle.dri_many.specs.Groupings.{most_currents, most_members}
use Rattle.dri_many.specs.declared.grouping.Grouping.{Grouping}
use Rattle.dri_world.specs.Currents.{Standing, current_at, current_place, ends_segment, in_rounds, is_over, ran_after, standing}
use Rattle.dri_world.specs.declared.seat.Seat.{Seat}

-- the currents and then the members
abbrev pub order_of : Grouping → List ℕ
order_of g = g.currents ++ g.members

-- the place behind a place of this list: behind the last, the first member's
abbrev pub next_place : Grouping → ℕ → ℕ
next_place g q = if q + 1 == length (order_of g) then length g.currents else q + 1

-- a group has so many currents and members at most
pub record IsSmall (g : Grouping) : Type 0 where
  pub currents : length g.currents ≤ most_currents
  pub members : length g.members ≤ most_members

-- whether a command ran in the hold, after this entry, where there is one
abbrev pub ran_by : Bool → Option Entry → Bool
ran_by ran None = ran
ran_by ran (Some e) = ran_after ran e

-- where a group stands after this entry of its current member, where there is one
abbrev pub moved_by : Grouping → Seat → Option Entry → Seat
moved_by g seat None = seat
moved_by g seat (Some e) =
    if ends_segment seat.ran e then record { place = next_place g seat.place; ran = false } else record { place = seat.place; ran = ran_after seat.ran e }

-- from this place of the list on the order goes on as from place k
pub record GoesFrom (g : Grouping) (k q : ℕ) : Type 0 where
  pub inside : q < length (order_of g)
  pub ahead : (n : ℕ) → current_at g (k + n) ≡ in_rounds (drop q (order_of g)) g.members n

-- the seat is that of the standing: who stood between them has ended or is dead
pub record IsSeatOf (g : Grouping) (w : World) (t : Standing) (seat : Seat) : Type 0 where
  pub place : ℕ
  pub from : GoesFrom g place seat.place
  pub later : t.place ≤ place
  pub over : (n : ℕ) → t.place ≤ n → n < place → is_over w (current_at g n) ≡ true
  pub ran : seat.ran ≡ t.ran

-- the seat is that of the group after these events
abbrev pub Seated : Scene → Grouping → List Event → Seat → Type 0
Seated s g events seat = IsSeatOf g (world_of s events) (standing s g (journal_of events)) seat

-- the seat is that of the current member
pub record IsCurrentSeat (g : Grouping) (w : World) (t : Standing) (seat : Seat) : Type 0 where
  pub place : ℕ
  pub from : GoesFrom g place seat.place
  pub current : current_place g w t ≡ Some place
  pub ran : seat.ran ≡ t.ran

-- there is a seat for each group, in their order
pub record AreSeated (s : Scene) (groups : List Grouping) (events : List Event) (seats : List Seat) : Type 0 where
  pub number : length seats ≡ length groups
  pub each : (i : ℕ) (g : Grouping) (seat : Seat) → slice_get groups i ≡ Some g → slice_get seats i ≡ Some seat → Seated s g events seat
