-- Rounds of groups: who takes a turn in a round, and the events that this brings.
use Rattle.std.specs.Prelude.{Bool, List, None, Option, Some, [], false, filter, map, not, suc, zero, ℕ, ◌++◌, ◌∷◌, ◌↔◌, ◌≡◌}
use Rattle.std.specs.List.{list_any}
use Rattle.dri_base.specs.Ranges.{client_numbers}
use Rattle.dri_base.specs.declared.journal.Event.{Event}
use Rattle.dri_base.specs.declared.scene.Scene.{Scene}
use Rattle.dri_core.specs.CoreRuns.{after_events, world_of}
use Rattle.dri_core.specs.Cores.{Core, journal_of, opening_core}
use Rattle.dri_core.specs.Turns.{one_event, turn}
use Rattle.dri_many.specs.declared.grouping.Grouping.{Grouping}
use Rattle.dri_world.specs.Courses.{Course, GoesOn, IsSound, LeavesLess}
use Rattle.dri_world.specs.Currents.{current_member, is_member, standing}

-- who takes a turn: a group, by its current member; or an actor alone, a client or the server, which is 0
pub data Party : Type 0 where
  Group : Grouping → Party
  Alone : ℕ → Party

-- the client is in one of the groups
abbrev pub in_groups : List Grouping → ℕ → Bool
in_groups groups c = list_any (λ g. is_member g c) groups

-- those of these clients that are in no group
abbrev pub ungrouped : List Grouping → List ℕ → List ℕ
ungrouped groups clients = filter (λ c. not (in_groups groups c)) clients

-- a round: the groups in their order, each client in no group, rising, and the server
abbrev pub parties : Scene → List Grouping → List Party
parties s groups = map Group groups ++ (map Alone (ungrouped groups (client_numbers s.clients)) ++ Alone 0 ∷ [])

-- the current member of a group after these events
abbrev pub current_after : Scene → Grouping → List Event → Option ℕ
current_after s g events = current_member g (world_of s events) (standing s g (journal_of events))

-- the turn of an actor, where there is one
abbrev pub turn_of_some : Scene → Core → Option ℕ → Option Event
turn_of_some s k None = None
turn_of_some s k (Some a) = turn s k a

-- the event that a party's turn brings after these events
abbrev pub party_event : Scene → List Event → Party → Option Event
party_event s events (Group g) = turn_of_some s (after_events s (opening_core s) events) (current_after s g events)
party_event s events (Alone a) = turn s (after_events s (opening_core s) events) a

-- the events that these parties bring, one after another, after the events before
abbrev pub party_played : Scene → List Event → List Party → List Event
party_played s past [] = []
party_played s past (p ∷ ps) = one_event (party_event s past p) ++ party_played s (past ++ one_event (party_event s past p)) ps

-- the events of so many rounds
abbrev pub group_rounds : Scene → List Grouping → ℕ → List Event
group_rounds s groups zero = []
group_rounds s groups (suc n) = group_rounds s groups n ++ party_played s (group_rounds s groups n) (parties s groups)

-- the events are those of some number of rounds
pub record IsGrouped (s : Scene) (groups : List Grouping) (events : List Event) : Type 0 where
  pub rounds : ℕ
  pub made : events ≡ group_rounds s groups rounds

-- these parties took their turns, one after another, and it is told whether one of them made an event
pub record PartiesOn (old new : Course) (ps : List Party) (moved : Bool) : Type 0 where
  pub goes_on : GoesOn old new (party_played old.scene old.events ps)
  pub moves : (moved ≡ false) ↔ (party_played old.scene old.events ps ≡ [])
  pub less : LeavesLess old new moved
  pub sound : IsSound new
