-- Whose turn it is in a group: the order in which its members are made current, and how long each of them stays so.
use Rattle.std.specs.Prelude.{Bool, List, None, Option, Some, [], false, if◌then◌else◌, length, suc, true, zero, ℕ, ◌*◌, ◌+◌, ◌==◌, ◌∷◌}
use Rattle.std.specs.List.{list_any}
use Rattle.dri_base.specs.declared.journal.Entry.{Entry}
use Rattle.dri_base.specs.declared.journal.Entry.TheVariants.{Gone, Leave, Run}
use Rattle.dri_base.specs.declared.scene.Scene.{Scene}
use Rattle.dri_core.specs.EntryTable.{after_entry}
use Rattle.dri_core.specs.Phases.{is_done}
use Rattle.dri_core.specs.Runs.{client_of}
use Rattle.dri_core.specs.Worlds.{World, opening}
use Rattle.dri_many.specs.declared.grouping.Grouping.{Grouping}

-- the number at place k, counted from 0, where these come first, and behind them all members, round after round
abbrev pub in_rounds : List ℕ → List ℕ → ℕ → ℕ
in_rounds [] [] k = 0
in_rounds [] (m ∷ ms) zero = m
in_rounds [] (m ∷ ms) (suc k) = in_rounds ms (m ∷ ms) k
in_rounds (c ∷ first) members zero = c
in_rounds (c ∷ first) members (suc k) = in_rounds first members k

-- the order of a group: who is made current at place k. First come its currents, and behind them its members, round after round
abbrev pub current_at : Grouping → ℕ → ℕ
current_at g k = in_rounds g.currents g.members k

-- the client is a member of the group
abbrev pub is_member : Grouping → ℕ → Bool
is_member g c = list_any (λ m. m == c) g.members

-- client c has ended or is dead
abbrev pub is_over : World → ℕ → Bool
is_over w c = is_done (w.client c).phase

-- so many places of the order, from any one on, have each member among them
abbrev pub reach : Grouping → ℕ
reach g = length g.currents + 2 * length g.members

-- the first place, of so many from this one on, whose member has neither ended nor died
abbrev pub live_place : Grouping → World → ℕ → ℕ → Option ℕ
live_place g w place zero = None
live_place g w place (suc n) = if is_over w (current_at g place) then live_place g w (place + 1) n else Some place

-- where a group stands: from which place on its next current member is looked for, and whether the current member ran a command in its hold
pub record Standing : Type 0 where
  pub place : ℕ
  pub ran : Bool

-- at the opening
abbrev pub first_standing : Standing
first_standing = record { place = 0; ran = false }

-- the place of the current member; none where all members have ended or are dead, since who has is passed over at once
abbrev pub current_place : Grouping → World → Standing → Option ℕ
current_place g w t = live_place g w t.place (reach g)

-- the member that stands at a place, where there is one
abbrev pub member_at : Grouping → Option ℕ → Option ℕ
member_at g None = None
member_at g (Some place) = Some (current_at g place)

-- the current member
abbrev pub current_member : Grouping → World → Standing → Option ℕ
current_member g w t = member_at g (current_place g w t)

-- the entry is a current member's last: it leaves a hold in which it ran a command, or is gone
abbrev pub ends_segment : Bool → Entry → Bool
ends_segment ran (Leave c) = ran
ends_segment ran (Gone c) = true
ends_segment ran e = false

-- whether a command ran in the hold, after the entry
abbrev pub ran_after : Bool → Entry → Bool
ran_after ran (Run c i) = true
ran_after ran (Leave c) = false
ran_after ran (Gone c) = false
ran_after ran e = ran

-- where a group stands after an entry of its current member, which stands at this place
abbrev pub moved_on : Standing → Entry → Option ℕ → Standing
moved_on t e None = t
moved_on t e (Some place) =
    if ends_segment t.ran e then record { place = place + 1; ran = false } else record { place = place; ran = ran_after t.ran e }

-- where a group stands after an entry
abbrev pub stands_after : Grouping → World → Standing → Entry → Standing
stands_after g w t e = if is_member g (client_of e) then moved_on t e (current_place g w t) else t

-- where a group stands after these entries
abbrev pub stands_on : Scene → Grouping → World → Standing → List Entry → Standing
stands_on s g w t [] = t
stands_on s g w t (e ∷ es) = stands_on s g (after_entry s w e) (stands_after g w t e) es

-- where a group stands after a journal
abbrev pub standing : Scene → Grouping → List Entry → Standing
standing s g journal = stands_on s g (opening s) first_standing journal
