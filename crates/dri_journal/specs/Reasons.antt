-- Why an entry isn't legal: its conditions in the order in which they are looked at, each with the reason that is told where it isn't met.
use Rattle.std.specs.Prelude.{◌≡◌, ◌⊎◌, ◌+◌, ◌==◌, ◌&&◌, ◌||◌, Bool, true, List, [], ◌∷◌, Option, Some, None, Result, Ok, Err, if◌then◌else◌, is_none, length, nat_le, not, Contains}
use Rattle.dri_base.specs.Ranges.{client_numbers}
use Rattle.dri_base.specs.Scenes.{command_at, is_named, regions_needed}
use Rattle.dri_base.specs.declared.journal.Entry.{Entry}
use Rattle.dri_base.specs.declared.journal.Entry.TheVariants as Entry_is
use Rattle.dri_base.specs.declared.scene.Scene.{Scene}
use Rattle.dri_core.specs.Decide.{is_die}
use Rattle.dri_core.specs.EntryTable.{is_start_for}
use Rattle.dri_core.specs.Phases.{Ask, Asking, In, Old, Out, Over, is_done, is_holding, same_phase}
use Rattle.dri_core.specs.Privates.{can_draw, can_run, is_ready, is_triangle, room_in, textured_with}
use Rattle.dri_core.specs.Runs.{client_of}
use Rattle.dri_core.specs.Worlds.{World}
use Rattle.dri_journal.specs.declared.refusal.Refusal.{Refusal}
use Rattle.dri_journal.specs.declared.refusal.Refusal.TheVariants as refusals
use Rattle.dri_model.specs.Groups.{bits, is_empty, same_number}

-- the reason of the first condition that isn't met
abbrev pub first_unmet : List (Bool × Refusal) → Option Refusal
first_unmet [] = None
first_unmet (c ∷ cs) = if c.0 then first_unmet cs else Some c.1

-- the reason that is told
abbrev pub told_reason : {A : Type 0} → Result A Refusal → Option Refusal
told_reason (Ok x) = None
told_reason (Err reason) = Some reason

-- the conditions of a death: the client dies by its own command, or the schedule kills it, it isn't done, and nobody else holds
abbrev pub ways_to_go : Bool → Bool → Bool → Bool → List (Bool × Refusal)
ways_to_go dies named done free = (dies || (named && not done), refusals.NotKilled) ∷ (dies || free, refusals.Held) ∷ []

-- the conditions of the table of entries, and their reasons
abbrev pub conditions : Scene → World → Entry → List (Bool × Refusal)
conditions s w (Entry_is.Light c) =
    (same_phase (w.client c).phase Out, refusals.WrongPhase) ∷ (is_none w.holder, refusals.Held) ∷ (w.left == c + 1, refusals.NotTheLast) ∷ []
conditions s w (Entry_is.Kernel c found) =
    (same_phase (w.client c).phase Out, refusals.WrongPhase) ∷ (is_none w.holder, refusals.Held) ∷
    ((found == 0) || (found == w.left), refusals.WrongContext) ∷ (not (found == c + 1), refusals.WrongContext) ∷ []
conditions s w (Entry_is.Stale c) = (same_phase (w.client c).phase Old, refusals.WrongPhase) ∷ []
conditions s w (Entry_is.Leave c) = (same_phase (w.client c).phase Over || same_phase (w.client c).phase Ask, refusals.WrongPhase) ∷ []
conditions s w (Entry_is.Info c) = (same_phase (w.client c).phase Asking, refusals.WrongPhase) ∷ (is_none w.holder, refusals.Held) ∷ []
conditions s w (Entry_is.Change i) =
    (is_none w.holder, refusals.Held) ∷ (i == w.made + 1, refusals.NoSuchChange) ∷ (nat_le i (length s.changes), refusals.NoSuchChange) ∷ []
conditions s w (Entry_is.Emit c groups) =
    (same_phase (w.client c).phase In, refusals.WrongPhase) ∷ (is_triangle (command_at s c (w.client c).place), refusals.NoTriangle) ∷
    (is_ready (w.client c), refusals.NotPlaced) ∷ (groups == bits (w.client c).dirty, refusals.WrongGroups) ∷ (not (is_empty (w.client c).dirty), refusals.WrongGroups) ∷ []
conditions s w (Entry_is.Place c t first count) =
    (same_phase (w.client c).phase In, refusals.WrongPhase) ∷ (is_triangle (command_at s c (w.client c).place), refusals.NoTriangle) ∷
    (same_number (textured_with (w.client c).state) (Some t), refusals.WrongTexture) ∷ (is_none ((w.client c).placed t), refusals.WrongTexture) ∷
    ((count == regions_needed s c t) && is_start_for (room_in s c (w.client c) t) s.regions w.heap count first, refusals.WrongRun) ∷ []
conditions s w (Entry_is.Run c i) =
    (same_phase (w.client c).phase In, refusals.WrongPhase) ∷ (i == (w.client c).place, refusals.WrongPlace) ∷
    (can_run true (command_at s c i), refusals.NoCommand) ∷ (can_run (can_draw (w.client c)) (command_at s c i), refusals.NotEmitted) ∷ []
conditions s w (Entry_is.Gone c) = ways_to_go (same_phase (w.client c).phase In && is_die (command_at s c (w.client c).place)) (is_named s c) (is_done (w.client c).phase) (is_holding (w.client c).phase || is_none w.holder)

-- the client must be one of the scene, where the entry is a client's
abbrev pub IsThere : Scene → Entry → Type 0
IsThere s (Entry_is.Change i) = Unit {0}
IsThere s e = Contains (client_numbers s.clients) (client_of e)

-- the reason for which an entry isn't legal: there is no such client, or it is that of the first condition that isn't met
abbrev pub Fails : Scene → World → Entry → Refusal → Type 0
Fails s w e reason = (IsThere s e × (first_unmet (conditions s w e) ≡ Some reason)) ⊎ ((IsThere s e → ⊥) × (reason ≡ refusals.NoSuchClient))
