-- What a client's standing says of its frame.
use Rattle.std.proofs.Common.{◌≡◌, ◌<◌, ◌+◌, ℕ, List, [], Bool, true, false, Option, Some, None, arith, refl, sym, ap, ◌∙◌, inl, inr, subst}
use Rattle.std.specs.Prelude.{◌==◌, ◌⊎◌, pred, slice_get, if◌then◌else◌}
use Rattle.std.proofs.lemmas.Bool.{true≢false, cases_eq}
use Rattle.std.proofs.lemmas.Bool.Decides.{nat_tests}
use Rattle.dri_base.specs.declared.command.Command.{Command}
use Rattle.dri_base.specs.declared.command.Command.TheVariants as Command_is
use Rattle.dri_base.specs.declared.journal.Entry.{Entry}
use Rattle.dri_base.specs.declared.journal.Entry.TheVariants.{Light, Kernel, Stale, Emit, Place, Leave, Info, Change, Run, Gone}
use Rattle.dri_base.specs.declared.scene.Scene.{Scene}
use Rattle.dri_base.specs.Scenes.{commands_of, command_at}
use Rattle.dri_core.specs.Effects.{run_by, placed_by, taken_in}
use Rattle.dri_core.specs.EntryTable.{LegalEntry, after_entry}
use Rattle.dri_core.specs.Privates.{Private}
use Rattle.dri_meaning.specs.Reports.{Standing, NoClear, Stood, Cut, Tally, standing_after, cut_by, tally_after, tally}
use Rattle.dri_core.specs.Solo.{is_clear, is_swap}
use Rattle.dri_core.specs.Worlds.{World, opening, put}
use Rattle.dri_core.proofs.Parts.{put_keeps, put_there}

-- a client's frame is open: it has a clear before this place, with neither clear nor swap since
pub record IsOpen (cs : List Command) (first place : ℕ) : Type 0 where
  pub counted : 0 < first
  pub order : first < place
  pub clear : is_clear (slice_get cs (pred first)) ≡ true
  pub inner : (j : ℕ) → first < j → j < place → (is_clear (slice_get cs (pred j)) ≡ false) × (is_swap (slice_get cs (pred j)) ≡ false)

-- what a client's standing says of its frame
abbrev pub OpenIn : List Command → ℕ → Standing → Type 0
OpenIn cs place NoClear = (first : ℕ) → IsOpen cs first place → ⊥
OpenIn cs place Stood = (first : ℕ) × IsOpen cs first place
OpenIn cs place Cut = (first : ℕ) × IsOpen cs first place

-- an open frame goes on, where the command is neither clear nor swap
pub open_on : (cs : List Command) (first i : ℕ) → is_clear (slice_get cs (pred i)) ≡ false → is_swap (slice_get cs (pred i)) ≡ false → IsOpen cs first i → IsOpen cs first (i + 1)
open_on cs first i no_clear no_swap o = record { counted = o.counted; order = omega (arith, o.order); clear = o.clear; inner = λ j l m. by_place j l m (cases_eq j i) }
  where
    by_place : (j : ℕ) → first < j → j < i + 1 → (j ≡ i) ⊎ (j ≡ i → ⊥) → (is_clear (slice_get cs (pred j)) ≡ false) × (is_swap (slice_get cs (pred j)) ≡ false)
    by_place j l m (inl same) = rw same (no_clear, no_swap)
    by_place j l m (inr ne) = o.inner j l (omega (arith, m, ne))

-- and was open before
pub open_back : (cs : List Command) (first i : ℕ) → is_clear (slice_get cs (pred i)) ≡ false → IsOpen cs first (i + 1) → IsOpen cs first i
open_back cs first i no_clear o = record { counted = o.counted; order = by_place (cases_eq first i); clear = o.clear; inner = λ j l m. o.inner j l (omega (arith, m)) }
  where
    by_place : (first ≡ i) ⊎ (first ≡ i → ⊥) → first < i
    by_place (inl same) = absurd (true≢false (sym o.clear ∙ ap (λ p. is_clear (slice_get cs (pred p))) same ∙ no_clear))
    by_place (inr ne) = omega (arith, o.order, ne)

-- a command that is neither leaves the standing as it is
pub open_same : (cs : List Command) (i : ℕ) (st : Standing) → is_clear (slice_get cs (pred i)) ≡ false → is_swap (slice_get cs (pred i)) ≡ false → OpenIn cs i st → OpenIn cs (i + 1) st
open_same cs i NoClear no_clear no_swap none = λ first o. none first (open_back cs first i no_clear o)
open_same cs i Stood no_clear no_swap there = (there.0, open_on cs there.0 i no_clear no_swap there.1)
open_same cs i Cut no_clear no_swap there = (there.0, open_on cs there.0 i no_clear no_swap there.1)

pub open_run : (cs : List Command) (i : ℕ) (command : Option Command) (st : Standing) → 0 < i → slice_get cs (pred i) ≡ command → OpenIn cs i st → OpenIn cs (i + 1) (standing_after command st)
open_run cs i (Some (Command_is.Clear colour depth)) st l is o = (i, record { counted = l; order = omega arith; clear = rw is refl; inner = λ j a b. absurd (omega (arith, a, b)) })
open_run cs i (Some Command_is.Swap) st l is o = λ first p. by_place first p (cases_eq first i)
  where
    by_place : (first : ℕ) → IsOpen cs first (i + 1) → (first ≡ i) ⊎ (first ≡ i → ⊥) → ⊥
    by_place first p (inl same) = true≢false (sym p.clear ∙ ap (λ q. is_clear (slice_get cs (pred q))) same ∙ ap is_clear is)
    by_place first p (inr ne) = true≢false (sym (ap is_swap is) ∙ (p.inner i (omega (arith, p.order, ne)) (omega arith)).1)
open_run cs i (Some (Command_is.Set setting)) st l is o = open_same cs i st (ap is_clear is) (ap is_swap is) o
open_run cs i (Some (Command_is.Triangle t)) st l is o = open_same cs i st (ap is_clear is) (ap is_swap is) o
open_run cs i (Some Command_is.Yield) st l is o = open_same cs i st (ap is_clear is) (ap is_swap is) o
open_run cs i (Some Command_is.Die) st l is o = open_same cs i st (ap is_clear is) (ap is_swap is) o
open_run cs i None st l is o = open_same cs i st (ap is_clear is) (ap is_swap is) o

pub open_cut : (cs : List Command) (place : ℕ) (st : Standing) (b : Bool) → OpenIn cs place st → OpenIn cs place (cut_by b st)
open_cut cs place NoClear true o = o
open_cut cs place Stood true o = o
open_cut cs place Cut true o = o
open_cut cs place st false o = o

-- every client's standing says so, and its place is counted from 1
pub record Tracked (s : Scene) (w : World) (t : Tally) : Type 0 where
  pub stands : (c : ℕ) → OpenIn (commands_of s c) (w.client c).place (t.standing c)
  pub started : (c : ℕ) → 0 < (w.client c).place

pub tracked_opened : (s : Scene) → Tracked s (opening s) (tally s [])
tracked_opened s = record { stands = λ c first o. absurd (omega (arith, o.counted, o.order)); started = λ c. omega arith }

abbrev pub OpenPart : Scene → Tally → ℕ → Private → Type 0
OpenPart s t c p = OpenIn (commands_of s c) p.place (t.standing c) × (0 < p.place)

-- an entry that moves no place and no standing
pub same_place : (s : Scene) (w : World) (t : Tally) (c : ℕ) (p : Private) → Tracked s w t → p.place ≡ (w.client c).place → (d : ℕ) → OpenPart s t d (put w.client c p d)
same_place s w t c p tracked e d = put_keeps (OpenPart s t) w.client c p d (rw e (tracked.stands c, tracked.started c)) (tracked.stands d, tracked.started d)

pub tracked_on : (s : Scene) (w : World) (t : Tally) (e : Entry) → LegalEntry s w e → Tracked s w t → Tracked s (after_entry s w e) (tally_after s w e t)
tracked_on s w t (Light c) legal tracked = record { stands = λ d. (same_place s w t c _ tracked refl d).0; started = λ d. (same_place s w t c _ tracked refl d).1 }
tracked_on s w t (Kernel c found) legal tracked = record { stands = λ d. (same_place s w t c (taken_in s w c) tracked refl d).0; started = λ d. (same_place s w t c (taken_in s w c) tracked refl d).1 }
tracked_on s w t (Stale c) legal tracked = record { stands = λ d. (same_place s w t c _ tracked refl d).0; started = λ d. (same_place s w t c _ tracked refl d).1 }
tracked_on s w t (Emit c groups) legal tracked = record { stands = λ d. (same_place s w t c _ tracked refl d).0; started = λ d. (same_place s w t c _ tracked refl d).1 }
tracked_on s w t (Place c u first count) legal tracked = record { stands = λ d. (same_place s w t c (placed_by s w c u first count) tracked refl d).0; started = λ d. (same_place s w t c (placed_by s w c u first count) tracked refl d).1 }
tracked_on s w t (Leave c) legal tracked = record { stands = λ d. (same_place s w t c _ tracked refl d).0; started = λ d. (same_place s w t c _ tracked refl d).1 }
tracked_on s w t (Info c) legal tracked = record { stands = λ d. (same_place s w t c _ tracked refl d).0; started = λ d. (same_place s w t c _ tracked refl d).1 }
tracked_on s w t (Change i) legal tracked = record { stands = λ d. open_cut (commands_of s d) (w.client d).place (t.standing d) _ (tracked.stands d); started = tracked.started }
tracked_on s w t (Gone c) legal tracked = record { stands = λ d. open_cut (commands_of s d) _ (t.standing d) _ (same_place s w t c _ tracked refl d).0; started = λ d. (same_place s w t c _ tracked refl d).1 }
tracked_on s w t (Run c i) legal tracked = record { stands = λ d. by_client d (cases_eq d c); started = λ d. put_keeps (λ k p. 0 < p.place) w.client c (run_by s w c i) d (omega arith) (tracked.started d) }
  where
    cs : List Command
    cs = commands_of s c

    at_place : OpenIn cs i (t.standing c)
    at_place = subst (λ p. OpenIn cs p (t.standing c)) (sym legal.1) (tracked.stands c)

    counted : 0 < i
    counted = rw legal.1 (tracked.started c)

    same : (c == c) ≡ true
    same = grind (arith, nat_tests)

    by_client : (d : ℕ) → (d ≡ c) ⊎ (d ≡ c → ⊥) → OpenIn (commands_of s d) (put w.client c (run_by s w c i) d).place (if d == c then standing_after (command_at s c i) (t.standing d) else t.standing d)
    by_client d (inl e) = rw (e, same) (open_run cs i (command_at s c i) (t.standing c) counted refl at_place)
    by_client d (inr ne) = rw (put_there w.client c (run_by s w c i) d ne, other) (tracked.stands d)
      where
        other : (d == c) ≡ false
        other = grind (arith, nat_tests)
