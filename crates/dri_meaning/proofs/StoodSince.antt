-- A frame that has stood so far.
use Rattle.std.proofs.Common.{◌≡◌, ◌+◌, ℕ, List, [], ◌∷◌, ◌++◌, Bool, true, false, not, Option, Some, None, arith, refl, sym, ap, ◌∙◌, inl, inr, subst}
use Rattle.std.specs.Prelude.{◌==◌, ◌⊎◌, pred, slice_get}
use Rattle.std.proofs.lemmas.Bool.{cases_eq}
use Rattle.std.proofs.lemmas.Bool.Decides.{nat_tests}
use Rattle.std.proofs.lemmas.List.{append_assoc}
use Rattle.dri_base.specs.declared.command.Command.{Command}
use Rattle.dri_base.specs.declared.command.Command.TheVariants as Command_is
use Rattle.dri_base.specs.declared.journal.Entry.{Entry}
use Rattle.dri_base.specs.declared.journal.Entry.TheVariants.{Light, Kernel, Stale, Emit, Place, Leave, Info, Change, Run, Gone}
use Rattle.dri_base.specs.declared.scene.Scene.{Scene}
use Rattle.dri_base.specs.Scenes.{commands_of, window_of, command_at}
use Rattle.dri_core.specs.Effects.{run_by, placed_by, taken_in}
use Rattle.dri_core.specs.EntryTable.{LegalEntry, after_entry}
use Rattle.dri_core.specs.Frames.{Stands, keeps}
use Rattle.dri_core.specs.Privates.{Private}
use Rattle.dri_meaning.specs.Reports.{Standing, NoClear, Stood, Cut, Tally, standing_after, cut_by, tally_after}
use Rattle.dri_core.specs.Runs.{after_entries, after}
use Rattle.dri_core.specs.Solo.{is_clear, is_swap}
use Rattle.dri_core.specs.Worlds.{World, opening, put}
use Rattle.dri_core.proofs.Parts.{put_keeps, put_here, put_there}
use Rattle.dri_core.proofs.Laws.{after_entries-append}
use Rattle.dri_meaning.proofs.OpenFrames.{IsOpen, open_on, Tracked}

-- an entry that leaves the stamp keeps what stands
pub stamp_keeps : (s : Scene) (w : World) (e : Entry) (n : ℕ) → (after_entry s w e).stamps n ≡ w.stamps n → keeps s w e n ≡ true
stamp_keeps s w e n same = grind (arith, nat_tests)

-- entries that keep what stands, and one more
pub stands_push : (s : Scene) (n : ℕ) (w : World) (es : List Entry) (e : Entry) → Stands s n w es → keeps s (after_entries s w es) e n ≡ true → Stands s n w (es ++ e ∷ [])
stands_push s n w [] e stands same = (same, tt)
stands_push s n w (x ∷ es) e stands same = (stands.0, stands_push s n (after_entry s w x) es e stands.1 same)

-- a frame that has stood so far: its clear ran, and no entry since gave a new stamp
pub record StoodSince (s : Scene) (past : List Entry) (w : World) (c : ℕ) : Type 0 where
  pub first : ℕ
  pub before : List Entry
  pub since : List Entry
  pub begun : IsOpen (commands_of s c) first (w.client c).place
  pub split : past ≡ before ++ Run c first ∷ since
  pub stands : Stands s (window_of s c) (after_entry s (after s before) (Run c first)) since

abbrev pub History : Scene → List Entry → World → Tally → Type 0
History s past w t = (c : ℕ) → t.standing c ≡ Stood → StoodSince s past w c

-- one more entry that keeps what stands
pub stood_on : (s : Scene) (past : List Entry) (w : World) (e : Entry) (c : ℕ) → after s past ≡ w → StoodSince s past w c → keeps s w e (window_of s c) ≡ true →
    ((first : ℕ) → IsOpen (commands_of s c) first (w.client c).place → IsOpen (commands_of s c) first ((after_entry s w e).client c).place) → StoodSince s (past ++ e ∷ []) (after_entry s w e) c
stood_on s past w e c here old same open_too = record {
  first = old.first;
  before = old.before;
  since = old.since ++ e ∷ [];
  begun = open_too old.first old.begun;
  split = ap (λ p. p ++ e ∷ []) old.split ∙ append_assoc old.before (Run c old.first ∷ old.since) (e ∷ []);
  stands = stands_push s (window_of s c) start old.since e old.stands (rw at_world same);
}
  where
    start : World
    start = after_entry s (after s old.before) (Run c old.first)

    at_world : after_entries s start old.since ≡ w
    at_world = sym (after_entries-append s (opening s) old.before (Run c old.first ∷ old.since)) ∙ ap (after s) (sym old.split) ∙ here

pub place_same : (s : Scene) (w : World) (c : ℕ) (p : Private) (d : ℕ) → p.place ≡ (w.client c).place → (first : ℕ) → IsOpen (commands_of s d) first (w.client d).place → IsOpen (commands_of s d) first (put w.client c p d).place
place_same s w c p d e first o = put_keeps (λ k q. IsOpen (commands_of s k) first (w.client k).place → IsOpen (commands_of s k) first q.place) w.client c p d (λ x. rw e x) (λ x. x) o

pub cut_stood : (st : Standing) (keeps : Bool) → cut_by (not keeps) st ≡ Stood → (keeps ≡ true) × (st ≡ Stood)
cut_stood st true e = (refl, e)
cut_stood NoClear false e = absurd (grind arith)
cut_stood Stood false e = absurd (grind arith)
cut_stood Cut false e = absurd (grind arith)

pub history_on : (s : Scene) (past : List Entry) (w : World) (t : Tally) (e : Entry) → after s past ≡ w → LegalEntry s w e → Tracked s w t → History s past w t → History s (past ++ e ∷ []) (after_entry s w e) (tally_after s w e t)
history_on s past w t (Light c) here legal tracked old d h = stood_on s past w (Light c) d here (old d h) (stamp_keeps s w (Light c) (window_of s d) refl) (place_same s w c _ d refl)
history_on s past w t (Kernel c found) here legal tracked old d h = stood_on s past w (Kernel c found) d here (old d h) (stamp_keeps s w (Kernel c found) (window_of s d) refl) (place_same s w c (taken_in s w c) d refl)
history_on s past w t (Stale c) here legal tracked old d h = stood_on s past w (Stale c) d here (old d h) (stamp_keeps s w (Stale c) (window_of s d) refl) (place_same s w c _ d refl)
history_on s past w t (Emit c groups) here legal tracked old d h = stood_on s past w (Emit c groups) d here (old d h) (stamp_keeps s w (Emit c groups) (window_of s d) refl) (place_same s w c _ d refl)
history_on s past w t (Place c u first n) here legal tracked old d h = stood_on s past w (Place c u first n) d here (old d h) (stamp_keeps s w (Place c u first n) (window_of s d) refl) (place_same s w c (placed_by s w c u first n) d refl)
history_on s past w t (Leave c) here legal tracked old d h = stood_on s past w (Leave c) d here (old d h) (stamp_keeps s w (Leave c) (window_of s d) refl) (place_same s w c _ d refl)
history_on s past w t (Info c) here legal tracked old d h = stood_on s past w (Info c) d here (old d h) (stamp_keeps s w (Info c) (window_of s d) refl) (place_same s w c _ d refl)
history_on s past w t (Change i) here legal tracked old d h =
    let was = cut_stood (t.standing d) (keeps s w (Change i) (window_of s d)) h in stood_on s past w (Change i) d here (old d was.1) was.0 (λ first o. o)
history_on s past w t (Gone c) here legal tracked old d h =
    let was = cut_stood (t.standing d) (keeps s w (Gone c) (window_of s d)) h in stood_on s past w (Gone c) d here (old d was.1) was.0 (place_same s w c _ d refl)
history_on s past w t (Run c i) here legal tracked old d h = by_client (cases_eq d c)
  where
    place : ((after_entry s w (Run c i)).client c).place ≡ i + 1
    place = ap (λ p. p.place) (put_here w.client c (run_by s w c i))

    same : (c == c) ≡ true
    same = grind (arith, nat_tests)

    no_stood : NoClear ≡ Stood → ⊥
    no_stood e = grind arith

    -- behind a clear it has stood since
    cleared : is_clear (slice_get (commands_of s c) (pred i)) ≡ true → StoodSince s (past ++ Run c i ∷ []) (after_entry s w (Run c i)) c
    cleared clear = record {
      first = i;
      before = past;
      since = [];
      begun = record { counted = rw legal.1 (tracked.started c); order = rw place (omega arith); clear = clear; inner = λ j a b. absurd (omega (arith, a, rw place at b)) };
      split = refl;
      stands = tt;
    }

    -- behind a command that is neither clear nor swap it stands as before
    goes_on : is_clear (slice_get (commands_of s c) (pred i)) ≡ false → is_swap (slice_get (commands_of s c) (pred i)) ≡ false → t.standing c ≡ Stood → StoodSince s (past ++ Run c i ∷ []) (after_entry s w (Run c i)) c
    goes_on no_clear no_swap stood = stood_on s past w (Run c i) c here (old c stood) (stamp_keeps s w (Run c i) (window_of s c) refl)
        (λ first o. rw place (open_on (commands_of s c) first i no_clear no_swap (subst (IsOpen (commands_of s c) first) (sym legal.1) o)))

    by_command : (command : Option Command) → slice_get (commands_of s c) (pred i) ≡ command → standing_after command (t.standing c) ≡ Stood → StoodSince s (past ++ Run c i ∷ []) (after_entry s w (Run c i)) c
    by_command (Some (Command_is.Clear colour depth)) is e = cleared (ap is_clear is)
    by_command (Some Command_is.Swap) is e = absurd (no_stood e)
    by_command (Some (Command_is.Set setting)) is e = goes_on (ap is_clear is) (ap is_swap is) e
    by_command (Some (Command_is.Triangle u)) is e = goes_on (ap is_clear is) (ap is_swap is) e
    by_command (Some Command_is.Yield) is e = goes_on (ap is_clear is) (ap is_swap is) e
    by_command (Some Command_is.Die) is e = goes_on (ap is_clear is) (ap is_swap is) e
    by_command None is e = goes_on (ap is_clear is) (ap is_swap is) e

    own : (tally_after s w (Run c i) t).standing c ≡ Stood → StoodSince s (past ++ Run c i ∷ []) (after_entry s w (Run c i)) c
    own e = by_command (command_at s c i) refl (rw same at e)

    by_client : (d ≡ c) ⊎ (d ≡ c → ⊥) → StoodSince s (past ++ Run c i ∷ []) (after_entry s w (Run c i)) d
    by_client (inl e) = subst (StoodSince s (past ++ Run c i ∷ []) (after_entry s w (Run c i))) (sym e) (own (subst (λ k. (tally_after s w (Run c i) t).standing k ≡ Stood) e h))
    by_client (inr ne) = stood_on s past w (Run c i) d here (old d (rw other at h)) (stamp_keeps s w (Run c i) (window_of s d) refl) (λ first o. rw (put_there w.client c (run_by s w c i) d ne) o)
      where
        other : (d == c) ≡ false
        other = grind (arith, nat_tests)
