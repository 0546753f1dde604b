-- The frames that entries end, once each.
use Rattle.std.proofs.Common.{◌≡◌, ◌≢◌, ◌<◌, ◌≤◌, ◌+◌, ◌-◌, ℕ, zero, suc, List, [], ◌∷◌, ◌++◌, length, Bool, true, false, Option, Some, None, arith, refl, sym, ap, ◌∙◌, subst}
use Rattle.std.specs.Prelude.{pred, slice_get, AllPairs, Contains}
use Rattle.std.specs.List.{All}
use Rattle.std.proofs.lemmas.Bool.{true≢false}
use Rattle.std.proofs.lemmas.List.{append_assoc, length-append}
use Rattle.std.proofs.lemmas.List.Elements.{All-nil, All-cons, All-append, All-head, All-tail, Contains-append_right}
use Rattle.std.proofs.lemmas.List.Kept.{AllPairs-cons}
use Rattle.dri_base.specs.declared.command.Command.{Command}
use Rattle.dri_base.specs.declared.command.Command.TheVariants as Command_is
use Rattle.dri_base.specs.declared.journal.Entry.{Entry}
use Rattle.dri_base.specs.declared.journal.Entry.TheVariants.{Light, Kernel, Stale, Emit, Place, Leave, Info, Change, Run, Gone}
use Rattle.dri_base.specs.declared.scene.Scene.{Scene}
use Rattle.dri_base.specs.Scenes.{commands_of, command_at}
use Rattle.dri_model.proofs.Touches.{how_many_below}
use Rattle.dri_core.specs.Effects.{run_by, placed_by, taken_in}
use Rattle.dri_core.specs.EntryTable.{LegalEntry, after_entry}
use Rattle.dri_meaning.specs.Reports.{Standing, NoClear, Stood, Cut, Tally, counts_frame, counts_stood, tally_after, tally_from}
use Rattle.dri_core.specs.Runs.{after_entries, LegalEntries}
use Rattle.dri_core.specs.Solo.{frame, is_swap, swaps_before, IsFrame}
use Rattle.dri_core.specs.Worlds.{World}
use Rattle.dri_core.proofs.FrameNumbers.{frame_is, one_more}
use Rattle.dri_core.proofs.Parts.{put_keeps, put_here}
use Rattle.dri_meaning.proofs.OpenFrames.{IsOpen, OpenIn, Tracked, tracked_on}

-- one item where the count is 1
abbrev pub pick : {A : Type 0} → ℕ → A → List A
pick zero a = []
pick (suc n) a = a ∷ []

-- how a command counts, by its client's standing
abbrev pub Count : Type 0
Count = Option Command → Standing → ℕ

-- the frame that an entry ends, where it counts
abbrev pub ended : Scene → Count → Tally → Entry → List (ℕ × ℕ)
ended s count t (Run c i) = pick (count (command_at s c i) (t.standing c)) (c, swaps_before (commands_of s c) i + 1)
ended s count t (Light c) = []
ended s count t (Kernel c found) = []
ended s count t (Stale c) = []
ended s count t (Emit c groups) = []
ended s count t (Place c u first n) = []
ended s count t (Leave c) = []
ended s count t (Info c) = []
ended s count t (Change i) = []
ended s count t (Gone c) = []

-- the frames that entries end
abbrev pub ends : Scene → Count → World → Tally → List Entry → List (ℕ × ℕ)
ends s count w t [] = []
ends s count w t (e ∷ es) = ended s count t e ++ ends s count (after_entry s w e) (tally_after s w e t) es

-- what counts is a swap, and counts once
pub record Counting (count : Count) : Type 0 where
  pub none : (command : Option Command) (st : Standing) → is_swap command ≡ false → count command st ≡ 0
  pub once : (command : Option Command) (st : Standing) → count command st ≤ 1
  pub begun : (command : Option Command) → count command NoClear ≡ 0

pub frame_swaps : (command : Option Command) (st : Standing) → is_swap command ≡ false → counts_frame command st ≡ 0
frame_swaps (Some Command_is.Swap) st e = absurd (true≢false e)
frame_swaps (Some (Command_is.Clear colour depth)) st e = refl
frame_swaps (Some (Command_is.Set setting)) st e = refl
frame_swaps (Some (Command_is.Triangle t)) st e = refl
frame_swaps (Some Command_is.Yield) st e = refl
frame_swaps (Some Command_is.Die) st e = refl
frame_swaps None st e = refl

pub stood_swaps : (command : Option Command) (st : Standing) → is_swap command ≡ false → counts_stood command st ≡ 0
stood_swaps (Some Command_is.Swap) st e = absurd (true≢false e)
stood_swaps (Some (Command_is.Clear colour depth)) st e = refl
stood_swaps (Some (Command_is.Set setting)) st e = refl
stood_swaps (Some (Command_is.Triangle t)) st e = refl
stood_swaps (Some Command_is.Yield) st e = refl
stood_swaps (Some Command_is.Die) st e = refl
stood_swaps None st e = refl

pub frame_once : (command : Option Command) (st : Standing) → counts_frame command st ≤ 1
frame_once (Some Command_is.Swap) NoClear = omega arith
frame_once (Some Command_is.Swap) Stood = omega arith
frame_once (Some Command_is.Swap) Cut = omega arith
frame_once (Some (Command_is.Clear colour depth)) st = omega arith
frame_once (Some (Command_is.Set setting)) st = omega arith
frame_once (Some (Command_is.Triangle t)) st = omega arith
frame_once (Some Command_is.Yield) st = omega arith
frame_once (Some Command_is.Die) st = omega arith
frame_once None st = omega arith

pub stood_once : (command : Option Command) (st : Standing) → counts_stood command st ≤ 1
stood_once (Some Command_is.Swap) NoClear = omega arith
stood_once (Some Command_is.Swap) Stood = omega arith
stood_once (Some Command_is.Swap) Cut = omega arith
stood_once (Some (Command_is.Clear colour depth)) st = omega arith
stood_once (Some (Command_is.Set setting)) st = omega arith
stood_once (Some (Command_is.Triangle t)) st = omega arith
stood_once (Some Command_is.Yield) st = omega arith
stood_once (Some Command_is.Die) st = omega arith
stood_once None st = omega arith

pub frame_begun : (command : Option Command) → counts_frame command NoClear ≡ 0
frame_begun (Some Command_is.Swap) = refl
frame_begun (Some (Command_is.Clear colour depth)) = refl
frame_begun (Some (Command_is.Set setting)) = refl
frame_begun (Some (Command_is.Triangle t)) = refl
frame_begun (Some Command_is.Yield) = refl
frame_begun (Some Command_is.Die) = refl
frame_begun None = refl

pub stood_begun : (command : Option Command) → counts_stood command NoClear ≡ 0
stood_begun (Some Command_is.Swap) = refl
stood_begun (Some (Command_is.Clear colour depth)) = refl
stood_begun (Some (Command_is.Set setting)) = refl
stood_begun (Some (Command_is.Triangle t)) = refl
stood_begun (Some Command_is.Yield) = refl
stood_begun (Some Command_is.Die) = refl
stood_begun None = refl

pub frame_counting : Counting counts_frame
frame_counting = record { none = frame_swaps; once = frame_once; begun = frame_begun }

pub stood_counting : Counting counts_stood
stood_counting = record { none = stood_swaps; once = stood_once; begun = stood_begun }

-- the list is as long as the count
pub pick_length : (n : ℕ) (a : ℕ × ℕ) → n ≤ 1 → length (pick n a) ≡ n
pick_length zero a l = refl
pick_length (suc zero) a l = refl
pick_length (suc (suc n)) a l = absurd (omega (arith, l))

pub frames_length : (s : Scene) (w : World) (t : Tally) (es : List Entry) → (tally_from s w t es).frames ≡ t.frames + length (ends s counts_frame w t es)
frames_length s w t [] = omega arith
frames_length s w t (Run c i ∷ es) = omega (arith, frames_length s (after_entry s w (Run c i)) (tally_after s w (Run c i) t) es, length-append (ended s counts_frame t (Run c i)) (ends s counts_frame (after_entry s w (Run c i)) (tally_after s w (Run c i) t) es), pick_length (counts_frame (command_at s c i) (t.standing c)) (c, swaps_before (commands_of s c) i + 1) (frame_once (command_at s c i) (t.standing c)))
frames_length s w t (Light c ∷ es) = frames_length s (after_entry s w (Light c)) t es
frames_length s w t (Kernel c found ∷ es) = frames_length s (after_entry s w (Kernel c found)) t es
frames_length s w t (Stale c ∷ es) = frames_length s (after_entry s w (Stale c)) t es
frames_length s w t (Emit c groups ∷ es) = frames_length s (after_entry s w (Emit c groups)) t es
frames_length s w t (Place c u first n ∷ es) = frames_length s (after_entry s w (Place c u first n)) t es
frames_length s w t (Leave c ∷ es) = frames_length s (after_entry s w (Leave c)) t es
frames_length s w t (Info c ∷ es) = frames_length s (after_entry s w (Info c)) t es
frames_length s w t (Change i ∷ es) = frames_length s (after_entry s w (Change i)) (tally_after s w (Change i) t) es
frames_length s w t (Gone c ∷ es) = frames_length s (after_entry s w (Gone c)) (tally_after s w (Gone c) t) es

pub stood_length : (s : Scene) (w : World) (t : Tally) (es : List Entry) → (tally_from s w t es).stood ≡ t.stood + length (ends s counts_stood w t es)
stood_length s w t [] = omega arith
stood_length s w t (Run c i ∷ es) = omega (arith, stood_length s (after_entry s w (Run c i)) (tally_after s w (Run c i) t) es, length-append (ended s counts_stood t (Run c i)) (ends s counts_stood (after_entry s w (Run c i)) (tally_after s w (Run c i) t) es), pick_length (counts_stood (command_at s c i) (t.standing c)) (c, swaps_before (commands_of s c) i + 1) (stood_once (command_at s c i) (t.standing c)))
stood_length s w t (Light c ∷ es) = stood_length s (after_entry s w (Light c)) t es
stood_length s w t (Kernel c found ∷ es) = stood_length s (after_entry s w (Kernel c found)) t es
stood_length s w t (Stale c ∷ es) = stood_length s (after_entry s w (Stale c)) t es
stood_length s w t (Emit c groups ∷ es) = stood_length s (after_entry s w (Emit c groups)) t es
stood_length s w t (Place c u first n ∷ es) = stood_length s (after_entry s w (Place c u first n)) t es
stood_length s w t (Leave c ∷ es) = stood_length s (after_entry s w (Leave c)) t es
stood_length s w t (Info c ∷ es) = stood_length s (after_entry s w (Info c)) t es
stood_length s w t (Change i ∷ es) = stood_length s (after_entry s w (Change i)) (tally_after s w (Change i) t) es
stood_length s w t (Gone c ∷ es) = stood_length s (after_entry s w (Gone c)) (tally_after s w (Gone c) t) es

-- places only rise
pub place_on : (s : Scene) (w : World) (e : Entry) (d : ℕ) → LegalEntry s w e → (w.client d).place ≤ ((after_entry s w e).client d).place
place_on s w (Light c) d legal = put_keeps (λ k p. (w.client k).place ≤ p.place) w.client c _ d (omega arith) (omega arith)
place_on s w (Kernel c found) d legal = put_keeps (λ k p. (w.client k).place ≤ p.place) w.client c (taken_in s w c) d (omega arith) (omega arith)
place_on s w (Stale c) d legal = put_keeps (λ k p. (w.client k).place ≤ p.place) w.client c _ d (omega arith) (omega arith)
place_on s w (Emit c groups) d legal = put_keeps (λ k p. (w.client k).place ≤ p.place) w.client c _ d (omega arith) (omega arith)
place_on s w (Place c u first n) d legal = put_keeps (λ k p. (w.client k).place ≤ p.place) w.client c (placed_by s w c u first n) d (omega arith) (omega arith)
place_on s w (Run c i) d legal = put_keeps (λ k p. (w.client k).place ≤ p.place) w.client c (run_by s w c i) d (omega (arith, legal.1)) (omega arith)
place_on s w (Leave c) d legal = put_keeps (λ k p. (w.client k).place ≤ p.place) w.client c _ d (omega arith) (omega arith)
place_on s w (Info c) d legal = put_keeps (λ k p. (w.client k).place ≤ p.place) w.client c _ d (omega arith) (omega arith)
place_on s w (Change i) d legal = omega arith
place_on s w (Gone c) d legal = put_keeps (λ k p. (w.client k).place ≤ p.place) w.client c _ d (omega arith) (omega arith)

pub places_on : (s : Scene) (w : World) (es : List Entry) (d : ℕ) → LegalEntries s w es → (w.client d).place ≤ ((after_entries s w es).client d).place
places_on s w [] d legal = omega arith
places_on s w (e ∷ es) d legal = omega (arith, place_on s w e d legal.0, places_on s (after_entry s w e) es d legal.1)

pub swaps_rise : (cs : List Command) (a b : ℕ) → 0 < a → a ≤ b → swaps_before cs a ≤ swaps_before cs b
swaps_rise cs a b l le = let e : pred b ≡ (b - a) + pred a = omega arith in rw e (how_many_below (λ j. is_swap (slice_get cs j)) (pred a) (b - a))

-- frames that end later have higher numbers
abbrev pub Later : Scene → World → ℕ × ℕ → Type 0
Later s w f = swaps_before (commands_of s f.0) (w.client f.0).place < f.1

pub all_later : (s : Scene) (w : World) (e : Entry) (fs : List (ℕ × ℕ)) → LegalEntry s w e → ((c : ℕ) → 0 < (w.client c).place) → All (Later s (after_entry s w e)) fs → All (Later s w) fs
all_later s w e [] legal started all = All-nil (Later s w)
all_later s w e (f ∷ fs) legal started all = All-cons (Later s w) f fs
    (omega (arith, All-head (Later s (after_entry s w e)) f fs all, swaps_rise (commands_of s f.0) (w.client f.0).place ((after_entry s w e).client f.0).place (started f.0) (place_on s w e f.0 legal)))
    (all_later s w e fs legal started (All-tail (Later s (after_entry s w e)) f fs all))

module _ (s : Scene) (count : Count) (counting : Counting count) where
  -- an entry that counts is a swap of its client at its place
  pub counted_swap : (command : Option Command) (st : Standing) (n : ℕ) → count command st ≡ suc n → is_swap command ≡ true
  counted_swap command st n e = by_swap (is_swap command) refl
    where
      by_swap : (b : Bool) → is_swap command ≡ b → is_swap command ≡ true
      by_swap true h = h
      by_swap false h = absurd (omega (arith, e, counting.none command st h))

  pub ended_later : (w : World) (t : Tally) (e : Entry) → LegalEntry s w e → All (Later s w) (ended s count t e)
  ended_later w t (Run c i) legal = by_count (count (command_at s c i) (t.standing c))
    where
      by_count : (n : ℕ) → All (Later s w) (pick n (c, swaps_before (commands_of s c) i + 1))
      by_count zero = All-nil (Later s w)
      by_count (suc n) = All-cons (Later s w) (c, swaps_before (commands_of s c) i + 1) [] (rw (sym legal.1) (omega arith)) (All-nil (Later s w))
  ended_later w t (Light c) legal = All-nil (Later s w)
  ended_later w t (Kernel c found) legal = All-nil (Later s w)
  ended_later w t (Stale c) legal = All-nil (Later s w)
  ended_later w t (Emit c groups) legal = All-nil (Later s w)
  ended_later w t (Place c u first n) legal = All-nil (Later s w)
  ended_later w t (Leave c) legal = All-nil (Later s w)
  ended_later w t (Info c) legal = All-nil (Later s w)
  ended_later w t (Change i) legal = All-nil (Later s w)
  ended_later w t (Gone c) legal = All-nil (Later s w)

  pub ends_later : (w : World) (t : Tally) (es : List Entry) → Tracked s w t → LegalEntries s w es → All (Later s w) (ends s count w t es)
  ends_later w t [] tracked legal = All-nil (Later s w)
  ends_later w t (e ∷ es) tracked legal = All-append (Later s w) (ended s count t e) (ends s count (after_entry s w e) (tally_after s w e t) es) (ended_later w t e legal.0)
      (all_later s w e (ends s count (after_entry s w e) (tally_after s w e t) es) legal.0 tracked.started (ends_later (after_entry s w e) (tally_after s w e t) es (tracked_on s w t e legal.0 tracked) legal.1))

  -- no frame is counted twice
  pub not_later : (w : World) (c i : ℕ) (fs : List (ℕ × ℕ)) → LegalEntry s w (Run c i) → (0 < (w.client c).place) → is_swap (command_at s c i) ≡ true → All (Later s (after_entry s w (Run c i))) fs → All (λ f. (c, swaps_before (commands_of s c) i + 1) ≢ f) fs
  not_later w c i [] legal started swap all = All-nil (λ f. (c, swaps_before (commands_of s c) i + 1) ≢ f)
  not_later w c i (f ∷ fs) legal started swap all = All-cons (λ f. (c, swaps_before (commands_of s c) i + 1) ≢ f) f fs (λ e. clash e (All-head (Later s (after_entry s w (Run c i))) f fs all)) (not_later w c i fs legal started swap (All-tail (Later s (after_entry s w (Run c i))) f fs all))
    where
      place : ((after_entry s w (Run c i)).client c).place ≡ i + 1
      place = ap (λ p. p.place) (put_here w.client c (run_by s w c i))

      here : swaps_before (commands_of s c) i + 1 ≡ swaps_before (commands_of s c) (i + 1)
      here = sym (one_more (commands_of s c) i (rw legal.1 started) swap)

      clash : (c, swaps_before (commands_of s c) i + 1) ≡ f → Later s (after_entry s w (Run c i)) f → ⊥
      clash e later = clash_here (subst (Later s (after_entry s w (Run c i))) (sym e) later)
        where
          clash_here : Later s (after_entry s w (Run c i)) (c, swaps_before (commands_of s c) i + 1) → ⊥
          clash_here l = omega (arith, rw place at l, here)

  pub apart : (w : World) (t : Tally) (es : List Entry) → Tracked s w t → LegalEntries s w es → AllPairs ◌≢◌ (ends s count w t es)
  apart w t [] tracked legal = λ i j d l m. absurd (omega (arith, m))
  apart w t (Run c i ∷ es) tracked legal = by_count (count (command_at s c i) (t.standing c)) refl (apart (after_entry s w (Run c i)) (tally_after s w (Run c i) t) es on legal.1)
    where
      on : Tracked s (after_entry s w (Run c i)) (tally_after s w (Run c i) t)
      on = tracked_on s w t (Run c i) legal.0 tracked

      by_count : (n : ℕ) → count (command_at s c i) (t.standing c) ≡ n → AllPairs ◌≢◌ (ends s count (after_entry s w (Run c i)) (tally_after s w (Run c i) t) es) →
          AllPairs ◌≢◌ (pick n (c, swaps_before (commands_of s c) i + 1) ++ ends s count (after_entry s w (Run c i)) (tally_after s w (Run c i) t) es)
      by_count zero e rest = rest
      by_count (suc n) e rest = AllPairs-cons ◌≢◌ (c, swaps_before (commands_of s c) i + 1) (ends s count (after_entry s w (Run c i)) (tally_after s w (Run c i) t) es)
          (not_later w c i (ends s count (after_entry s w (Run c i)) (tally_after s w (Run c i) t) es) legal.0 (tracked.started c) (counted_swap (command_at s c i) (t.standing c) n e)
          (ends_later (after_entry s w (Run c i)) (tally_after s w (Run c i) t) es on legal.1)) rest
  apart w t (Light c ∷ es) tracked legal = apart (after_entry s w (Light c)) t es (tracked_on s w t (Light c) legal.0 tracked) legal.1
  apart w t (Kernel c found ∷ es) tracked legal = apart (after_entry s w (Kernel c found)) t es (tracked_on s w t (Kernel c found) legal.0 tracked) legal.1
  apart w t (Stale c ∷ es) tracked legal = apart (after_entry s w (Stale c)) t es (tracked_on s w t (Stale c) legal.0 tracked) legal.1
  apart w t (Emit c groups ∷ es) tracked legal = apart (after_entry s w (Emit c groups)) t es (tracked_on s w t (Emit c groups) legal.0 tracked) legal.1
  apart w t (Place c u first n ∷ es) tracked legal = apart (after_entry s w (Place c u first n)) t es (tracked_on s w t (Place c u first n) legal.0 tracked) legal.1
  apart w t (Leave c ∷ es) tracked legal = apart (after_entry s w (Leave c)) t es (tracked_on s w t (Leave c) legal.0 tracked) legal.1
  apart w t (Info c ∷ es) tracked legal = apart (after_entry s w (Info c)) t es (tracked_on s w t (Info c) legal.0 tracked) legal.1
  apart w t (Change i ∷ es) tracked legal = apart (after_entry s w (Change i)) (tally_after s w (Change i) t) es (tracked_on s w t (Change i) legal.0 tracked) legal.1
  apart w t (Gone c ∷ es) tracked legal = apart (after_entry s w (Gone c)) (tally_after s w (Gone c) t) es (tracked_on s w t (Gone c) legal.0 tracked) legal.1

  -- entries after entries
  pub ends_append : (w : World) (t : Tally) (xs ys : List Entry) → ends s count w t (xs ++ ys) ≡ ends s count w t xs ++ ends s count (after_entries s w xs) (tally_from s w t xs) ys
  ends_append w t [] ys = refl
  ends_append w t (e ∷ xs) ys = ap (λ fs. ended s count t e ++ fs) (ends_append (after_entry s w e) (tally_after s w e t) xs ys) ∙
      sym (append_assoc (ended s count t e) (ends s count (after_entry s w e) (tally_after s w e t) xs) (ends s count (after_entries s (after_entry s w e) xs) (tally_from s (after_entry s w e) (tally_after s w e t) xs) ys))

  -- a swap that counts is in the list
  pub counted_there : (w : World) (t : Tally) (past rest : List Entry) (c i : ℕ) → count (command_at s c i) ((tally_from s w t past).standing c) ≡ 1 → Contains (ends s count w t (past ++ Run c i ∷ rest)) (c, swaps_before (commands_of s c) i + 1)
  counted_there w t past rest c i e = rw (ends_append w t past (Run c i ∷ rest)) (Contains-append_right (ends s count w t past) _ (c, swaps_before (commands_of s c) i + 1) (rw e (0, omega arith, refl)))

-- what is tracked along entries
pub tracked_along : (s : Scene) (w : World) (t : Tally) (es : List Entry) → LegalEntries s w es → Tracked s w t → Tracked s (after_entries s w es) (tally_from s w t es)
tracked_along s w t [] legal tracked = tracked
tracked_along s w t (e ∷ es) legal tracked = tracked_along s (after_entry s w e) (tally_after s w e t) es legal.1 (tracked_on s w t e legal.0 tracked)

pub tally_append : (s : Scene) (w : World) (t : Tally) (xs ys : List Entry) → tally_from s w t (xs ++ ys) ≡ tally_from s (after_entries s w xs) (tally_from s w t xs) ys
tally_append s w t [] ys = refl
tally_append s w t (e ∷ xs) ys = tally_append s (after_entry s w e) (tally_after s w e t) xs ys

-- an open frame that is swapped is a frame
pub open_frame : (cs : List Command) (first i : ℕ) → IsOpen cs first i → is_swap (slice_get cs (pred i)) ≡ true → frame cs (swaps_before cs i + 1) ≡ Some (first, i)
open_frame cs first i o swap = frame_is cs (swaps_before cs i + 1) first i (record { counted = o.counted; order = o.order; clear = o.clear; swap = swap; number = refl; inner = o.inner })

pub frame_open : (cs : List Command) (k first last : ℕ) → IsFrame cs k first last → IsOpen cs first last
frame_open cs k first last f = record { counted = f.counted; order = f.order; clear = f.clear; inner = f.inner }

-- the client's open frame at its place
pub open_here : (s : Scene) (w : World) (t : Tally) (c i : ℕ) → LegalEntry s w (Run c i) → Tracked s w t → (t.standing c ≡ NoClear → ⊥) → (first : ℕ) × IsOpen (commands_of s c) first i
open_here s w t c i legal tracked begun = subst (λ p. (first : ℕ) × IsOpen (commands_of s c) first p) (sym legal.1) (by_standing (t.standing c) refl (tracked.stands c))
  where
    by_standing : (st : Standing) → t.standing c ≡ st → OpenIn (commands_of s c) (w.client c).place st → (first : ℕ) × IsOpen (commands_of s c) first (w.client c).place
    by_standing NoClear e o = absurd (begun e)
    by_standing Stood e o = o
    by_standing Cut e o = o
