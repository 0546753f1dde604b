-- What the shared area shows of the scene's windows and of the card's owner.
use Rattle.std.proofs.Common.{◌≡◌, ◌≤◌, ℕ, ◌+◌, List, [], ◌∷◌, ◌++◌, map, Bool, true, false, if◌then◌else◌, Option, Some, None, refl, ◌∙◌, sym, ap, arith, inl, inr, All, Contains, Result, Ok, Err, IfOk}
use Rattle.std.specs.List.{AllByRecursion, range_with_len}
use Rattle.std.proofs.lemmas.Bool.{true≢false}
use Rattle.std.proofs.lemmas.Bool.Decides.{eqb_tells}
use Rattle.std.proofs.lemmas.List.Elements.{All-map}
use Rattle.std.proofs.lemmas.List.FromFn.{map-range_with_len_more}
use Rattle.dri_base.specs.Ranges.{InRange, window_numbers}
use Rattle.dri_base.specs.declared.journal.Entry.{Entry}
use Rattle.dri_base.specs.declared.journal.Entry.TheVariants.{Light, Kernel, Stale, Emit, Place, Leave, Info, Change, Run, Gone}
use Rattle.dri_base.specs.declared.scene.Scene.{Scene}
use Rattle.dri_base.specs.declared.scene.Window.{Window}
use Rattle.dri_base.proofs.RangeLemmas.{well_formed}
use Rattle.dri_core.specs.EntryTable.{LegalEntry, after_entry}
use Rattle.dri_core.specs.Phases.{Out}
use Rattle.dri_core.specs.Runs.{HoldRun, LegalEntries, after, after_entries}
use Rattle.dri_core.specs.Worlds.{World, opening}
use Rattle.dri_core.proofs.Lively.{Lively, lively_opened, lively_step, not_empty}
use Rattle.dri_core.proofs.Sound.{Sound, sound_kept, sound_opened}
use Rattle.dri_model.specs.Stacks.{window_in}
use Rattle.dri_model.specs.Heaps.{Heap}
use Rattle.dri_sarea.specs.Areas.{all_entries}
use Rattle.dri_sarea.specs.declared.drawable.Drawable.{Drawable}
use Rattle.dri_clips.specs.Boards.{stamps_of}
use Rattle.dri_shared.specs.Areas.{HaveSameNumbers, area_of, drawable_of, drawables_of, has_number, shown_with}
use Rattle.dri_shared.specs.Holdings.{IsWorld}
use Rattle.dri_shared.specs.declared.holdings.Holdings.{Holdings}
use Rattle.dri_texheap.specs.RegionStates.{heap_of}
use Rattle.dri_shared.proofs.Clients.{number_below}
use Rattle.dri_core.proofs.Windows.{Has, has_after, has_contains}
use Rattle.dri_shared.proofs.Windows.{IsOther, others_after}

-- a window is there, or each has another number
has_some : (ws : List Window) (n : ℕ) → has_number ws n ≡ true → Has n ws
has_some [] n e = absurd (true≢false (sym e))
has_some (w ∷ ws) n e =
    elim (eqb_tells w.number n) as (λ _. Has n (w ∷ ws)) [
      | inl same ↦ inl same.1
      | inr other ↦ inr (has_some ws n (rw other.0 at e))
    ]

some_has : (ws : List Window) (n : ℕ) → Has n ws → has_number ws n ≡ true
some_has [] n h = elim h [ ]
some_has (w ∷ ws) n h =
    elim (eqb_tells w.number n) as (λ _. has_number (w ∷ ws) n ≡ true) [
      | inl same ↦ rw same.0 refl
      | inr other ↦ rw other.0 (some_has ws n (elim h as (λ _. Has n ws) [ inl e ↦ absurd (other.1 e) | inr rest ↦ rest ]))
    ]

has_none : (ws : List Window) (n : ℕ) → has_number ws n ≡ false → AllByRecursion (IsOther n) ws
has_none [] n e = tt
has_none (w ∷ ws) n e =
    elim (eqb_tells w.number n) as (λ _. AllByRecursion (IsOther n) (w ∷ ws)) [
      | inl same ↦ absurd (true≢false (rw same.0 at e))
      | inr other ↦ (other.1, has_none ws n (rw other.0 at e))
    ]

none_has : (ws : List Window) (n : ℕ) → AllByRecursion (IsOther n) ws → has_number ws n ≡ false
none_has [] n all = refl
none_has (w ∷ ws) n all =
    elim (eqb_tells w.number n) as (λ _. has_number (w ∷ ws) n ≡ false) [
      | inl same ↦ absurd (all.0 same.1)
      | inr other ↦ rw other.0 (none_has ws n all.1)
    ]

-- the stack has the scene's windows
pub same_numbers : (s : Scene) (journal : List Entry) → HaveSameNumbers s.windows (after s journal).stack
same_numbers s journal n = by_case (has_number s.windows n) refl
  where
    by_case : (b : Bool) → has_number s.windows n ≡ b → has_number s.windows n ≡ has_number (after s journal).stack n
    by_case true e = e ∙ sym (some_has (after s journal).stack n (has_after s journal n (has_some s.windows n e)))
    by_case false e = e ∙ sym (none_has (after s journal).stack n (others_after s journal n (has_none s.windows n e)))

-- a number that is there is one of the numbers
pub number_there : (windows stack : List Window) (n : ℕ) → HaveSameNumbers windows stack → has_number windows n ≡ true → Contains (window_numbers stack) n
number_there windows stack n same e = has_contains stack n (has_some stack n (sym (same n) ∙ e))

-- flags are 0 or 1
pub shown_flags : (stack : List Window) (stamps : ℕ → ℕ) → All (λ d. d.flags ≤ 1) (drawables_of stack stamps)
shown_flags stack stamps = All-map (λ (d : Drawable). d.flags ≤ 1) (drawable_of stack stamps) (range_with_len 0 256) (λ k d l. one (stamps _) (window_in stack _))
  where
    one : (stamp : ℕ) (o : Option Window) → (shown_with stamp o).flags ≤ 1
    one stamp None = omega arith
    one stamp (Some w) = bit w.mapped
      where
        bit : (b : Bool) → (if b then 1 else 0) ≤ 1
        bit true = omega arith
        bit false = omega arith

-- one drawable more
pub shown_more : (stack : List Window) (stamps : ℕ → ℕ) (ds more : List Drawable) (d : Drawable) (n : ℕ) → more ≡ ds ++ d ∷ [] → ds ≡ map (drawable_of stack stamps) (range_with_len 0 n) → d ≡ drawable_of stack stamps n →
    more ≡ map (drawable_of stack stamps) (range_with_len 0 (n + 1))
shown_more stack stamps ds more d n pushed so_far is = rw (pushed, so_far, is) (sym (map-range_with_len_more (drawable_of stack stamps) 0 n n (omega arith)))

-- the owner is nobody, or the context of a client
owner_step : (s : Scene) (w : World) (e : Entry) → InRange s → Lively s w → LegalEntry s w e → w.owner ≤ 33 → (after_entry s w e).owner ≤ 33
owner_step s w (Kernel c found) good lively legal low = omega (arith, number_below s c good (not_empty s w c Out lively legal.0 (λ e. cc)))
owner_step s w (Light c) good lively legal low = low
owner_step s w (Stale c) good lively legal low = low
owner_step s w (Emit c groups) good lively legal low = low
owner_step s w (Place c t first count) good lively legal low = low
owner_step s w (Run c i) good lively legal low = low
owner_step s w (Leave c) good lively legal low = low
owner_step s w (Info c) good lively legal low = low
owner_step s w (Change i) good lively legal low = low
owner_step s w (Gone c) good lively legal low = low

owner_along : (s : Scene) (w : World) (es : List Entry) → InRange s → Sound s w → Lively s w → LegalEntries s w es → w.owner ≤ 33 → (after_entries s w es).owner ≤ 33
owner_along s w [] good sound lively legal low = low
owner_along s w (e ∷ es) good sound lively legal low =
    owner_along s (after_entry s w e) es good (sound_kept s w e (well_formed s good) sound legal.0) (lively_step s w e sound lively legal.0) legal.1 (owner_step s w e good lively legal.0 low)

pub owner_most : (s : Scene) (journal : List Entry) → InRange s → HoldRun s journal → (after s journal).owner ≤ 33
owner_most s journal good run = owner_along s (opening s) journal good (sound_opened s (well_formed s good)) (lively_opened s) run (omega arith)

-- the area of the holdings is the world's
pub area_is : (s t : Scene) (h : Holdings) (w : World) (word age : ℕ) (drawables : List Drawable) → t ≡ s → drawables ≡ drawables_of h.board.stack (stamps_of h.board) → age ≡ (heap_of h.regions).global → IsWorld s h w →
    record { word = word; drawables = drawables; width = t.width; height = t.height; owner = h.owner; age = age; region_count = h.regions.count; region_size = t.region_size; regions = all_entries h.regions.count (heap_of h.regions) } ≡ area_of s w word
area_is s t h w word age drawables same shown aged is = λ i. record {
  word = word;
  drawables = windows i;
  width = (ap {A = Scene} (λ q. q.width) same) i;
  height = (ap {A = Scene} (λ q. q.height) same) i;
  owner = is.owner i;
  age = ages i;
  region_count = is.regions.count i;
  region_size = (ap {A = Scene} (λ q. q.region_size) same) i;
  regions = regions i;
}
  where
    windows : drawables ≡ drawables_of w.stack w.stamps
    windows = shown ∙ (ap (λ (ws : List Window). drawables_of ws (stamps_of h.board)) is.board.windows ∙ ap (λ (f : ℕ → ℕ). drawables_of w.stack f) is.board.given)

    ages : age ≡ w.heap.global
    ages = aged ∙ ap (λ (k : Heap). k.global) is.regions.ages

    regions : all_entries h.regions.count (heap_of h.regions) ≡ all_entries s.regions w.heap
    regions = ap (λ n. all_entries n (heap_of h.regions)) is.regions.count ∙ ap (λ (k : Heap). all_entries s.regions k) is.regions.ages

-- what an answer is, it is also by another name
pub if_ok : {A E : Type 0} (r : Result A E) (x y : A) → x ≡ y → IfOk r (λ a. a ≡ x) → IfOk r (λ a. a ≡ y)
if_ok (Ok a) x y e p = p ∙ e
if_ok (Err f) x y e p = tt
