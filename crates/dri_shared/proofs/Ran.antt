-- What the run of each command makes of the world.
use Rattle.std.proofs.Common.{◌≡◌, ◌<◌, ◌-ℤ◌, ℕ, ◌+◌, pos, List, length, Bool, true, false, if◌then◌else◌, Option, Some, None, slice_set, refl, ◌∙◌, sym, ap}
use Rattle.std.proofs.lemmas.Bool.{true≢false}
use Rattle.dri_base.specs.Scenes.{command_at}
use Rattle.dri_base.specs.declared.colour.Pixel.{Pixel}
use Rattle.dri_base.specs.declared.colour.Rgb.{Rgb}
use Rattle.dri_base.specs.declared.command.Command.{Command}
use Rattle.dri_base.specs.declared.command.Command.TheVariants.{Clear, Die, Set, Swap, Triangle, Yield}
use Rattle.dri_base.specs.declared.journal.Entry.TheVariants.{Run}
use Rattle.dri_base.specs.declared.scene.Scene.{Scene}
use Rattle.dri_base.specs.declared.shape.Point.{Point}
use Rattle.dri_base.specs.declared.shape.Rect.{Rect}
use Rattle.dri_base.specs.declared.state.Setting.{Setting}
use Rattle.dri_base.specs.declared.shape.Triangle.{Triangle as TriangleShape}
use Rattle.dri_card.specs.Contents.{Contents, Holds, KeepSides, Shows, memory_of}
use Rattle.dri_card.specs.Drawing.{OnlyDrawn, OnlyShown}
use Rattle.dri_core.specs.Effects.{back_after, front_after, heap_after, only_where, run_by}
use Rattle.dri_core.specs.EntryTable.{after_entry}
use Rattle.dri_core.specs.Privates.{run_in, used_run, used_spot}
use Rattle.dri_core.specs.Solo.{drawn_by, is_swap}
use Rattle.dri_core.specs.Worlds.{World}
use Rattle.dri_model.specs.Heaps.{Heap, Run as RunOf, Spot}
use Rattle.dri_model.specs.Words.{card_image, rules_in}
use Rattle.dri_shared.specs.Commands.{is_setting, is_yield}
use Rattle.dri_shared.specs.Copies.{IsCopyOf, corner}
use Rattle.dri_draw.specs.Drawing.{OnlyDrawnOn, cleared_in, drawn_in, in_clips, swapped_in}
use Rattle.dri_shared.specs.Drawing.{touched_by_use}
use Rattle.dri_shared.specs.Holdings.{IsCardOf, IsWorld}
use Rattle.dri_shared.specs.declared.holdings.Holdings.{Holdings}
use Rattle.dri_draw.proofs.Drawn.{holds_same, holds_shown, shows_same}
use Rattle.dri_shared.proofs.Places.{places_move}
use Rattle.dri_texheap.specs.RegionStates.{AreRegionsOf, RegionState, heap_of}

-- a command does nothing on the card but what it is for
module _ (s : Scene) (h : Holdings) (w : World) (c i : ℕ) (is : IsWorld s h w) (below : c < 33) where
  -- the run of command i, by what it makes of the card and of the regions
  pub ran : (card : Contents) (regions : RegionState) →
      IsCardOf s (front_after w (w.client c).copy (command_at s c i)) (back_after w (w.client c) (command_at s c i)) w.registers w.memory card →
      AreRegionsOf s (heap_after w.heap (used_spot (w.client c)) (command_at s c i)) regions →
      IsWorld s (record h { card = card; regions = regions; places = slice_set h.places c (i + 1) }) (after_entry s w (Run c i))
  ran card regions cards heaps = record {
    card = cards;
    board = is.board;
    regions = heaps;
    places = places_move w.client c (i + 1) (run_by s w c i) h.places is.places below refl;
    owner = is.owner;
    holder = is.holder;
    left = is.left;
    made = is.made;
  }

same_where : (b : Bool) (p : Pixel) → p ≡ only_where b (λ under. under) p
same_where true p = refl
same_where false p = refl

-- a card that shows and holds the same
card_same : (s : Scene) (card : Contents) (front front' : ℕ → ℕ → Rgb) (back back' : ℕ → ℕ → Pixel) (w : World) → IsCardOf s front back w.registers w.memory card →
    ((x y : ℕ) → front x y ≡ front' x y) → ((x y : ℕ) → back x y ≡ back' x y) → IsCardOf s front' back' w.registers w.memory card
card_same s card front front' back back' w is f b = record {
  sides = is.sides;
  shown = shows_same card front front' f is.shown;
  held = holds_same card back back' b is.held;
  loaded = is.loaded;
  bytes = is.bytes;
  uploads = is.uploads;
}

-- what the command is
setting_is : (o : Option Command) → is_setting o ≡ true → (v : Setting) × (o ≡ Some (Set v))
setting_is (Some (Set v)) e = (v, refl)
setting_is (Some (Clear colour depth)) e = absurd (true≢false (sym e))
setting_is (Some (Triangle t)) e = absurd (true≢false (sym e))
setting_is (Some Swap) e = absurd (true≢false (sym e))
setting_is (Some Yield) e = absurd (true≢false (sym e))
setting_is (Some Die) e = absurd (true≢false (sym e))
setting_is None e = absurd (true≢false (sym e))

yield_is : (o : Option Command) → is_yield o ≡ true → o ≡ Some Yield
yield_is (Some Yield) e = refl
yield_is (Some (Set v)) e = absurd (true≢false (sym e))
yield_is (Some (Clear colour depth)) e = absurd (true≢false (sym e))
yield_is (Some (Triangle t)) e = absurd (true≢false (sym e))
yield_is (Some Swap) e = absurd (true≢false (sym e))
yield_is (Some Die) e = absurd (true≢false (sym e))
yield_is None e = absurd (true≢false (sym e))

swap_is : (o : Option Command) → is_swap o ≡ true → o ≡ Some Swap
swap_is (Some Swap) e = refl
swap_is (Some (Set v)) e = absurd (true≢false (sym e))
swap_is (Some (Clear colour depth)) e = absurd (true≢false (sym e))
swap_is (Some (Triangle t)) e = absurd (true≢false (sym e))
swap_is (Some Yield) e = absurd (true≢false (sym e))
swap_is (Some Die) e = absurd (true≢false (sym e))
swap_is None e = absurd (true≢false (sym e))

-- the regions are used by triangles alone
heap_set : (h : Heap) (r : Option Spot) (v : Setting) → h ≡ heap_after h r (Some (Set v))
heap_set h None v = refl
heap_set h (Some r) v = refl

heap_clear : (h : Heap) (r : Option Spot) (colour : Rgb) (depth : ℕ) → h ≡ heap_after h r (Some (Clear colour depth))
heap_clear h None colour depth = refl
heap_clear h (Some r) colour depth = refl

heap_swap : (h : Heap) (r : Option Spot) → h ≡ heap_after h r (Some Swap)
heap_swap h None = refl
heap_swap h (Some r) = refl

heap_yield : (h : Heap) (r : Option Spot) → h ≡ heap_after h r (Some Yield)
heap_yield h None = refl
heap_yield h (Some r) = refl

heap_triangle : (h : Heap) (r : Option Spot) (t : TriangleShape) → touched_by_use (run_in r) h ≡ heap_after h r (Some (Triangle t))
heap_triangle h None t = refl
heap_triangle h (Some r) t = refl

-- the pixels of the client's copy, by the rectangles that have them
in_copy : (rects : List Rect) (copy : ℕ → ℕ → Bool) (x y : ℕ) → IsCopyOf rects copy → in_clips rects x y ≡ copy x y
in_copy rects copy x y is = is (pos x) (pos y)

where_is : (b : Bool) (f : Pixel → Pixel) (p : Pixel) → (if b then f p else p) ≡ only_where b f p
where_is true f p = refl
where_is false f p = refl

module _ (s : Scene) (h : Holdings) (w : World) (c i : ℕ) (is : IsWorld s h w) (below : c < 33) where
  -- nothing on the card
  pub ran_setting : is_setting (command_at s c i) ≡ true → IsWorld s (record h { places = slice_set h.places c (i + 1) }) (after_entry s w (Run c i))
  ran_setting e = let v = setting_is (command_at s c i) e in ran s h w c i is below h.card h.regions
      (card_same s h.card w.front (front_after w (w.client c).copy (command_at s c i)) w.back (back_after w (w.client c) (command_at s c i)) w is.card (λ x y. rw v.1 refl) (λ x y. rw v.1 (same_where ((w.client c).copy x y) (w.back x y))))
      (record { count = is.regions.count; ages = is.regions.ages ∙ rw v.1 (heap_set w.heap (used_spot (w.client c)) v.0) })

  pub ran_yield : is_yield (command_at s c i) ≡ true → IsWorld s (record h { places = slice_set h.places c (i + 1) }) (after_entry s w (Run c i))
  ran_yield e = let v = yield_is (command_at s c i) e in ran s h w c i is below h.card h.regions
      (card_same s h.card w.front (front_after w (w.client c).copy (command_at s c i)) w.back (back_after w (w.client c) (command_at s c i)) w is.card (λ x y. rw v refl) (λ x y. rw v (same_where ((w.client c).copy x y) (w.back x y))))
      (record { count = is.regions.count; ages = is.regions.ages ∙ rw v (heap_yield w.heap (used_spot (w.client c))) })

  -- a clear in the client's clips
  pub ran_clear : (colour : Rgb) (depth : ℕ) (clips : List Rect) (card : Contents) → command_at s c i ≡ Some (Clear colour depth) → IsCopyOf clips (w.client c).copy →
      ((f : ℕ → ℕ → Pixel) → Holds h.card f → Holds card (cleared_in clips colour depth f)) → OnlyDrawn h.card card → KeepSides h.card card →
      IsWorld s (record h { card = card; places = slice_set h.places c (i + 1) }) (after_entry s w (Run c i))
  ran_clear colour depth clips card e copy held only keep = ran s h w c i is below card h.regions
      (record {
        sides = keep s.width s.height is.card.sides;
        shown = shows_same card w.front (front_after w (w.client c).copy (command_at s c i)) (λ x y. rw e refl) (rw (ap {A = Contents} (λ v. v.front) only) is.card.shown);
        held = holds_same card (cleared_in clips colour depth w.back) (back_after w (w.client c) (command_at s c i)) (λ x y. rw e (rw (in_copy clips (w.client c).copy x y copy) (where_is ((w.client c).copy x y) (λ under. record { colour = colour; depth = depth }) (w.back x y)))) (held w.back is.card.held);
        loaded = ap {A = Contents} (λ v. v.registers) only ∙ is.card.loaded;
        bytes = ap {A = Contents} (λ v. length v.memory) only ∙ is.card.bytes;
        uploads = ap {A = Contents} (λ v. memory_of v) only ∙ is.card.uploads;
      })
      (record { count = is.regions.count; ages = is.regions.ages ∙ rw e (heap_clear w.heap (used_spot (w.client c)) colour depth) })

  -- a swap in the client's clips
  pub ran_swap : (clips : List Rect) (card : Contents) → is_swap (command_at s c i) ≡ true → IsCopyOf clips (w.client c).copy →
      ((f : ℕ → ℕ → Pixel) (front : ℕ → ℕ → Rgb) → Holds h.card f → Shows h.card front → Shows card (swapped_in clips f front)) → OnlyShown h.card card → KeepSides h.card card →
      IsWorld s (record h { card = card; places = slice_set h.places c (i + 1) }) (after_entry s w (Run c i))
  ran_swap clips card e copy shown only keep = let v = swap_is (command_at s c i) e in ran s h w c i is below card h.regions
      (record {
        sides = keep s.width s.height is.card.sides;
        shown = shows_same card (swapped_in clips w.back w.front) (front_after w (w.client c).copy (command_at s c i)) (λ x y. rw v (rw (in_copy clips (w.client c).copy x y copy) refl)) (shown w.back w.front is.card.held is.card.shown);
        held = holds_same card w.back (back_after w (w.client c) (command_at s c i)) (λ x y. rw v (same_where ((w.client c).copy x y) (w.back x y))) (holds_shown h.card card w.back only is.card.held);
        loaded = ap {A = Contents} (λ v. v.registers) only ∙ is.card.loaded;
        bytes = ap {A = Contents} (λ v. length v.memory) only ∙ is.card.bytes;
        uploads = ap {A = Contents} (λ v. memory_of v) only ∙ is.card.uploads;
      })
      (record { count = is.regions.count; ages = is.regions.ages ∙ rw v (heap_swap w.heap (used_spot (w.client c))) })

  -- a triangle in the client's clips
  pub ran_triangle : (t : TriangleShape) (clips : List Rect) (o : Point) (r : Option RunOf) (card : Contents) (regions : RegionState) → command_at s c i ≡ Some (Triangle t) →
      IsCopyOf clips (w.client c).copy → (w.client c).origin ≡ corner o → r ≡ used_run (w.client c) →
      ((f : ℕ → ℕ → Pixel) → Holds h.card f → Holds card (drawn_in h.card o t clips f)) → OnlyDrawnOn h.card card → KeepSides h.card card →
      regions.count ≡ h.regions.count → heap_of regions ≡ touched_by_use r (heap_of h.regions) →
      IsWorld s (record h { card = card; regions = regions; places = slice_set h.places c (i + 1) }) (after_entry s w (Run c i))
  ran_triangle t clips o r card regions e copy place used held only keep count ages = ran s h w c i is below card regions
      (record {
        sides = keep s.width s.height is.card.sides;
        shown = shows_same card w.front (front_after w (w.client c).copy (command_at s c i)) (λ x y. rw e refl) (rw (ap {A = Contents} (λ v. v.front) only) is.card.shown);
        held = holds_same card (drawn_in h.card o t clips w.back) (back_after w (w.client c) (command_at s c i)) drawn_at (held w.back is.card.held);
        loaded = ap {A = Contents} (λ v. v.registers) only ∙ is.card.loaded;
        bytes = ap {A = Contents} (λ v. length v.memory) only ∙ is.card.bytes;
        uploads = ap {A = Contents} (λ v. memory_of v) only ∙ is.card.uploads;
      })
      (record { count = count ∙ is.regions.count; ages = ages ∙ (ap (λ (k : Heap). touched_by_use r k) is.regions.ages ∙ (ap (λ (q : Option RunOf). touched_by_use q w.heap) used ∙ rw e (heap_triangle w.heap (used_spot (w.client c)) t))) })
    where
      drawn_at : (x y : ℕ) → drawn_in h.card o t clips w.back x y ≡ back_after w (w.client c) (command_at s c i) x y
      drawn_at x y = rw (e, in_copy clips (w.client c).copy x y copy, place, is.card.loaded, is.card.uploads)
          (where_is ((w.client c).copy x y) (drawn_by (rules_in w.registers) (card_image w.memory w.registers.bound) (Some (Triangle t)) (pos x -ℤ o.x) (pos y -ℤ o.y)) (w.back x y))
