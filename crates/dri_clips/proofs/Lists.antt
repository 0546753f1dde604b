-- A new stack changes nothing outside its area; so mended lists are the lists.
use Rattle.std.proofs.Common.{◌≡◌, ℕ, zero, suc, ◌<◌, ◌≤◌, ◌+◌, length, get_or, set, take, replicate, List, [], ◌∷◌, ◌++◌, Bool, true, false, cond, arith, refl, sym, ◌∙◌, ap, subst, Option, None, Some, slice_get, filter, is_none, is_some, inl, inr}
use Rattle.std.specs.Prelude.{ℤ, ◌&&◌, ◌||◌, ◌==◌, ◌⊎◌, int_lt, not, All}
use Rattle.std.proofs.lemmas.Bool.{true≢false, and_parts, eqb-true, eqb-false, cases_eq}
use Rattle.std.proofs.lemmas.Int.{ints}
use Rattle.std.proofs.lemmas.List.{length-set, get_or-set_same, get_or-set_other, get_or_append_left, get_or_default, length-append, take_all}
use Rattle.std.proofs.Math.Bool.{and-false, and-true, and_assoc, or-false}
use Rattle.dri_base.specs.declared.scene.Window.{Window}
use Rattle.dri_base.specs.declared.shape.Rect.{Rect}
use Rattle.dri_base.specs.Ranges.{IsSide, WindowInRange}
use Rattle.dri_rect.specs.Extents.{shared_by}
use Rattle.dri_rect.specs.Pixels.{has_pixel, inside}
use Rattle.dri_rect.proofs.Bounds.{shared_pixels}
use Rattle.dri_model.specs.Stacks.{is_window}
use Rattle.dri_clips.specs.declared.layout.Layout.{Layout}
use Rattle.dri_clips.specs.declared.mending.Mended.{Mended}
use Rattle.dri_clips.specs.declared.mending.Patch.{Patch}
use Rattle.dri_clips.specs.Areas.{has_named, in_area, meets, others, share_pixel}
use Rattle.dri_clips.specs.Boards.{shows}
use Rattle.dri_clips.specs.Layouts.{AreDistinct, IsAbsent, IsLayout, has_place, screen_rect, top_at, window_rect}
use Rattle.dri_clips.specs.Mends.{AreMended, IsBare, IsLeft, IsMended, IsNew, IsNewList, IsPartList, IsPatch, IsWalk, KeepsPart, Stands, is_met, list_or}
use Rattle.dri_clips.proofs.Placing.{origin_absent, origin_at, placed_here}
use Rattle.dri_clips.proofs.Walking.{differs, left_more, never_top, shown, top_place}

-- where no named window is, the named ones can be left out
top_others : (named : Window → Bool) (ws : List Window) (x y : ℤ) → has_named named ws x y ≡ false → top_at ws x y ≡ top_at (others named ws) x y
top_others named [] x y e = refl
top_others named (w ∷ ws) x y e = by (named w) (has_place w x y) refl refl (top_others named ws x y)
  where
    by : (a b : Bool) → named w ≡ a → has_place w x y ≡ b → (has_named named ws x y ≡ false → top_at ws x y ≡ top_at (others named ws) x y) → top_at (w ∷ ws) x y ≡ top_at (others named (w ∷ ws)) x y
    by true true p q more = absurd (true≢false (rw (p, q) at e))
    by true false p q more = rw (p, q) (more (rw (p, q) at e))
    by false true p q more = rw p (rw q refl)
    by false false p q more = rw p (rw q (more (rw p at e)))

pub outside : (named : Window → Bool) (old new : List Window) → others named old ≡ others named new → (x y : ℤ) → has_named named old x y ≡ false → has_named named new x y ≡ false → top_at old x y ≡ top_at new x y
outside named old new same x y a b = top_others named old x y a ∙ (ap (λ (ws : List Window). top_at ws x y) same ∙ sym (top_others named new x y b))

parts_false : (a b : Bool) → (a || b) ≡ false → (a ≡ false) × (b ≡ false)
parts_false true b e = absurd (true≢false e)
parts_false false b e = (refl, e)

beyond : (named : Window → Bool) (old new : List Window) → others named old ≡ others named new → (x y : ℤ) → (has_named named old x y || has_named named new x y) ≡ false → top_at old x y ≡ top_at new x y
beyond named old new same x y e = let p = parts_false (has_named named old x y) (has_named named new x y) e in outside named old new same x y p.0 p.1

-- a window that isn't named was there
in_filter : (p : Window → Bool) (ws : List Window) (k : ℕ) (w : Window) → slice_get ws k ≡ Some w → p w ≡ true → (j : ℕ) × (slice_get (filter p ws) j ≡ Some w)
in_filter p [] k w e h = absurd (true≢false (ap (λ o. is_some o) (sym e)))
in_filter p (v ∷ ws) zero w e h = let same : v ≡ w = cc in let g : p v ≡ true = ap p same ∙ h in rw g (0, e)
in_filter p (v ∷ ws) (suc k) w e h = by (p v) (in_filter p ws k w e h)
  where
    by : (b : Bool) → ((j : ℕ) × (slice_get (filter p ws) j ≡ Some w)) → (j : ℕ) × (slice_get (cond b (v ∷ filter p ws) (filter p ws)) j ≡ Some w)
    by true r = (suc r.0, r.1)
    by false r = r

from_filter : (p : Window → Bool) (ws : List Window) (k : ℕ) (w : Window) → slice_get (filter p ws) k ≡ Some w → (j : ℕ) × (slice_get ws j ≡ Some w)
from_filter p [] k w e = absurd (true≢false (ap (λ o. is_some o) (sym e)))
from_filter p (v ∷ ws) k w e = by (p v) k e (λ i f. from_filter p ws i w f)
  where
    by : (b : Bool) (i : ℕ) → slice_get (cond b (v ∷ filter p ws) (filter p ws)) i ≡ Some w → ((m : ℕ) → slice_get (filter p ws) m ≡ Some w → (j : ℕ) × (slice_get ws j ≡ Some w)) → (j : ℕ) × (slice_get (v ∷ ws) j ≡ Some w)
    by true zero f more = (0, f)
    by true (suc i) f more = let r = more i f in (suc r.0, r.1)
    by false i f more = let r = more i f in (suc r.0, r.1)

pub was_there : (named : Window → Bool) (old new : List Window) (k : ℕ) (w : Window) → others named old ≡ others named new → slice_get new k ≡ Some w → named w ≡ false → (j : ℕ) × (slice_get old j ≡ Some w)
was_there named old new k w same e h =
    let r = in_filter (λ v. not (named v)) new k w e (ap not h) in
    from_filter (λ v. not (named v)) old r.0 w (ap (λ (ws : List Window). slice_get ws r.0) same ∙ r.1)

-- rectangles that share a pixel
some_pixel : (r : Rect) (x y : ℤ) → has_pixel r x y ≡ true → (int_lt r.x1 r.x2 && int_lt r.y1 r.y2) ≡ true
some_pixel r x y e = grind (arith, ints)

first_pixel : (r : Rect) → (int_lt r.x1 r.x2 && int_lt r.y1 r.y2) ≡ true → has_pixel r r.x1 r.y1 ≡ true
first_pixel r e = grind (arith, ints)

pub has_share : (a b : Rect) (x y : ℤ) → has_pixel a x y ≡ true → has_pixel b x y ≡ true → share_pixel a b ≡ true
has_share a b x y e f = some_pixel (shared_by a b) x y (shared_pixels a b x y ∙ (λ i. e i && f i))

pub share_has : (a b : Rect) → share_pixel a b ≡ true → (has_pixel a (shared_by a b).x1 (shared_by a b).y1 && has_pixel b (shared_by a b).x1 (shared_by a b).y1) ≡ true
share_has a b e = sym (shared_pixels a b (shared_by a b).x1 (shared_by a b).y1) ∙ first_pixel (shared_by a b) e

meets_has : (rs : List Rect) (r : Rect) (x y : ℤ) → inside rs x y ≡ true → has_pixel r x y ≡ true → meets rs r ≡ true
meets_has [] r x y e f = absurd (true≢false (sym e))
meets_has (s ∷ ss) r x y e f = by (has_pixel s x y) refl e (λ h. meets_has ss r x y h f)
  where
    or : (a : Bool) → meets ss r ≡ true → (a || meets ss r) ≡ true
    or true z = refl
    or false z = z

    by : (b : Bool) → has_pixel s x y ≡ b → (b || inside ss x y) ≡ true → (inside ss x y ≡ true → meets ss r ≡ true) → (share_pixel s r || meets ss r) ≡ true
    by true g h more = ap (λ b. b || meets ss r) (has_share s r x y g f)
    by false g h more = or (share_pixel s r) (more h)

-- a window that isn't named or met has nothing of the area
apart_area : (named : Window → Bool) (area : List Rect) (w : Window) → named w ≡ false → is_met named area w ≡ false → (x y : ℤ) → inside area x y ≡ true → has_place w x y ≡ false
apart_area named area w n m x y e = by w.mapped (has_pixel (window_rect w) x y) refl refl
  where
    by : (a b : Bool) → w.mapped ≡ a → has_pixel (window_rect w) x y ≡ b → has_place w x y ≡ false
    by false b p q = ap (λ a. a && has_pixel (window_rect w) x y) p
    by true false p q = (λ i. p i && q i)
    by true true p q = absurd (true≢false (sym ((λ i. p i && (n i || meets area (window_rect w))) ∙ meets_has area (window_rect w) x y e q) ∙ m))

pub left_kept : (named : Window → Bool) (area left : List Rect) (w : Window) → ((x y : ℤ) → inside left x y ≡ true → inside area x y ≡ true) → named w ≡ false → is_met named area w ≡ false → (x y : ℤ) → inside left x y ≡ (inside left x y && not (has_place w x y))
left_kept named area left w within n m x y = by (inside left x y) refl
  where
    by : (b : Bool) → inside left x y ≡ b → inside left x y ≡ (inside left x y && not (has_place w x y))
    by true e = sym (and-true (inside left x y)) ∙ ap (λ c. inside left x y && not c) (sym (apart_area named area w n m x y (within x y e)))
    by false e = e ∙ sym (ap (λ b. b && not (has_place w x y)) e)

-- one pixel: s is the screen, h the area, w and v whether it was and is on top, n whether nothing is above it, and c whether it is covered
pixel_clips : (s h w v n c : Bool) → (h ≡ false → w ≡ v) → v ≡ (n && c) → (((s && w) && not (s && h)) || (((s && h) && n) && c)) ≡ (s && v)
pixel_clips false h w v n c f g = refl
pixel_clips true true true v n c f g = sym g
pixel_clips true true false v n c f g = sym g
pixel_clips true false true v n c f g = f refl
pixel_clips true false false v n c f g = f refl

pixel_gained : (s h w v n c : Bool) → (h ≡ false → w ≡ v) → v ≡ (n && c) → ((((s && h) && n) && c) && not (s && w)) ≡ ((s && v) && not (s && w))
pixel_gained false h w v n c f g = refl
pixel_gained true true w v n c f g = ap (λ b. b && not w) (sym g)
pixel_gained true false w true n c f g = let e : w ≡ true = f refl in rw e refl
pixel_gained true false w false n c f g = refl

-- the new list of a window that is met
met_list : (width height : ℕ) (named : Window → Bool) (old new : List Window) (area left was : List Rect) (k : ℕ) (w : Window) (p : Patch) →
    others named old ≡ others named new → AreDistinct new → slice_get new k ≡ Some w →
    ((x y : ℤ) → inside area x y ≡ in_area width height named old new x y) → IsLeft width height named old new area k left → ((x y : ℤ) → inside was x y ≡ shows width height old w.number x y) →
    IsPatch was area (λ x y. inside left x y && has_place w x y) p → IsNew width height old new w.number p
met_list width height named old new area left was k w p same apart here area_is left_is was_is patch = record {
  clips = λ x y. patch.clips x y ∙ (λ i. (old_is x y i && not (area_is x y i)) || (part_is x y i)) ∙ pixel_clips (has_pixel (screen_rect width height) x y) (has_named named old x y || has_named named new x y) (is_window w.number (top_at old x y)) (is_window w.number (top_at new x y)) (is_none (top_at (take k new) x y)) (has_place w x y) (far x y) (top_place new k w apart here x y) ∙ shown width height new w.number x y;
  gained = λ x y. patch.gained x y ∙ (λ i. part_is x y i && not (old_is x y i)) ∙ pixel_gained (has_pixel (screen_rect width height) x y) (has_named named old x y || has_named named new x y) (is_window w.number (top_at old x y)) (is_window w.number (top_at new x y)) (is_none (top_at (take k new) x y)) (has_place w x y) (far x y) (top_place new k w apart here x y)
      ∙ (λ i. shown width height new w.number x y i && not (shown width height old w.number x y i));
}
  where
    old_is : (x y : ℤ) → inside was x y ≡ (has_pixel (screen_rect width height) x y && is_window w.number (top_at old x y))
    old_is x y = was_is x y ∙ sym (shown width height old w.number x y)

    part_is : (x y : ℤ) → (inside left x y && has_place w x y) ≡ ((in_area width height named old new x y && is_none (top_at (take k new) x y)) && has_place w x y)
    part_is x y = ap (λ b. b && has_place w x y) (left_is x y ∙ ap (λ b. b && is_none (top_at (take k new) x y)) (area_is x y))

    far : (x y : ℤ) → (has_named named old x y || has_named named new x y) ≡ false → is_window w.number (top_at old x y) ≡ is_window w.number (top_at new x y)
    far x y e = ap (is_window w.number) (beyond named old new same x y e)

-- the list of a window that isn't mapped
unmapped_shows : (width height : ℕ) (new : List Window) (k : ℕ) (w : Window) → AreDistinct new → slice_get new k ≡ Some w → w.mapped ≡ false → (x y : ℤ) → shows width height new w.number x y ≡ false
unmapped_shows width height new k w apart here m x y =
    let c : has_place w x y ≡ false = rw m refl in
    sym (shown width height new w.number x y) ∙ ap (λ b. has_pixel (screen_rect width height) x y && b) (top_place new k w apart here x y ∙ ap (λ b. is_none (top_at (take k new) x y) && b) c ∙ and-false (is_none (top_at (take k new) x y))) ∙ and-false (has_pixel (screen_rect width height) x y)

bare_list : (width height : ℕ) (old new : List Window) (k : ℕ) (w : Window) (p : Patch) → AreDistinct new → slice_get new k ≡ Some w → IsBare w p → IsNew width height old new w.number p
bare_list width height old new k w p apart here bare = record {
  clips = λ x y. ap (λ (rs : List Rect). inside rs x y) bare.clips ∙ sym (none x y);
  gained = λ x y. ap (λ (rs : List Rect). inside rs x y) bare.gained ∙ ap (λ b. b && not (shows width height old w.number x y)) (sym (none x y));
}
  where
    none : (x y : ℤ) → shows width height new w.number x y ≡ false
    none x y = unmapped_shows width height new k w apart here bare.unmapped x y

-- a window that isn't named, and is on top where it was, stands
stands_so : (width height : ℕ) (named : Window → Bool) (old new : List Window) (k : ℕ) (w : Window) →
    others named old ≡ others named new → AreDistinct old → AreDistinct new → slice_get new k ≡ Some w → named w ≡ false →
    ((x y : ℤ) → (has_pixel (screen_rect width height) x y && is_window w.number (top_at new x y)) ≡ (has_pixel (screen_rect width height) x y && is_window w.number (top_at old x y))) → Stands width height old new w.number
stands_so width height named old new k w same before apart here n pixel =
    let r = was_there named old new k w same here n in
    record {
      clips = λ x y. sym (shown width height new w.number x y) ∙ pixel x y ∙ shown width height old w.number x y;
      unmoved = origin_at w.number k new w (placed_here new k w apart here) here ∙ sym (origin_at w.number r.0 old w (placed_here old r.0 w before r.1) r.1);
    }

-- the list of a window that isn't named or met
kept_list : (width height : ℕ) (named : Window → Bool) (old new : List Window) (area : List Rect) (k : ℕ) (w : Window) →
    others named old ≡ others named new → AreDistinct old → AreDistinct new → slice_get new k ≡ Some w →
    ((x y : ℤ) → inside area x y ≡ in_area width height named old new x y) → named w ≡ false → is_met named area w ≡ false → Stands width height old new w.number
kept_list width height named old new area k w same before apart here area_is n m =
    let r = was_there named old new k w same here n in
    stands_so width height named old new k w same before apart here n (λ x y. pixel r.0 r.1 x y (has_pixel (screen_rect width height) x y) (has_named named old x y || has_named named new x y) refl refl)
  where
    hidden : (ws : List Window) (i : ℕ) → AreDistinct ws → slice_get ws i ≡ Some w → (x y : ℤ) → has_place w x y ≡ false → is_window w.number (top_at ws x y) ≡ false
    hidden ws i a e x y c = top_place ws i w a e x y ∙ ap (λ b. is_none (top_at (take i ws) x y) && b) c ∙ and-false (is_none (top_at (take i ws) x y))

    pixel : (j : ℕ) → slice_get old j ≡ Some w → (x y : ℤ) (s h : Bool) → has_pixel (screen_rect width height) x y ≡ s → (has_named named old x y || has_named named new x y) ≡ h → (has_pixel (screen_rect width height) x y && is_window w.number (top_at new x y)) ≡ (has_pixel (screen_rect width height) x y && is_window w.number (top_at old x y))
    pixel j e x y false h p q = rw p refl
    pixel j e x y true false p q = ap (λ b. has_pixel (screen_rect width height) x y && b) (ap (is_window w.number) (sym (beyond named old new same x y q)))
    pixel j e x y true true p q =
        let c : has_place w x y ≡ false = apart_area named area w n m x y (area_is x y ∙ both p q) in
        ap (λ b. has_pixel (screen_rect width height) x y && b) (hidden new k apart here x y c ∙ sym (hidden old j before e x y c))
      where
        both : has_pixel (screen_rect width height) x y ≡ true → (has_named named old x y || has_named named new x y) ≡ true → in_area width height named old new x y ≡ true
        both f g = rw (f, g) refl

-- the list of a window that has its part of the area already
part_clips : (s h w v n c : Bool) → (h ≡ false → w ≡ v) → v ≡ (n && c) → ((s && w) && (s && h)) ≡ (((s && h) && n) && c) → (s && v) ≡ (s && w)
part_clips false h w v n c f g e = refl
part_clips true false w v n c f g e = sym (f refl)
part_clips true true true v n c f g e = g ∙ sym e
part_clips true true false v n c f g e = g ∙ sym e

part_list : (width height : ℕ) (named : Window → Bool) (old new : List Window) (area left was : List Rect) (k : ℕ) (w : Window) →
    others named old ≡ others named new → AreDistinct old → AreDistinct new → slice_get new k ≡ Some w →
    ((x y : ℤ) → inside area x y ≡ in_area width height named old new x y) → IsLeft width height named old new area k left → ((x y : ℤ) → inside was x y ≡ shows width height old w.number x y) →
    named w ≡ false → KeepsPart was area (λ x y. inside left x y && has_place w x y) → Stands width height old new w.number
part_list width height named old new area left was k w same before apart here area_is left_is was_is n keeps = stands_so width height named old new k w same before apart here n (λ x y.
    part_clips (has_pixel (screen_rect width height) x y) (has_named named old x y || has_named named new x y) (is_window w.number (top_at old x y)) (is_window w.number (top_at new x y)) (is_none (top_at (take k new) x y)) (has_place w x y)
    (λ e. ap (is_window w.number) (beyond named old new same x y e)) (top_place new k w apart here x y) (sym (old_is x y) ∙ keeps x y ∙ part_is x y))
  where
    old_is : (x y : ℤ) → (inside was x y && inside area x y) ≡ ((has_pixel (screen_rect width height) x y && is_window w.number (top_at old x y)) && in_area width height named old new x y)
    old_is x y = λ i. (was_is x y ∙ sym (shown width height old w.number x y)) i && area_is x y i

    part_is : (x y : ℤ) → (inside left x y && has_place w x y) ≡ ((in_area width height named old new x y && is_none (top_at (take k new) x y)) && has_place w x y)
    part_is x y = ap (λ b. b && has_place w x y) (left_is x y ∙ ap (λ b. b && is_none (top_at (take k new) x y)) (area_is x y))

-- the list of any window
pub new_list : (width height : ℕ) (named : Window → Bool) (old new : List Window) (area left was : List Rect) (k : ℕ) (w : Window) (o : Option Patch) →
    others named old ≡ others named new → AreDistinct old → AreDistinct new → slice_get new k ≡ Some w →
    ((x y : ℤ) → inside area x y ≡ in_area width height named old new x y) → IsLeft width height named old new area k left → ((x y : ℤ) → inside was x y ≡ shows width height old w.number x y) →
    IsNewList named area left was w o → IsMended width height old new w.number o
new_list width height named old new area left was k w None same before apart here area_is left_is was_is list = elim list.1 [
  | inl unmet ↦ kept_list width height named old new area k w same before apart here area_is list.0 unmet
  | inr keeps ↦ part_list width height named old new area left was k w same before apart here area_is left_is was_is list.0 keeps
]
new_list width height named old new area left was k w (Some p) same before apart here area_is left_is was_is list = elim list [
  | inl patch ↦ met_list width height named old new area left was k w p same apart here area_is left_is was_is patch
  | inr bare ↦ bare_list width height old new k w p apart here bare
]

-- a part that is taken of what is left
pub part_given : (named : Window → Bool) (b : Bool) (area left old part : List Rect) (w : Window) (o : Option Patch) → b ≡ named w → is_met named area w ≡ true → ((x y : ℤ) → inside part x y ≡ (inside left x y && has_pixel (window_rect w) x y)) →
    IsPartList b area old (inside part) o → IsNewList named area left old w o
part_given named b area left old part w o e met part_is list = by o list
  where
    is : (x y : ℤ) → inside part x y ≡ (inside left x y && has_place w x y)
    is x y = part_is x y ∙ ap (λ m. inside left x y && (m && has_pixel (window_rect w) x y)) (sym (and_parts w.mapped (named w || meets area (window_rect w)) met).0)

    by : (q : Option Patch) → IsPartList b area old (inside part) q → IsNewList named area left old w q
    by None l = (sym e ∙ l.0, inr (λ x y. l.1 x y ∙ is x y))
    by (Some p) l = inl (record {
      clips = λ x y. l.clips x y ∙ ap (λ k. (inside old x y && not (inside area x y)) || k) (is x y);
      gained = λ x y. l.gained x y ∙ ap (λ k. k && not (inside old x y)) (is x y);
    })

pub unmet_bare : (named : Window → Bool) (area left old : List Rect) (w : Window) (p : Patch) → named w ≡ true → is_met named area w ≡ false → p.clips ≡ [] → p.gained ≡ [] → IsNewList named area left old w (Some p)
unmet_bare named area left old w p n m e f = inr (record { unmapped = by w.mapped refl; clips = e; gained = f })
  where
    by : (b : Bool) → w.mapped ≡ b → w.mapped ≡ false
    by false h = h
    by true h = absurd (true≢false ((λ i. sym h i && (sym n i || meets area (window_rect w))) ∙ m))

-- the walk, window by window
get_replicate : {X : Type 0} (m n : ℕ) (x : X) → get_or (replicate m x) n x ≡ x
get_replicate zero n x = refl
get_replicate (suc m) zero x = refl
get_replicate (suc m) (suc n) x = get_replicate m n x

pub walk_none : (width height : ℕ) (named : Window → Bool) (old new : List Window) (area left : List Rect) (lists : List (Option Patch)) → left ≡ area → lists ≡ replicate 65 None → IsWalk width height named old new area 0 left lists
walk_none width height named old new area left lists e f = record {
  room = ap length f;
  left_is = λ x y. ap (λ (rs : List Rect). inside rs x y) e ∙ sym (and-true (inside area x y));
  made = λ i w b g. absurd (omega arith);
  none = λ n a. ap (λ (os : List (Option Patch)). get_or os n None) f ∙ get_replicate 65 n None;
}

other_number : (ws : List Window) (i k : ℕ) (v w : Window) → AreDistinct ws → slice_get ws i ≡ Some v → slice_get ws k ≡ Some w → i < k → (v.number ≡ w.number → ⊥)
other_number [] i k v w a e f b = absurd (true≢false (ap (λ o. is_some o) (sym e)))
other_number (u ∷ ws) i zero v w a e f b = absurd (omega arith)
other_number (u ∷ ws) zero (suc k) v w a e f b = let same : u ≡ v = cc in λ g. eqb-false w.number u.number (differs u.number ws k w a.0 f) (sym g ∙ ap (λ (z : Window). z.number) (sym same))
other_number (u ∷ ws) (suc i) (suc k) v w a e f b = other_number ws i k v w a.1 e f (omega arith)

same_some : (v w : Window) (o : Option Window) → o ≡ Some v → o ≡ Some w → v ≡ w
same_some v w o e f = let g : Some v ≡ Some w = sym e ∙ f in cc

pub walk_more : (width height : ℕ) (named : Window → Bool) (old new : List Window) (area left next : List Rect) (lists made : List (Option Patch)) (k j : ℕ) (w : Window) (o : Option Patch) →
    j ≡ k + 1 → AreDistinct new → slice_get new k ≡ Some w → w.number < 65 → IsWalk width height named old new area k left lists → IsMended width height old new w.number o →
    ((x y : ℤ) → inside next x y ≡ (inside left x y && not (has_place w x y))) → made ≡ set lists w.number o → IsWalk width height named old new area j next made
walk_more width height named old new area left next lists made k j w o e apart here below walk list next_is made_is = subst (λ (m : ℕ). IsWalk width height named old new area m next made) (let s : suc k ≡ j = omega arith in s) (record {
  room = ap length made_is ∙ length-set lists w.number o ∙ walk.room;
  left_is = λ x y. next_is x y ∙ ap (λ b. b && not (has_place w x y)) (walk.left_is x y) ∙ and_assoc (inside area x y) (is_none (top_at (take k new) x y)) (not (has_place w x y)) ∙ ap (λ b. inside area x y && b) (sym (left_more new k w here x y));
  made = each;
  none = λ n a. ap (λ (os : List (Option Patch)). get_or os n None) made_is ∙ get_or-set_other lists w.number n o None (λ f. eqb-false w.number n (differs n new k w a here) (sym f)) ∙ walk.none n a;
})
  where
    each : (i : ℕ) (v : Window) → i < suc k → slice_get new i ≡ Some v → IsMended width height old new v.number (get_or made v.number None)
    each i v b f = rw made_is (elim (cases_eq i k) [
      | inl same ↦
          let is : w ≡ v = same_some w v (slice_get new k) here (ap (slice_get new) (sym same) ∙ f) in
          subst (λ (u : Window). IsMended width height old new u.number (get_or (set lists w.number o) u.number None)) is
          (subst (λ (q : Option Patch). IsMended width height old new w.number q) (sym (get_or-set_same lists w.number o None (omega (arith, walk.room, below)))) list)
      | inr other ↦
          let low : i < k = omega arith in
          subst (λ (q : Option Patch). IsMended width height old new v.number q) (sym (get_or-set_other lists w.number v.number o None (other_number new i k v w apart f here low))) (walk.made i v low f)
    ])

-- a number is on the board or not
place_or_absent : (n : ℕ) (ws : List Window) → IsAbsent n ws ⊎ ((i : ℕ) × ((w : Window) × ((slice_get ws i ≡ Some w) × (w.number ≡ n))))
place_or_absent n [] = inl tt
place_or_absent n (w ∷ ws) = by (w.number == n) refl (place_or_absent n ws)
  where
    by : (b : Bool) → (w.number == n) ≡ b → (IsAbsent n ws ⊎ ((i : ℕ) × ((v : Window) × ((slice_get ws i ≡ Some v) × (v.number ≡ n))))) → IsAbsent n (w ∷ ws) ⊎ ((i : ℕ) × ((v : Window) × ((slice_get (w ∷ ws) i ≡ Some v) × (v.number ≡ n))))
    by true e r = inr (0, (w, (refl, eqb-true w.number n e)))
    by false e (inl a) = inl (e, a)
    by false e (inr r) = inr (suc r.0, r.1)

root_clips : (s h w v : Bool) → (h ≡ false → w ≡ v) → (((s && w) && not (s && h)) || ((s && h) && v)) ≡ (s && v)
root_clips false h w v f = refl
root_clips true true true v f = refl
root_clips true true false v f = refl
root_clips true false true v f = f refl
root_clips true false false v f = f refl

root_gained : (f a l : Bool) → (l && not f) ≡ (((f && not a) || l) && not f)
root_gained true true true = refl
root_gained true true false = refl
root_gained true false true = refl
root_gained true false false = refl
root_gained false a l = refl

no_window : (width height n : ℕ) (ws : List Window) → IsAbsent n ws → (x y : ℤ) → shows width height ws n x y ≡ false
no_window width height n ws a x y = sym (shown width height ws n x y) ∙ ap (λ b. has_pixel (screen_rect width height) x y && b) (never_top n ws a x y) ∙ and-false (has_pixel (screen_rect width height) x y)

-- the walk is over
pub walk_done : (l : Layout) (named : Window → Bool) (new : List Window) (area left : List Rect) (k : ℕ) (m : Mended) →
    length new ≤ k → IsLayout l → AreDistinct new → others named l.stack ≡ others named new → ((n : ℕ) → IsAbsent n new → IsAbsent n l.stack) →
    ((x y : ℤ) → inside area x y ≡ in_area l.width l.height named l.stack new x y) → IsWalk l.width l.height named l.stack new area k left m.windows.items → IsPatch l.free area (inside left) m.root → AreMended l new m
walk_done l named new area left k m far is apart same absent area_is walk root = record {
  apart = apart;
  room = walk.room;
  lists = λ n b. elim (place_or_absent n new) [
    | inl a ↦ subst (λ (o : Option Patch). IsMended l.width l.height l.stack new n o) (sym (walk.none n a)) (record {
      clips = λ x y. no_window l.width l.height n new a x y ∙ sym (no_window l.width l.height n l.stack (absent n a) x y);
      unmoved = origin_absent n new a ∙ sym (origin_absent n l.stack (absent n a));
    })
    | inr r ↦ subst (λ (i : ℕ). IsMended l.width l.height l.stack new i (get_or m.windows.items i None)) r.1.1.1 (walk.made r.0 r.1.0 (below r.0 r.1.0 r.1.1.0) r.1.1.0)
  ];
  free = λ x y. root.clips x y ∙ (λ i. (is.free x y i && not (area_is x y i)) || (left_is x y i)) ∙ root_clips (has_pixel (screen_rect l.width l.height) x y) (has_named named l.stack x y || has_named named new x y) (is_none (top_at l.stack x y)) (is_none (top_at new x y)) (λ e. ap (λ (o : Option Window). is_none o) (beyond named l.stack new same x y e));
  bared = λ x y. root.gained x y ∙ root_gained (inside l.free x y) (inside area x y) (inside left x y) ∙ ap (λ b. b && not (inside l.free x y)) (sym (root.clips x y));
}
  where
    left_is : (x y : ℤ) → inside left x y ≡ (in_area l.width l.height named l.stack new x y && is_none (top_at new x y))
    left_is x y = walk.left_is x y ∙ (λ i. area_is x y i && is_none (top_at (take_all k new far i) x y))

    below : (i : ℕ) (w : Window) → slice_get new i ≡ Some w → i < k
    below i w e = let b = got_below new i w e in omega (arith, far, b)
      where
        got_below : (ws : List Window) (j : ℕ) (v : Window) → slice_get ws j ≡ Some v → j < length ws
        got_below [] j v f = absurd (true≢false (ap (λ o. is_some o) (sym f)))
        got_below (u ∷ ws) zero v f = omega arith
        got_below (u ∷ ws) (suc j) v f = let h = got_below ws j v f in omega (arith, h)

-- the lists are put in place
pub list_put : (width height : ℕ) (old new : List Window) (n : ℕ) (was : List Rect) (o : Option Patch) → ((x y : ℤ) → inside was x y ≡ shows width height old n x y) → IsMended width height old new n o → (x y : ℤ) → inside (list_or o was) x y ≡ shows width height new n x y
list_put width height old new n was None was_is stands x y = was_is x y ∙ sym (stands.clips x y)
list_put width height old new n was (Some p) was_is is x y = is.clips x y

-- lists of one value
pub replicate_more : {X : Type 0} (xs ys : List X) (k j : ℕ) (x y : X) → j ≡ k + 1 → xs ≡ replicate k x → y ≡ x → ys ≡ xs ++ y ∷ [] → ys ≡ replicate j x
replicate_more {X} xs ys k j x y e a b c = c ∙ (λ i. a i ++ b i ∷ []) ∙ more k ∙ ap (λ (n : ℕ). replicate n x) (let s : suc k ≡ j = omega arith in s)
  where
    more : (n : ℕ) → replicate n x ++ x ∷ [] ≡ replicate (suc n) x
    more zero = refl
    more (suc n) = ap (λ zs. x ∷ zs) (more n)

-- the lists are put in place, the last first: those behind what is left are in place
pub record IsPutting (was now : List (List Rect)) (lists left : List (Option Patch)) : Type 0 where
  pub room : length now ≡ 65
  pub short : length left ≤ 65
  pub front : (n : ℕ) → n < length left → get_or left n None ≡ get_or lists n None
  pub above : (n : ℕ) → length left ≤ n → n < 65 → get_or now n [] ≡ list_or (get_or lists n None) (get_or was n [])
  pub below : (n : ℕ) → n < length left → get_or now n [] ≡ get_or was n []

pub put_first : (was : List (List Rect)) (lists : List (Option Patch)) → length was ≡ 65 → length lists ≡ 65 → IsPutting was was lists lists
put_first was lists a b = record {
  room = a;
  short = omega arith;
  front = λ n c. refl;
  above = λ n c d. absurd (omega arith);
  below = λ n c. refl;
}

put_next : (was now next : List (List Rect)) (lists left rest : List (Option Patch)) (o : Option Patch) → IsPutting was now lists left → left ≡ rest ++ o ∷ [] → length next ≡ 65 →
    get_or next (length rest) [] ≡ list_or o (get_or now (length rest) []) → ((n : ℕ) → (n ≡ length rest → ⊥) → get_or next n [] ≡ get_or now n []) → IsPutting was next lists rest
put_next was now next lists left rest o p e room at other = record {
  room = room;
  short = omega (arith, long, p.short);
  front = λ n b. sym (ap (λ (os : List (Option Patch)). get_or os n None) e ∙ get_or_append_left rest (o ∷ []) None n b) ∙ p.front n (omega (arith, long, b));
  above = λ n b c. elim (cases_eq n (length rest)) [
    | inl same ↦
        let last : get_or lists (length rest) None ≡ o = sym (p.front (length rest) (omega (arith, long))) ∙ ap (λ (os : List (Option Patch)). get_or os (length rest) None) e ∙ get_last rest o in
        rw same (at ∙ (λ i. list_or (sym last i) (p.below (length rest) (omega (arith, long)) i)))
    | inr apart ↦ other n apart ∙ p.above n (omega (arith, long, apart, b)) c
  ];
  below = λ n b. other n (λ f. omega (arith, b, f)) ∙ p.below n (omega (arith, long, b));
}
  where
    long : length left ≡ length rest + 1
    long = ap length e ∙ length-append rest (o ∷ [])

    get_last : (os : List (Option Patch)) (q : Option Patch) → get_or (os ++ q ∷ []) (length os) None ≡ q
    get_last [] q = refl
    get_last (a ∷ os) q = get_last os q

pub put_none : (was now : List (List Rect)) (lists left rest : List (Option Patch)) → IsPutting was now lists left → left ≡ rest ++ None ∷ [] → IsPutting was now lists rest
put_none was now lists left rest p e = put_next was now now lists left rest None p e p.room refl (λ n f. refl)

pub put_some : (was now next : List (List Rect)) (lists left rest : List (Option Patch)) (q : Patch) → IsPutting was now lists left → left ≡ rest ++ Some q ∷ [] → next ≡ set now (length rest) q.clips → IsPutting was next lists rest
put_some was now next lists left rest q p e s = put_next was now next lists left rest (Some q) p e (ap length s ∙ length-set now (length rest) q.clips ∙ p.room)
    (ap (λ (cs : List (List Rect)). get_or cs (length rest) []) s ∙ get_or-set_same now (length rest) q.clips [] (omega (arith, long, p.short, p.room)))
    (λ n f. ap (λ (cs : List (List Rect)). get_or cs n []) s ∙ get_or-set_other now (length rest) n q.clips [] f)
  where
    long : length left ≡ length rest + 1
    long = ap length e ∙ length-append rest (Some q ∷ [])

pub put_last : (was now : List (List Rect)) (lists left : List (Option Patch)) → IsPutting was now lists left → length left ≡ 0 → (n : ℕ) → n < 65 → get_or now n [] ≡ list_or (get_or lists n None) (get_or was n [])
put_last was now lists left p e n b = p.above n (omega (arith, e)) b

-- a list by its number
pub list_is : (lists : List (Option Patch)) (n : ℕ) (o : Option Patch) → n < 65 → length lists ≡ 65 → o ≡ get_or lists n o → get_or lists n None ≡ o
list_is lists n o b room e = get_or_default lists n None o (omega (arith, b, room)) ∙ sym e

pub none_by : (o : Option Patch) → ((p : Patch) → o ≡ Some p → ⊥) → o ≡ None
none_by None f = refl
none_by (Some p) f = absurd (f p refl)

pub clips_by : (l : Layout) (n : ℕ) (was : List Rect) → IsLayout l → n < 65 → was ≡ get_or l.clips.items n was → (x y : ℤ) → inside was x y ≡ shows l.width l.height l.stack n x y
clips_by l n was is b e x y = ap (λ (rs : List Rect). inside rs x y) (e ∙ get_or_default l.clips.items n was [] (omega (arith, b, is.room))) ∙ is.clips n b x y

-- a screen without windows
pub bare_layout : (l : Layout) → IsSide l.width → IsSide l.height → l.stack ≡ [] → l.clips.items ≡ replicate 65 [] → ((x y : ℤ) → inside l.free x y ≡ has_pixel (screen_rect l.width l.height) x y) → IsLayout l
bare_layout l wide high e f g = record {
  wide = wide;
  high = high;
  ranged = subst (λ (ws : List Window). All WindowInRange ws) (sym e) (λ k d b. absurd (omega arith));
  apart = subst AreDistinct (sym e) tt;
  room = ap length f;
  clips = λ n b x y. ap (λ (cs : List (List Rect)). inside (get_or cs n []) x y) f ∙ ap (λ (rs : List Rect). inside rs x y) (get_replicate 65 n []) ∙ sym (no_window l.width l.height n l.stack (subst (IsAbsent n) (sym e) tt) x y);
  free = λ x y. g x y ∙ sym (and-true (has_pixel (screen_rect l.width l.height) x y)) ∙ ap (λ (ws : List Window). has_pixel (screen_rect l.width l.height) x y && is_none (top_at ws x y)) (sym e);
}

pub all_named : (ws : List Window) → others (λ w. true) ws ≡ []
all_named [] = refl
all_named (w ∷ ws) = all_named ws

-- a list that only loses pixels
pub no_part : (old area part kept gained : List Rect) → part ≡ [] → gained ≡ [] → ((x y : ℤ) → inside kept x y ≡ (inside old x y && not (inside area x y))) → IsPatch old area (inside part) (record { clips = kept; gained = gained })
no_part old area part kept gained e f g = record {
  clips = λ x y. g x y ∙ sym (or-false (inside old x y && not (inside area x y))) ∙ ap (λ (rs : List Rect). (inside old x y && not (inside area x y)) || inside rs x y) (sym e);
  gained = λ x y. ap (λ (rs : List Rect). inside rs x y) f ∙ ap (λ (rs : List Rect). inside rs x y && not (inside old x y)) (sym e);
}
