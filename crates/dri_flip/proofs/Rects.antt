-- Rectangles one after the other, and sets of places.
use Rattle.std.proofs.Common.{◌≡◌, ℕ, zero, suc, ◌+◌, ◌-◌, ◌*◌, ◌<◌, ◌≤◌, List, [], ◌∷◌, length, get_or, take, min, Bool, true, false, ◌&&◌, ◌||◌, nat_lt, if◌then◌else◌, All, refl, sym, ◌∙◌, ap, arith}
use Rattle.std.specs.Prelude.{AllPairs, ◌==◌, not}
use Rattle.std.proofs.lemmas.Bool.{true≢false}
use Rattle.std.proofs.lemmas.Bool.Decides.{nat_tests}
use Rattle.std.proofs.lemmas.List.{get_or-take, length-take}
use Rattle.std.proofs.lemmas.List.Folds.{list_any_more, list_any_none}
use Rattle.std.proofs.lemmas.List.Sums.{sum_by-cons, sum_by_more}
use Rattle.std.proofs.Math.Nat.{mul-le-mul, mul-pos}
use Rattle.dri_base.specs.Planes.{in_rect}
use Rattle.dri_base.specs.Rectangles.{AreApart, in_rects}
use Rattle.dri_flip.specs.Places.{has_all, has_some}
use Rattle.dri_model.specs.Counting.{all_below}
use Rattle.dri_model.proofs.Touches.{all_below_at}
use Rattle.dri_plane.specs.Grids.{ClipRect, IsInside, pixel_count}
use Rattle.dri_plane.specs.Moves.{pixel_counts}
use Rattle.dri_plane.proofs.Room.{apart_fit, cover_fills, full_covers}

-- either of two tests
pub either : {A : Type 0} (a b : Bool) (p q : A) → (if b then p else (if a then p else q)) ≡ (if a || b then p else q)
either true true p q = refl
either true false p q = refl
either false true p q = refl
either false false p q = refl

-- one of two tests at most
pub one_of : {A : Type 0} (a b : Bool) (h : A → A) (q : A) → (a && b) ≡ false → (if b then h (if a then h q else q) else (if a then h q else q)) ≡ (if a || b then h q else q)
one_of true true h q apart = absurd (true≢false apart)
one_of true false h q apart = refl
one_of false true h q apart = refl
one_of false false h q apart = refl

-- one rectangle more
pub in_more : (rects : List ClipRect) (i : ℕ) (d : ClipRect) (x y : ℕ) → i < length rects → in_rects (take (i + 1) rects) x y ≡ (in_rects (take i rects) x y || in_rect (get_or rects i d) x y)
in_more rects i d x y within = list_any_more (λ r. in_rect r x y) rects i d within

-- the next rectangle has none of the places before
pub next_apart : (rects : List ClipRect) (i : ℕ) (d : ClipRect) (x y : ℕ) → i < length rects → AllPairs AreApart rects → (in_rects (take i rects) x y && in_rect (get_or rects i d) x y) ≡ false
next_apart rects i d x y within apart = by (in_rect (get_or rects i d) x y) refl where
  by : (b : Bool) → in_rect (get_or rects i d) x y ≡ b → (in_rects (take i rects) x y && b) ≡ false
  by false e = no (in_rects (take i rects) x y) where
    no : (a : Bool) → (a && false) ≡ false
    no true = refl
    no false = refl
  by true e = rw (list_any_none (λ r. in_rect r x y) (take i rects) none) refl where
    both : (a b : Bool) → b ≡ true → (a && b) ≡ false → a ≡ false
    both true b is e = absurd (true≢false (sym is ∙ e))
    both false b is e = refl

    none : All (λ r. in_rect r x y ≡ false) (take i rects)
    none k e' below =
        let less : k < i = omega (arith, below, length-take i rects) in
        rw (get_or-take i rects k e' less) (both (in_rect (get_or rects k e') x y) (in_rect (get_or rects i e') x y) (ap (λ r. in_rect r x y) (same e') ∙ e) (apart k i e' less within x y))
      where
        any_default : (rs : List ClipRect) (j : ℕ) (a b : ClipRect) → j < length rs → get_or rs j a ≡ get_or rs j b
        any_default [] j a b lt = absurd (omega arith)
        any_default (r ∷ rs) zero a b lt = refl
        any_default (r ∷ rs) (suc j) a b lt = any_default rs j a b (omega arith)

        same : (e' : ClipRect) → get_or rects i e' ≡ get_or rects i d
        same e' = any_default rects i e' d within

-- its pixels
pub counts_more : (rects : List ClipRect) (i : ℕ) (d : ClipRect) → i < length rects → pixel_counts (take (i + 1) rects) ≡ pixel_counts (take i rects) + pixel_count (get_or rects i d)
counts_more rects i d within = sum_by_more pixel_count rects i d within

below_all : (p : ℕ → Bool) (n : ℕ) → ((k : ℕ) → k < n → p k ≡ true) → all_below p n ≡ true
below_all p zero each = refl
below_all p (suc n) each = rw (each n (omega arith)) (below_all p n (λ k lt. each k (omega arith)))

-- a set that has each place
pub all_has : (width height : ℕ) (places : ℕ → ℕ → Bool) → ((x y : ℕ) → x < width → y < height → places x y ≡ true) → has_all width height places ≡ true
all_has width height places each = below_all (λ x. all_below (λ y. places x y) height) width (λ x lx. below_all (λ y. places x y) height (λ y ly. each x y lx ly))

pub has_each : (width height : ℕ) (places : ℕ → ℕ → Bool) (x y : ℕ) → has_all width height places ≡ true → x < width → y < height → places x y ≡ true
has_each width height places x y has lx ly = all_below_at (λ y. places x y) height y (all_below_at (λ x. all_below (λ y. places x y) height) width x has lx) ly

-- a set that has none
pub none_has : (width height : ℕ) (places : ℕ → ℕ → Bool) → ((x y : ℕ) → x < width → y < height → places x y ≡ false) → has_some width height places ≡ false
none_has width height places none = ap not (all_has width height (λ x y. not (places x y)) (λ x y lx ly. ap not (none x y lx ly)))

-- and one that has one
pub some_has : (width height : ℕ) (places : ℕ → ℕ → Bool) (x y : ℕ) → x < width → y < height → places x y ≡ true → has_some width height places ≡ true
some_has width height places x y lx ly is = by (has_all width height (λ x y. not (places x y))) refl where
  by : (b : Bool) → has_all width height (λ x y. not (places x y)) ≡ b → not b ≡ true
  by false e = refl
  by true e = absurd (true≢false (sym (has_each width height (λ x y. not (places x y)) x y e lx ly) ∙ ap not is))

-- rectangles without pixels have no place
empty_rect : (r : ClipRect) (x y : ℕ) → pixel_count r ≡ 0 → in_rect r x y ≡ false
empty_rect r x y none = by (in_rect r x y) refl where
  by : (b : Bool) → in_rect r x y ≡ b → b ≡ false
  by false e = refl
  by true e =
      let wide : 0 < r.x2 - r.x1 = grind (arith, nat_tests, e) in
      let high : 0 < r.y2 - r.y1 = grind (arith, nat_tests, e) in
      let some : 0 < (r.x2 - r.x1) * (r.y2 - r.y1) = mul-pos wide high in
      absurd (omega (arith, some, none))

pub no_place : (rects : List ClipRect) (x y : ℕ) → pixel_counts rects ≡ 0 → in_rects rects x y ≡ false
no_place [] x y none = refl
no_place (r ∷ rs) x y none =
    let parts = sum_by-cons pixel_count r rs in
    let first : pixel_count r ≡ 0 = omega (arith, parts, none) in
    let others : pixel_counts rs ≡ 0 = omega (arith, parts, none) in
    rw (empty_rect r x y first) (no_place rs x y others)

-- a rectangle with pixels has its upper left corner
pub corner_in : (width height : ℕ) (r : ClipRect) → IsInside r width height → (pixel_count r ≡ 0 → ⊥) → (r.x1 < width) × (r.y1 < height) × (in_rect r r.x1 r.y1 ≡ true)
corner_in width height r inside some =
    let wide : r.x1 < r.x2 = across (nat_lt r.x1 r.x2) refl in
    let high : r.y1 < r.y2 = down (nat_lt r.y1 r.y2) refl in
    (omega (arith, wide, inside.right), omega (arith, high, inside.bottom), grind (arith, nat_tests, wide, high))
  where
    across : (b : Bool) → nat_lt r.x1 r.x2 ≡ b → r.x1 < r.x2
    across true e = grind (arith, nat_tests, e)
    across false e = let none : r.x2 - r.x1 ≡ 0 = grind (arith, nat_tests, e) in absurd (some (rw none (omega arith)))

    down : (b : Bool) → nat_lt r.y1 r.y2 ≡ b → r.y1 < r.y2
    down true e = grind (arith, nat_tests, e)
    down false e = let none : r.y2 - r.y1 ≡ 0 = grind (arith, nat_tests, e) in absurd (some (rw none (omega arith)))

or_true : (b : Bool) → (b || true) ≡ true
or_true true = refl
or_true false = refl

-- rectangles with pixels have a place
some_place : (width height : ℕ) (rects : List ClipRect) → All (λ r. IsInside r width height) rects → 0 < pixel_counts rects → (x : ℕ) × (y : ℕ) × (x < width) × (y < height) × (in_rects rects x y ≡ true)
some_place width height [] inside some = absurd (omega arith)
some_place width height (r ∷ rs) inside some = by (pixel_count r == 0) refl (some_place width height rs (λ k d within. inside (suc k) d (omega arith))) where
  by : (b : Bool) → (pixel_count r == 0) ≡ b → (0 < pixel_counts rs → (x : ℕ) × (y : ℕ) × (x < width) × (y < height) × (in_rects rs x y ≡ true)) → (x : ℕ) × (y : ℕ) × (x < width) × (y < height) × (in_rects (r ∷ rs) x y ≡ true)
  by true e rest =
      let first : pixel_count r ≡ 0 = grind (arith, nat_tests, e) in
      let parts = sum_by-cons pixel_count r rs in
      let found = rest (omega (arith, parts, first, some)) in
      (found.0, found.1, found.2, found.3, rw found.4 (or_true (in_rect r found.0 found.1)))
  by false e rest =
      let corner = corner_in width height r (inside 0 r (omega arith)) (λ none. true≢false (sym (ap (λ n. n == 0) none) ∙ e)) in
      (r.x1, r.y1, corner.0, corner.1, rw corner.2 refl)

-- the rectangles touch the grid exactly where they have pixels
pub touch_none : (width height : ℕ) (rects : List ClipRect) → pixel_counts rects ≡ 0 → has_some width height (in_rects rects) ≡ false
touch_none width height rects none = none_has width height (in_rects rects) (λ x y lx ly. no_place rects x y none)

pub touch_some : (width height : ℕ) (rects : List ClipRect) → All (λ r. IsInside r width height) rects → 0 < pixel_counts rects → has_some width height (in_rects rects) ≡ true
touch_some width height rects inside some =
    let place = some_place width height rects inside some in
    some_has width height (in_rects rects) place.0 place.1 place.2 place.3 place.4

-- they fill it exactly where they have as many pixels
pub fill_counts : (width height : ℕ) (rects : List ClipRect) → All (λ r. IsInside r width height) rects → AllPairs AreApart rects → (pixel_counts rects == width * height) ≡ has_all width height (in_rects rects)
fill_counts width height rects inside apart = by (pixel_counts rects == width * height) refl where
  by : (b : Bool) → (pixel_counts rects == width * height) ≡ b → b ≡ has_all width height (in_rects rects)
  by true e = sym (all_has width height (in_rects rects) (full_covers width height rects inside apart (grind (arith, nat_tests, e))))
  by false e = other (has_all width height (in_rects rects)) refl where
    other : (c : Bool) → has_all width height (in_rects rects) ≡ c → false ≡ c
    other false h = refl
    other true h =
        let least = cover_fills width height rects inside (λ x y lx ly. has_each width height (in_rects rects) x y h lx ly) in
        let most = apart_fit width height rects inside apart in
        let same : pixel_counts rects ≡ width * height = omega (arith, least, most) in
        absurd (grind (arith, nat_tests, e, same))

-- a grid that is filled has a place that is touched
pub fill_touches : (width height : ℕ) (rects : List ClipRect) → 0 < width → 0 < height → has_all width height (in_rects rects) ≡ true → has_some width height (in_rects rects) ≡ true
fill_touches width height rects wide high has = some_has width height (in_rects rects) 0 0 wide high (has_each width height (in_rects rects) 0 0 has wide high)

-- the count, which is at most the greatest number
pub filled_total : (width height : ℕ) (rects : List ClipRect) → All (λ r. IsInside r width height) rects → AllPairs AreApart rects → (total area most : ℕ) → total ≡ min (pixel_counts rects) most → area ≡ width * height → area ≤ most → (total == area) ≡ has_all width height (in_rects rects)
filled_total width height rects inside apart total area most is same small =
    let fits = apart_fit width height rects inside apart in
    let exact : total ≡ pixel_counts rects = omega (arith, is, same, small, fits) in
    rw (exact, same) (fill_counts width height rects inside apart)

-- and the rectangles touch the grid where the count isn't 0
pub touched_total : (width height : ℕ) (rects : List ClipRect) → All (λ r. IsInside r width height) rects → (total most : ℕ) → total ≡ min (pixel_counts rects) most → 1 ≤ most → nat_lt 0 total ≡ has_some width height (in_rects rects)
touched_total width height rects inside total most is some = by (nat_lt 0 total) refl where
  by : (b : Bool) → nat_lt 0 total ≡ b → b ≡ has_some width height (in_rects rects)
  by true e =
      let more : 0 < total = grind (arith, nat_tests, e) in
      sym (touch_some width height rects inside (omega (arith, more, is, some)))
  by false e =
      let none : total ≡ 0 = grind (arith, nat_tests, e) in
      sym (touch_none width height rects (omega (arith, none, is, some)))

-- a card has fewer pixels than the greatest number
pub small_area : (width height : ℕ) → width ≤ 1024 → height ≤ 1024 → width * height ≤ 18446744073709551615
small_area width height wide high = let most : width * height ≤ 1024 * 1024 = mul-le-mul wide high in omega (arith, most)
