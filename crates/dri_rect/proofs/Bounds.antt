-- Rectangles that hold regions.
use Rattle.std.proofs.Common.{◌≡◌, ℕ, zero, suc, ◌<◌, ◌+◌, length, get_or, take, List, [], ◌∷◌, Bool, true, false, arith, refl, sym, ◌∙◌, inl, inr, ap, subst}
use Rattle.std.specs.Prelude.{ℤ, ◌<ℤ◌, ◌≤ℤ◌, ◌&&◌, ◌||◌, not, int_le, int_lt, Result, Ok, Err, IfOk}
use Rattle.std.specs.List.{AllByRecursion}
use Rattle.std.proofs.lemmas.Int.{ints}
use Rattle.std.proofs.lemmas.Bool.{true≢false, and_parts}
use Rattle.std.proofs.Math.Bool.{or_assoc}
use Rattle.dri_base.specs.declared.memory.OutOfMemory.{OutOfMemory}
use Rattle.dri_base.specs.declared.shape.Rect.{Rect}
use Rattle.dri_rect.specs.Pixels.{has_pixel, inside}
use Rattle.dri_rect.specs.Walk.{Fits, IsRegion, lesser_of, greater_of}
use Rattle.dri_rect.specs.Extents.{shared_by, hull_of, reaches_round, is_nowhere, listed, Holds, Includes, FitsIfProper, IsKept}
use Rattle.dri_rect.proofs.Numbers.{least_both, most_both, low_first, low_second, high_first, high_second, mixed}
use Rattle.dri_rect.proofs.Unique.{Has, tested, tests, not_true}
use Rattle.dri_rect.proofs.Regions.{one_region, one_pixels, no_pixels}

-- the pixels that two rectangles share
pub shared_pixels : (a b : Rect) (x y : ℤ) → has_pixel (shared_by a b) x y ≡ (has_pixel a x y && has_pixel b x y)
shared_pixels a b x y = rw (least_both a.y1 b.y1 y, most_both a.y2 b.y2 y, least_both a.x1 b.x1 x, most_both a.x2 b.x2 x, mixed (int_le a.y1 y) (int_le b.y1 y) (int_lt y a.y2) (int_lt y b.y2), mixed (int_le a.x1 x) (int_le b.x1 x) (int_lt x a.x2) (int_lt x b.x2))
    (mixed (int_le a.y1 y && int_lt y a.y2) (int_le b.y1 y && int_lt y b.y2) (int_le a.x1 x && int_lt x a.x2) (int_le b.x1 x && int_lt x b.x2))

-- a rectangle round two has the pixels of both
pub hull_first : (a b : Rect) (x y : ℤ) → has_pixel a x y ≡ true → has_pixel (hull_of a b) x y ≡ true
hull_first a b x y e = let h = tested a x y e in tests (hull_of a b) x y (record { left = omega (arith, ints, h.left, low_first a.x1 b.x1); right = omega (arith, ints, h.right, high_first a.x2 b.x2); top = omega (arith, ints, h.top, low_first a.y1 b.y1); bottom = omega (arith, ints, h.bottom, high_first a.y2 b.y2) })

pub hull_second : (a b : Rect) (x y : ℤ) → has_pixel b x y ≡ true → has_pixel (hull_of a b) x y ≡ true
hull_second a b x y e = let h = tested b x y e in tests (hull_of a b) x y (record { left = omega (arith, ints, h.left, low_second a.x1 b.x1); right = omega (arith, ints, h.right, high_second a.x2 b.x2); top = omega (arith, ints, h.top, low_second a.y1 b.y1); bottom = omega (arith, ints, h.bottom, high_second a.y2 b.y2) })

-- a rectangle that reaches round another has its pixels
pub round_pixels : (a b : Rect) (x y : ℤ) → reaches_round a b ≡ true → has_pixel b x y ≡ true → has_pixel a x y ≡ true
round_pixels a b x y r e = tests a x y (record { left = left; right = right; top = top; bottom = bottom })
  where
    h : Has b x y
    h = tested b x y e

    left : a.x1 ≤ℤ x
    left = grind (arith, ints, h.left)

    right : x <ℤ a.x2
    right = grind (arith, ints, h.right)

    top : a.y1 ≤ℤ y
    top = grind (arith, ints, h.top)

    bottom : y <ℤ a.y2
    bottom = grind (arith, ints, h.bottom)

-- a rectangle without a pixel
pub nowhere : (r : Rect) → is_nowhere r ≡ true → (x y : ℤ) → has_pixel r x y ≡ false
nowhere r e x y = by (int_le r.x2 r.x1) refl
  where
    by : (k : Bool) → int_le r.x2 r.x1 ≡ k → has_pixel r x y ≡ false
    by true h = sym (no_pixels r (inl (grind (arith, ints))) x y)
    by false h = sym (no_pixels r (inr (grind (arith, ints))) x y)

-- the pixels of what is kept as a rectangle alone
pub alone_pixels : (b : Rect) (rs : List Rect) → length rs ≡ 0 → (x y : ℤ) → inside (listed b rs) x y ≡ has_pixel b x y
alone_pixels b (r ∷ rs) n x y = absurd (omega (arith, n))
alone_pixels b [] n x y = by (int_lt b.x1 b.x2) refl
  where
    by : (k : Bool) → int_lt b.x1 b.x2 ≡ k → inside (listed b []) x y ≡ has_pixel b x y
    by true h = rw h (one_pixels b x y)
    by false h = rw h (no_pixels b (inl (grind (arith, ints))) x y)

-- a rectangle with a pixel is kept alone
pub kept_alone : (r : Rect) (rs : List Rect) → rs ≡ [] → FitsIfProper r → r.x1 <ℤ r.x2 → r.y1 <ℤ r.y2 → IsKept r rs
kept_alone r rs e f a d = rw e (record { region = listing; holds = λ x y i. sym (alone_pixels r [] refl x y) ∙ i })
  where
    wide : int_lt r.x1 r.x2 ≡ true
    wide = grind (arith, ints)

    listing : IsRegion (listed r [])
    listing = rw wide (one_region r (f a d) a d)

pub kept_pixels : (r : Rect) (rs : List Rect) → rs ≡ [] → (x y : ℤ) → inside (listed r rs) x y ≡ has_pixel r x y
kept_pixels r rs e x y = alone_pixels r rs (rw e refl) x y

-- a list of one rectangle
pub kept_one : (rs : List Rect) (r d : Rect) (none : List Rect) → length rs ≡ 1 → r ≡ get_or rs 0 d → none ≡ [] → IsRegion rs → IsKept r none
kept_one [] r d none n e k i = absurd (omega (arith, n))
kept_one (s ∷ t ∷ ts) r d none n e k i = absurd (omega (arith, n))
kept_one (s ∷ []) r d none n e k i = rw e (kept_alone s none k (λ a b. i.range.0) i.canonical.banded.0.across i.canonical.banded.0.down)

-- what two rectangles share of a region kept as one of them is in range
pub shared_fits : (a b : Rect) (rs : List Rect) → length rs ≡ 0 → IsKept a rs → FitsIfProper (shared_by a b)
shared_fits a b (r ∷ rs) n k = absurd (omega (arith, n))
shared_fits a b [] n k = λ across down.
    let la = high_first a.x1 b.x1 in
    let ra = low_first a.x2 b.x2 in
    let ta = high_first a.y1 b.y1 in
    let ba = low_first a.y2 b.y2 in
    let wide : int_lt a.x1 a.x2 ≡ true = wider across la ra in
    let f : Fits a = (subst (λ (t : List Rect). AllByRecursion Fits t) (shown wide) k.region.range).0 in
    record { left = omega (arith, ints, f.left, la); right = omega (arith, ints, f.right, ra); top = omega (arith, ints, f.top, ta); bottom = omega (arith, ints, f.bottom, ba) }
  where
    wider : greater_of a.x1 b.x1 <ℤ lesser_of a.x2 b.x2 → a.x1 ≤ℤ greater_of a.x1 b.x1 → lesser_of a.x2 b.x2 ≤ℤ a.x2 → int_lt a.x1 a.x2 ≡ true
    wider p q r = let l : a.x1 <ℤ a.x2 = omega (arith, ints, p, q, r) in grind (arith, ints, l)

    shown : int_lt a.x1 a.x2 ≡ true → listed a [] ≡ a ∷ []
    shown e = rw e refl

-- regions that rectangles hold which lie apart
pub apart : (a b : Rect) (rs ss : List Rect) → Holds a rs → Holds b ss → is_nowhere (shared_by a b) ≡ true → (x y : ℤ) → (inside rs x y && inside ss x y) ≡ false
apart a b rs ss h k n x y = not_true (inside rs x y && inside ss x y) (λ e. clash (and_parts (inside rs x y) (inside ss x y) e))
  where
    both : (p q : Bool) → p ≡ true → q ≡ true → (p && q) ≡ true
    both p q e f = rw (e, f) refl

    clash : (inside rs x y ≡ true) × (inside ss x y ≡ true) → ⊥
    clash e = true≢false (sym (both (has_pixel a x y) (has_pixel b x y) (h x y e.0) (k x y e.1)) ∙ (sym (shared_pixels a b x y) ∙ nowhere (shared_by a b) n x y))

pub nothing_shared : (a b : Rect) (rs ss : List Rect) → Holds a rs → Holds b ss → is_nowhere (shared_by a b) ≡ true → (x y : ℤ) → inside [] x y ≡ (inside rs x y && inside ss x y)
nothing_shared a b rs ss h k n x y = sym (apart a b rs ss h k n x y)

without : (p q : Bool) → (p && q) ≡ false → p ≡ (p && not q)
without true true e = absurd (true≢false e)
without true false e = refl
without false q e = refl

pub apart_subtracted : (a b : Rect) (rs ss : List Rect) → Holds a rs → Holds b ss → is_nowhere (shared_by a b) ≡ true → (x y : ℤ) → inside rs x y ≡ (inside rs x y && not (inside ss x y))
apart_subtracted a b rs ss h k n x y = without (inside rs x y) (inside ss x y) (apart a b rs ss h k n x y)

-- what holds the answer
pub holds_either : (a b : Rect) (rs ss : List Rect) → Holds a rs → Holds b ss → (x y : ℤ) → (inside rs x y || inside ss x y) ≡ true → has_pixel (hull_of a b) x y ≡ true
holds_either a b rs ss h k x y e = by (inside rs x y) refl
  where
    by : (p : Bool) → inside rs x y ≡ p → has_pixel (hull_of a b) x y ≡ true
    by true q = hull_first a b x y (h x y q)
    by false q = hull_second a b x y (k x y (rw q at e))

pub holds_both : (a b : Rect) (rs ss : List Rect) → Holds a rs → Holds b ss → (x y : ℤ) → (inside rs x y && inside ss x y) ≡ true → has_pixel (shared_by a b) x y ≡ true
holds_both a b rs ss h k x y e = let p = and_parts (inside rs x y) (inside ss x y) e in rw (shared_pixels a b x y, h x y p.0, k x y p.1) refl

pub holds_rest : (a : Rect) (rs ss : List Rect) → Holds a rs → (x y : ℤ) → (inside rs x y && not (inside ss x y)) ≡ true → has_pixel a x y ≡ true
holds_rest a rs ss h x y e = h x y (and_parts (inside rs x y) (not (inside ss x y)) e).0

-- a region that another includes
pub includes_round : (a b : Rect) (rs ss : List Rect) → length rs ≡ 0 → Holds b ss → reaches_round a b ≡ true → Includes (listed a rs) ss
includes_round a b rs ss n h r x y e = alone_pixels a rs n x y ∙ round_pixels a b x y r (h x y e)

pub includes_nothing : (b : Rect) (rs ss ts : List Rect) → length ts ≡ 0 → ss ≡ listed b ts → is_nowhere b ≡ true → Includes rs ss
includes_nothing b rs ss ts n l e x y i = absurd (true≢false (sym i ∙ (rw l (alone_pixels b ts n x y) ∙ nowhere b e x y)))

-- a rectangle round one more
one_more : (rs : List Rect) (n : ℕ) (d : Rect) (x y : ℤ) → n < length rs → inside (take (suc n) rs) x y ≡ (inside (take n rs) x y || has_pixel (get_or rs n d) x y)
one_more [] n d x y l = absurd (omega (arith, l))
one_more (r ∷ rs) zero d x y l = one_pixels r x y
one_more (r ∷ rs) (suc n) d x y l = ap (λ k. has_pixel r x y || k) (one_more rs n d x y (omega (arith, l))) ∙ sym (or_assoc (has_pixel r x y) (inside (take n rs) x y) (has_pixel (get_or rs n d) x y))

pub hold_more : (b : Rect) (rs : List Rect) (n : ℕ) (d : Rect) → n < length rs → Holds b (take n rs) → Holds (hull_of b (get_or rs n d)) (take (n + 1) rs)
hold_more b rs n d l h x y = let e : n + 1 ≡ suc n = omega arith in rw (e, one_more rs n d x y l) (by (inside (take n rs) x y) refl)
  where
    by : (p : Bool) → inside (take n rs) x y ≡ p → (p || has_pixel (get_or rs n d) x y) ≡ true → has_pixel (hull_of b (get_or rs n d)) x y ≡ true
    by true q i = hull_first b (get_or rs n d) x y (h x y q)
    by false q i = hull_second b (get_or rs n d) x y i

-- what the calls answer without a walk
pub apart_copied : (a b : Rect) (r : Result (List Rect) OutOfMemory) (rs ss : List Rect) → Holds a rs → Holds b ss → is_nowhere (shared_by a b) ≡ true → IfOk r (λ t. t ≡ rs)
    → IfOk r (λ t. (x y : ℤ) → inside t x y ≡ (inside rs x y && not (inside ss x y)))
apart_copied a b (Err e) rs ss h k n i = tt
apart_copied a b (Ok t) rs ss h k n i = λ x y. rw i (apart_subtracted a b rs ss h k n x y)

pub both_alone : (a b r : Rect) (rs ss out us vs : List Rect) → length us ≡ 0 → length vs ≡ 0 → listed a us ≡ rs → listed b vs ≡ ss → r ≡ shared_by a b → ((x y : ℤ) → inside out x y ≡ has_pixel r x y)
    → (x y : ℤ) → inside out x y ≡ (inside rs x y && inside ss x y)
both_alone a b r rs ss out us vs m n e f s is x y = is x y ∙ rw (s, sym e, sym f, alone_pixels a us m x y, alone_pixels b vs n x y) (shared_pixels a b x y)
