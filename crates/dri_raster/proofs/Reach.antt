-- A covered centre lies between the corners: the three edges' distances balance the ways to the corners.
use Rattle.std.proofs.Common.{◌&&◌, ◌≡◌, ◌↔◌, zero, suc, true, false, not, if◌then◌else◌, ℤ, pos, negsuc, ◌+ℤ◌, ◌-ℤ◌, ◌*ℤ◌, ◌≤ℤ◌, ◌<ℤ◌, neg_ℤ, unsigned_abs, int_le, int_lt, ap, refl, ◌∙◌, arith, Bool}
use Rattle.std.specs.Ordering.{int_eq}
use Rattle.std.proofs.lemmas.Int.{ints, by_lt_z}
use Rattle.std.proofs.Math.IntN.{*ℤ_comm}
use Rattle.dri_base.specs.declared.shape.Point.{Point}
use Rattle.dri_base.specs.declared.shape.Vertex.{Vertex}
use Rattle.dri_base.specs.declared.shape.Triangle.{Triangle}
use Rattle.dri_base.specs.Coverage.{area, centre, corner, covers, edge, is_inside, is_within, turned}
use Rattle.dri_base.specs.Ranges.{TriangleInRange}
use Rattle.std.specs.Int.{int_div_euclid}
use Rattle.dri_base.specs.declared.shape.Rect.{Rect}
use Rattle.dri_raster.specs.Edges.{IsPixel}
use Rattle.dri_raster.specs.Spans.{in_bounds}
use Rattle.dri_raster.specs.Reach.{CoveredIsAmid, IsAmid}
use Rattle.dri_raster.proofs.Rings.{mul_plus, plus_mul, mul_neg, neg_mul, mul_assoc}
use Rattle.dri_raster.proofs.Quantities.{area_turned, edges_add, first_of, second_of}
use Rattle.dri_base.proofs.Quantities.{within_above}

rotate : (u v w : ℤ) → (u *ℤ v) *ℤ w ≡ (v *ℤ w) *ℤ u
rotate u v w = mul_assoc u v w ∙ *ℤ_comm u (v *ℤ w)

abbrev cross : ℤ → ℤ → ℤ → ℤ → ℤ
cross ux uy vx vy = (ux *ℤ vy) -ℤ (uy *ℤ vx)

less_times : (p q u : ℤ) → (p -ℤ q) *ℤ u ≡ (p *ℤ u) -ℤ (q *ℤ u)
less_times p q u = plus_mul p (neg_ℤ q) u ∙ ap (λ z. (p *ℤ u) +ℤ z) (neg_mul q u)

six : (e f g p q r s t u : ℤ) → e ≡ p -ℤ q → f ≡ r -ℤ s → g ≡ t -ℤ u → p ≡ s → t ≡ q → r ≡ u → (e +ℤ f) +ℤ g ≡ pos 0
six e f g p q r s t u h i j k l m = omega (arith, ints)

six_again : (e f g p q r s t u : ℤ) → e ≡ p -ℤ q → f ≡ r -ℤ s → g ≡ t -ℤ u → u ≡ p → q ≡ r → s ≡ t → (e +ℤ f) +ℤ g ≡ pos 0
six_again e f g p q r s t u h i j k l m = omega (arith, ints)

across : (ax ay bx by cx cy : ℤ) → ((cross bx by cx cy *ℤ ax) +ℤ (cross cx cy ax ay *ℤ bx)) +ℤ (cross ax ay bx by *ℤ cx) ≡ pos 0
across ax ay bx by cx cy =
    six _ _ _ _ _ _ _ _ _ (less_times (bx *ℤ cy) (by *ℤ cx) ax) (less_times (cx *ℤ ay) (cy *ℤ ax) bx) (less_times (ax *ℤ by) (ay *ℤ bx) cx) (rotate bx cy ax) (rotate ax by cx) (rotate cx ay bx)

down : (ax ay bx by cx cy : ℤ) → ((cross bx by cx cy *ℤ ay) +ℤ (cross cx cy ax ay *ℤ by)) +ℤ (cross ax ay bx by *ℤ cy) ≡ pos 0
down ax ay bx by cx cy =
    six_again _ _ _ _ _ _ _ _ _ (less_times (bx *ℤ cy) (by *ℤ cx) ay) (less_times (cx *ℤ ay) (cy *ℤ ax) by) (less_times (ax *ℤ by) (ay *ℤ bx) cy) (rotate ay bx cy) (rotate by cx ay) (rotate cy ax by)

from_place : (b c p : Point) → edge b c p ≡ cross (b.x -ℤ p.x) (b.y -ℤ p.y) (c.x -ℤ p.x) (c.y -ℤ p.y)
from_place b c p = simp (mul_plus, plus_mul, mul_neg, neg_mul) (omega (arith, ints))

-- each edge's distance by the way to the corner across from it: together nothing
balance_x : (a b c p : Point) → ((edge b c p *ℤ (a.x -ℤ p.x)) +ℤ (edge c a p *ℤ (b.x -ℤ p.x))) +ℤ (edge a b p *ℤ (c.x -ℤ p.x)) ≡ pos 0
balance_x a b c p =
    ap (λ e. ((e *ℤ (a.x -ℤ p.x)) +ℤ (edge c a p *ℤ (b.x -ℤ p.x))) +ℤ (edge a b p *ℤ (c.x -ℤ p.x))) (from_place b c p)
    ∙ ap (λ e. ((cross (b.x -ℤ p.x) (b.y -ℤ p.y) (c.x -ℤ p.x) (c.y -ℤ p.y) *ℤ (a.x -ℤ p.x)) +ℤ (e *ℤ (b.x -ℤ p.x))) +ℤ (edge a b p *ℤ (c.x -ℤ p.x))) (from_place c a p)
    ∙ ap (λ e. ((cross (b.x -ℤ p.x) (b.y -ℤ p.y) (c.x -ℤ p.x) (c.y -ℤ p.y) *ℤ (a.x -ℤ p.x)) +ℤ (cross (c.x -ℤ p.x) (c.y -ℤ p.y) (a.x -ℤ p.x) (a.y -ℤ p.y) *ℤ (b.x -ℤ p.x))) +ℤ (e *ℤ (c.x -ℤ p.x))) (from_place a b p)
    ∙ across (a.x -ℤ p.x) (a.y -ℤ p.y) (b.x -ℤ p.x) (b.y -ℤ p.y) (c.x -ℤ p.x) (c.y -ℤ p.y)

balance_y : (a b c p : Point) → ((edge b c p *ℤ (a.y -ℤ p.y)) +ℤ (edge c a p *ℤ (b.y -ℤ p.y))) +ℤ (edge a b p *ℤ (c.y -ℤ p.y)) ≡ pos 0
balance_y a b c p =
    ap (λ e. ((e *ℤ (a.y -ℤ p.y)) +ℤ (edge c a p *ℤ (b.y -ℤ p.y))) +ℤ (edge a b p *ℤ (c.y -ℤ p.y))) (from_place b c p)
    ∙ ap (λ e. ((cross (b.x -ℤ p.x) (b.y -ℤ p.y) (c.x -ℤ p.x) (c.y -ℤ p.y) *ℤ (a.y -ℤ p.y)) +ℤ (e *ℤ (b.y -ℤ p.y))) +ℤ (edge a b p *ℤ (c.y -ℤ p.y))) (from_place c a p)
    ∙ ap (λ e. ((cross (b.x -ℤ p.x) (b.y -ℤ p.y) (c.x -ℤ p.x) (c.y -ℤ p.y) *ℤ (a.y -ℤ p.y)) +ℤ (cross (c.x -ℤ p.x) (c.y -ℤ p.y) (a.x -ℤ p.x) (a.y -ℤ p.y) *ℤ (b.y -ℤ p.y))) +ℤ (e *ℤ (c.y -ℤ p.y))) (from_place a b p)
    ∙ down (a.x -ℤ p.x) (a.y -ℤ p.y) (b.x -ℤ p.x) (b.y -ℤ p.y) (c.x -ℤ p.x) (c.y -ℤ p.y)

-- ---- weights that aren't negative don't balance ways that all lead to one side
no_less : (p u : ℤ) → pos 0 ≤ℤ p → pos 0 <ℤ u → p ≤ℤ (p *ℤ u)
no_less (pos p) (pos (suc u)) h k = omega (arith, ints)
no_less (pos p) (pos zero) h k = absurd (omega (arith, ints))
no_less (pos p) (negsuc u) h k = absurd (omega (arith, ints))
no_less (negsuc p) u h k = absurd h.le

no_more : (p u : ℤ) → pos 0 ≤ℤ p → u <ℤ pos 0 → (p *ℤ u) ≤ℤ neg_ℤ p
no_more (pos p) (pos u) h k = absurd (omega (arith, ints))
no_more (pos p) (negsuc u) h k = omega (arith, ints)
no_more (negsuc p) u h k = absurd h.le

none_of_three : (p q r l m n : ℤ) → pos 0 ≤ℤ p → pos 0 ≤ℤ q → pos 0 ≤ℤ r → p ≤ℤ l → q ≤ℤ m → r ≤ℤ n → (l +ℤ m) +ℤ n ≡ pos 0 → (p +ℤ q) +ℤ r ≡ pos 0
none_of_three p q r l m n hp hq hr hl hm hn is = omega (arith, ints)

none_of_three_again : (p q r l m n : ℤ) → pos 0 ≤ℤ p → pos 0 ≤ℤ q → pos 0 ≤ℤ r → l ≤ℤ neg_ℤ p → m ≤ℤ neg_ℤ q → n ≤ℤ neg_ℤ r → (l +ℤ m) +ℤ n ≡ pos 0 → (p +ℤ q) +ℤ r ≡ pos 0
none_of_three_again p q r l m n hp hq hr hl hm hn is = omega (arith, ints)

ahead : (p u v w : ℤ) → p <ℤ u → u ≤ℤ v → w ≡ v -ℤ p → pos 0 <ℤ w
ahead p u v w h k is = omega (arith, ints)

behind : (p u v w : ℤ) → u <ℤ p → v ≤ℤ u → w ≡ v -ℤ p → w <ℤ pos 0
behind p u v w h k is = omega (arith, ints)

-- what is said of all corners is said of them when they have turned
of_turned : (P : Vertex → Type 0) (t : Triangle) → P t.a → P t.b → P t.c → P (turned t).a × P (turned t).b × P (turned t).c
of_turned P t a b c =
    let swapped : Triangle = record { a = t.a; b = t.c; c = t.b } in
    elim (int_lt (area t) (pos 0)) as (λ k. P (if k then swapped else t).a × P (if k then swapped else t).b × P (if k then swapped else t).c) [
      | true ↦ (a, c, b)
      | false ↦ (a, b, c)
    ]

no_area : (s d e : ℤ) → s ≡ pos 0 → s ≡ e → unsigned_abs e ≡ unsigned_abs d → not (int_eq d (pos 0)) ≡ true → ⊥
no_area s d e none is same some = has_some d (omega (arith, ints)) some where
  has_some : (z : ℤ) → unsigned_abs z ≡ 0 → not (int_eq z (pos 0)) ≡ true → ⊥
  has_some (pos zero) h k = cc
  has_some (pos (suc n)) h k = omega arith
  has_some (negsuc n) h k = omega arith

-- the distances of a covered centre
pub record AreInside (t : Triangle) (p : Point) : Type 0 where
  pub bc : pos 0 ≤ℤ edge (corner t.b) (corner t.c) p
  pub ca : pos 0 ≤ℤ edge (corner t.c) (corner t.a) p
  pub ab : pos 0 ≤ℤ edge (corner t.a) (corner t.b) p

pub inside : (t : Triangle) (p : Point) → is_inside t p ≡ true → AreInside t p
inside t p h =
    let ab = first_of (is_within (corner t.a) (corner t.b) p) _ h in
    let others = second_of (is_within (corner t.a) (corner t.b) p) _ h in
    let bc = first_of (is_within (corner t.b) (corner t.c) p) _ others in
    let ca = second_of (is_within (corner t.b) (corner t.c) p) _ others in
    record { bc = within_above _ _ bc; ca = within_above _ _ ca; ab = within_above _ _ ab }

-- three distances whose sum is nothing aren't those of a covered centre
pub not_none : (t : Triangle) (x y : ℤ) → covers t x y ≡ true → (edge (corner (turned t).b) (corner (turned t).c) (centre x y) +ℤ edge (corner (turned t).c) (corner (turned t).a) (centre x y)) +ℤ edge (corner (turned t).a) (corner (turned t).b) (centre x y) ≡ pos 0 → ⊥
not_none t x y covered none =
    let u = turned t in
    no_area _ (area t) (area u) none (edges_add (corner u.a) (corner u.b) (corner u.c) (centre x y)) (area_turned t) (first_of _ (is_inside u (centre x y)) covered)

pub amid : CoveredIsAmid
amid t x y covered =
    let u = turned t in
    let p = centre x y in
    let e = inside u p (second_of (not (int_eq (area t) (pos 0))) (is_inside u p) covered) in
    let flat_x = balance_x (corner u.a) (corner u.b) (corner u.c) p in
    let flat_y = balance_y (corner u.a) (corner u.b) (corner u.c) p in
    record {
      left = λ n a b c. by_lt_z p.x n
          (λ less.
          let k = of_turned (λ v. n ≤ℤ v.x) t a b c in
          absurd (not_none t x y covered (none_of_three _ _ _ _ _ _ e.bc e.ca e.ab (no_less _ (u.a.x -ℤ p.x) e.bc (ahead p.x n u.a.x _ less k.0 refl)) (no_less _ (u.b.x -ℤ p.x) e.ca (ahead p.x n u.b.x _ less k.1 refl)) (no_less _ (u.c.x -ℤ p.x) e.ab (ahead p.x n u.c.x _ less k.2 refl)) flat_x)))
          (λ le. le);
      right = λ n a b c. by_lt_z n p.x
          (λ less.
          let k = of_turned (λ v. v.x ≤ℤ n) t a b c in
          absurd (not_none t x y covered (none_of_three_again _ _ _ _ _ _ e.bc e.ca e.ab (no_more _ (u.a.x -ℤ p.x) e.bc (behind p.x n u.a.x _ less k.0 refl)) (no_more _ (u.b.x -ℤ p.x) e.ca (behind p.x n u.b.x _ less k.1 refl)) (no_more _ (u.c.x -ℤ p.x) e.ab (behind p.x n u.c.x _ less k.2 refl)) flat_x)))
          (λ le. le);
      top = λ n a b c. by_lt_z p.y n
          (λ less.
          let k = of_turned (λ v. n ≤ℤ v.y) t a b c in
          absurd (not_none t x y covered (none_of_three _ _ _ _ _ _ e.bc e.ca e.ab (no_less _ (u.a.y -ℤ p.y) e.bc (ahead p.y n u.a.y _ less k.0 refl)) (no_less _ (u.b.y -ℤ p.y) e.ca (ahead p.y n u.b.y _ less k.1 refl)) (no_less _ (u.c.y -ℤ p.y) e.ab (ahead p.y n u.c.y _ less k.2 refl)) flat_y)))
          (λ le. le);
      bottom = λ n a b c. by_lt_z n p.y
          (λ less.
          let k = of_turned (λ v. v.y ≤ℤ n) t a b c in
          absurd (not_none t x y covered (none_of_three_again _ _ _ _ _ _ e.bc e.ca e.ab (no_more _ (u.a.y -ℤ p.y) e.bc (behind p.y n u.a.y _ less k.0 refl)) (no_more _ (u.b.y -ℤ p.y) e.ca (behind p.y n u.b.y _ less k.1 refl)) (no_more _ (u.c.y -ℤ p.y) e.ab (behind p.y n u.c.y _ less k.2 refl)) flat_y)))
          (λ le. le);
    }

-- a pixel whose centre is covered
pixel_is : (x : ℤ) → neg_ℤ (pos 32768) ≤ℤ ((pos 16 *ℤ x) +ℤ pos 8) → ((pos 16 *ℤ x) +ℤ pos 8) ≤ℤ pos 32767 → IsPixel x
pixel_is x low high = (omega (arith, ints), omega (arith, ints))

pub covered_column : (t : Triangle) (x y : ℤ) → TriangleInRange t → covers t x y ≡ true → IsPixel x
covered_column t x y range covered =
    let m = amid t x y covered in
    pixel_is x (m.left (neg_ℤ (pos 32768)) range.0.0.0 range.1.0.0 range.2.0.0) (m.right (pos 32767) range.0.0.1 range.1.0.1 range.2.0.1)

pub covered_row : (t : Triangle) (x y : ℤ) → TriangleInRange t → covers t x y ≡ true → IsPixel y
covered_row t x y range covered =
    let m = amid t x y covered in
    pixel_is y (m.top (neg_ℤ (pos 32768)) range.0.1.0 range.1.1.0 range.2.1.0) (m.bottom (pos 32767) range.0.1.1 range.1.1.1 range.2.1.1)

-- ---- the quotients by sixteen
pub floor_least : (z n : ℤ) → z ≤ℤ ((pos 16 *ℤ n) +ℤ pos 15) → int_div_euclid z (pos 16) ≤ℤ n
floor_least (pos a) n h = omega (arith, ints)
floor_least (negsuc a) n h = omega (arith, ints)

pub floor_past : (z n : ℤ) → ((pos 16 *ℤ n) +ℤ pos 16) ≤ℤ z → n <ℤ int_div_euclid z (pos 16)
floor_past (pos a) n h = omega (arith, ints)
floor_past (negsuc a) n h = omega (arith, ints)

-- and back
pub floor_up_to : (z n : ℤ) → int_div_euclid z (pos 16) ≤ℤ n → z ≤ℤ ((pos 16 *ℤ n) +ℤ pos 15)
floor_up_to (pos a) n h = omega (arith, ints)
floor_up_to (negsuc a) n h = omega (arith, ints)

pub floor_beyond : (z n : ℤ) → n <ℤ int_div_euclid z (pos 16) → ((pos 16 *ℤ n) +ℤ pos 16) ≤ℤ z
floor_beyond (pos a) n h = omega (arith, ints)
floor_beyond (negsuc a) n h = omega (arith, ints)

pub floor_near : (z : ℤ) → neg_ℤ (pos 32768) ≤ℤ z → z ≤ℤ pos 32775 → IsPixel (int_div_euclid z (pos 16))
floor_near (pos a) h k = (omega (arith, ints), omega (arith, ints))
floor_near (negsuc a) h k = (omega (arith, ints), omega (arith, ints))

pub framed : (r : Rect) (x y : ℤ) → r.x1 ≤ℤ x → x <ℤ r.x2 → r.y1 ≤ℤ y → y <ℤ r.y2 → in_bounds r x y ≡ true
framed r x y a b c d = both_hold (int_le r.x1 x && int_lt x r.x2) (int_le r.y1 y && int_lt y r.y2) (between r.x1 x r.x2 a b) (between r.y1 y r.y2 c d) where
  between : (l m n : ℤ) → l ≤ℤ m → m <ℤ n → (int_le l m && int_lt m n) ≡ true
  between l m n h k = grind (arith, ints)

  both_hold : (p q : Bool) → p ≡ true → q ≡ true → (p && q) ≡ true
  both_hold true q h k = k
  both_hold false q h k = h

pub columns_of : (r : Rect) (x y : ℤ) → in_bounds r x y ≡ true → (r.x1 ≤ℤ x) × (x <ℤ r.x2)
columns_of r x y h = both r.x1 x r.x2 (first_of (int_le r.x1 x && int_lt x r.x2) (int_le r.y1 y && int_lt y r.y2) h) where
  both : (l m n : ℤ) → (int_le l m && int_lt m n) ≡ true → (l ≤ℤ m) × (m <ℤ n)
  both l m n k = (grind (arith, ints), grind (arith, ints))

pub rows_of : (r : Rect) (x y : ℤ) → in_bounds r x y ≡ true → (r.y1 ≤ℤ y) × (y <ℤ r.y2)
rows_of r x y h = last_of r.y1 y r.y2 (second_of (int_le r.x1 x && int_lt x r.x2) (int_le r.y1 y && int_lt y r.y2) h) where
  last_of : (l m n : ℤ) → (int_le l m && int_lt m n) ≡ true → (l ≤ℤ m) × (m <ℤ n)
  last_of l m n k = (grind (arith, ints), grind (arith, ints))

-- the pixels of the rows and columns between the corners
pub amid_bounds : (t : Triangle) (r : Rect) (x y : ℤ)
    → ((k : ℤ) → k ≤ℤ t.a.x → k ≤ℤ t.b.x → k ≤ℤ t.c.x → k ≤ℤ (centre x y).x) ↔ (r.x1 ≤ℤ x) → ((k : ℤ) → t.a.x ≤ℤ k → t.b.x ≤ℤ k → t.c.x ≤ℤ k → (centre x y).x ≤ℤ k) ↔ (x <ℤ r.x2)
    → ((k : ℤ) → k ≤ℤ t.a.y → k ≤ℤ t.b.y → k ≤ℤ t.c.y → k ≤ℤ (centre x y).y) ↔ (r.y1 ≤ℤ y) → ((k : ℤ) → t.a.y ≤ℤ k → t.b.y ≤ℤ k → t.c.y ≤ℤ k → (centre x y).y ≤ℤ k) ↔ (y <ℤ r.y2)
    → IsAmid t (centre x y) ↔ (in_bounds r x y ≡ true)
amid_bounds t r x y left right top bottom = (λ m. framed r x y (left.0 m.left) (right.0 m.right) (top.0 m.top) (bottom.0 m.bottom), λ h. between h) where
  between : in_bounds r x y ≡ true → IsAmid t (centre x y)
  between h = record {
    left = left.1 (columns_of r x y h).0;
    right = right.1 (columns_of r x y h).1;
    top = top.1 (rows_of r x y h).0;
    bottom = bottom.1 (rows_of r x y h).1;
  }
