-- The weighed sum along a row, its quotient and its remainder.
use Rattle.std.proofs.Common.{◌≡◌, ℕ, ◌+◌, ◌-◌, ◌*◌, ◌/◌, ◌%◌, ◌<◌, ◌≤◌, true, not, ℤ, pos, negsuc, ◌+ℤ◌, ◌-ℤ◌, ◌*ℤ◌, ◌≤ℤ◌, neg_ℤ, unsigned_abs, ap, subst, refl, sym, ◌∙◌, arith}
use Rattle.std.specs.Ordering.{int_eq}
use Rattle.std.proofs.lemmas.Int.{ints}
use Rattle.std.specs.Int.{int_div_euclid, int_rem_euclid}
use Rattle.std.proofs.lemmas.Nat.{div-mul-add}
use Rattle.std.proofs.Math.Nat.{div-le_self}
use Rattle.dri_base.specs.declared.shape.Point.{Point}
use Rattle.dri_base.specs.declared.shape.Vertex.{Vertex}
use Rattle.dri_base.specs.declared.shape.Triangle.{Triangle}
use Rattle.dri_base.specs.Coverage.{area, centre, corner, covers, edge, is_inside, quantity, turned, weighed}
use Rattle.dri_raster.specs.declared.edge.Edge.{Edge}
use Rattle.dri_base.specs.Ranges.{TriangleInRange}
use Rattle.dri_raster.specs.declared.runner.Runner.TheInside.{Inside}
use Rattle.dri_raster.specs.declared.channel.Channel.{Channel}
use Rattle.dri_raster.specs.Channels.{IsBounded, most, slope_by, value_of}
use Rattle.dri_raster.specs.Edges.{IsWithin, distance, edge_between, edges_of}
use Rattle.dri_raster.specs.Runners.{IsRunner, slope_of}
use Rattle.dri_raster.proofs.Distances.{distance_is}
use Rattle.dri_raster.proofs.Rings.{mul_plus, neg_mul, plus_mul}
use Rattle.dri_raster.proofs.Quantities.{most_is_small, quantity_bounded, second_of}
use Rattle.dri_raster.proofs.SumBounds.{area_small}
use Rattle.dri_raster.proofs.Reach.{inside}

-- ---- the sum isn't negative
sum_above : (e f g : ℤ) (u v w : ℕ) → pos 0 ≤ℤ e → pos 0 ≤ℤ f → pos 0 ≤ℤ g → pos 0 ≤ℤ (((e *ℤ pos u) +ℤ (f *ℤ pos v)) +ℤ (g *ℤ pos w))
sum_above (pos e) (pos f) (pos g) u v w h k l = omega (arith, ints)
sum_above (negsuc e) f g u v w h k l = absurd h.le
sum_above (pos e) (negsuc f) g u v w h k l = absurd k.le
sum_above (pos e) (pos f) (negsuc g) u v w h k l = absurd l.le

pub weighed_above : (t : Triangle) (value : Vertex → ℕ) (x y : ℤ) → covers t x y ≡ true → pos 0 ≤ℤ weighed (turned t) value (centre x y)
weighed_above t value x y covered =
    let u = turned t in
    let p = centre x y in
    let e = inside u p (second_of (not (int_eq (area t) (pos 0))) (is_inside u p) covered) in
    sum_above (edge (corner u.b) (corner u.c) p) (edge (corner u.c) (corner u.a) p) (edge (corner u.a) (corner u.b) p) (value u.a) (value u.b) (value u.c) e.bc e.ca e.ab

-- ---- the sum at the next column
one_less : (o r c d x next : ℤ) → d ≡ c *ℤ x → next ≡ (c *ℤ x) +ℤ (c *ℤ pos 1) → o +ℤ (r -ℤ next) ≡ (o +ℤ (r -ℤ d)) -ℤ c
one_less o r c d x next is next_is = omega (arith, ints)

distance_next : (e : Edge) (x y : ℤ) → distance e (x +ℤ pos 1) y ≡ distance e x y -ℤ e.column
distance_next e x y = one_less e.origin (e.row *ℤ y) e.column (e.column *ℤ x) x (e.column *ℤ (x +ℤ pos 1)) refl (mul_plus e.column x (pos 1))

edge_next : (a b : Point) (x y : ℤ) → edge a b (centre (x +ℤ pos 1) y) ≡ edge a b (centre x y) -ℤ (edge_between a b).column
edge_next a b x y =
    sym (distance_is a b (x +ℤ pos 1) y) ∙ distance_next (edge_between a b) x y ∙ ap (λ d. d -ℤ (edge_between a b).column) (distance_is a b x y)

less_times : (p q u : ℤ) → (p -ℤ q) *ℤ u ≡ (p *ℤ u) -ℤ (q *ℤ u)
less_times p q u = plus_mul p (neg_ℤ q) u ∙ ap (λ z. (p *ℤ u) +ℤ z) (neg_mul q u)

three_less : (e f g p q r l m n : ℤ) → e ≡ p -ℤ l → f ≡ q -ℤ m → g ≡ r -ℤ n → (e +ℤ f) +ℤ g ≡ ((p +ℤ q) +ℤ r) +ℤ neg_ℤ ((l +ℤ m) +ℤ n)
three_less e f g p q r l m n h i j = omega (arith, ints)

by_value : (d e c v : ℤ) → d ≡ e -ℤ c → d *ℤ v ≡ (e *ℤ v) -ℤ (c *ℤ v)
by_value d e c v is = ap (λ z. z *ℤ v) is ∙ less_times e c v

weighed_next : (t : Triangle) (value : Vertex → ℕ) (x y : ℤ) → weighed t value (centre (x +ℤ pos 1) y) ≡ weighed t value (centre x y) +ℤ slope_by (edges_of t) t value
weighed_next t value x y =
    let bc = edge (corner t.b) (corner t.c) in
    let ca = edge (corner t.c) (corner t.a) in
    let ab = edge (corner t.a) (corner t.b) in
    let e = edges_of t in
    let a = pos (value t.a) in
    let b = pos (value t.b) in
    let c = pos (value t.c) in
    let next = centre (x +ℤ pos 1) y in
    let here = centre x y in
    three_less (bc next *ℤ a) (ca next *ℤ b) (ab next *ℤ c) (bc here *ℤ a) (ca here *ℤ b) (ab here *ℤ c) (e.bc.column *ℤ a) (e.ca.column *ℤ b) (e.ab.column *ℤ c)
    (by_value (bc next) (bc here) e.bc.column a (edge_next (corner t.b) (corner t.c) x y))
    (by_value (ca next) (ca here) e.ca.column b (edge_next (corner t.c) (corner t.a) x y))
    (by_value (ab next) (ab here) e.ab.column c (edge_next (corner t.a) (corner t.b) x y))

-- ---- quotients and remainders that are added
added : (q dq : ℤ) (a r dr : ℕ) → ((q +ℤ dq) *ℤ pos a) +ℤ pos (r + dr) ≡ ((q *ℤ pos a) +ℤ pos r) +ℤ ((dq *ℤ pos a) +ℤ pos dr)
added q dq a r dr = omega (arith, ints, plus_mul q dq (pos a))

carried : (q dq : ℤ) (a r dr : ℕ) → a ≤ r + dr → (((q +ℤ dq) +ℤ pos 1) *ℤ pos a) +ℤ pos (r + dr - a) ≡ ((q *ℤ pos a) +ℤ pos r) +ℤ ((dq *ℤ pos a) +ℤ pos dr)
carried q dq a r dr h = omega (arith, ints, plus_mul q dq (pos a), plus_mul (q +ℤ dq) (pos 1) (pos a))

both : (s d x y : ℤ) → s ≡ x → d ≡ y → s +ℤ d ≡ x +ℤ y
both s d x y p q = ap (λ z. z +ℤ d) p ∙ ap (λ z. x +ℤ z) q

pub sum_added : (t : Triangle) (value : Vertex → ℕ) (x y q dq : ℤ) (a r dr : ℕ) → (q *ℤ pos a) +ℤ pos r ≡ weighed (turned t) value (centre x y) → (dq *ℤ pos a) +ℤ pos dr ≡ slope_of t value → ((q +ℤ dq) *ℤ pos a) +ℤ pos (r + dr) ≡ weighed (turned t) value (centre (x +ℤ pos 1) y)
sum_added t value x y q dq a r dr sum slope = added q dq a r dr ∙ both _ _ _ _ sum slope ∙ sym (weighed_next (turned t) value x y)

pub sum_carried : (t : Triangle) (value : Vertex → ℕ) (x y q dq : ℤ) (a r dr : ℕ) → a ≤ r + dr → (q *ℤ pos a) +ℤ pos r ≡ weighed (turned t) value (centre x y) → (dq *ℤ pos a) +ℤ pos dr ≡ slope_of t value → (((q +ℤ dq) +ℤ pos 1) *ℤ pos a) +ℤ pos (r + dr - a) ≡ weighed (turned t) value (centre (x +ℤ pos 1) y)
sum_carried t value x y q dq a r dr reached sum slope = carried q dq a r dr reached ∙ both _ _ _ _ sum slope ∙ sym (weighed_next (turned t) value x y)

-- ---- the one quotient
quotient_by : (q w : ℤ) (a r : ℕ) → r < a → (q *ℤ pos a) +ℤ pos r ≡ w → pos 0 ≤ℤ w → q ≡ pos (unsigned_abs w / a)
quotient_by (pos n) w a r below is above =
    let whole : unsigned_abs w ≡ n * a + r = omega (arith, ints) in
    ap pos (sym (ap (λ k. k / a) whole ∙ div-mul-add n a r below))
quotient_by (negsuc n) w a r below is above = absurd (omega (arith, ints))

-- the quotient of a covered centre's sum is the quantity
pub quotient_is_quantity : (t : Triangle) (value : Vertex → ℕ) (x y q : ℤ) (a r : ℕ) → covers t x y ≡ true → a ≡ unsigned_abs (area t) → r < a → (q *ℤ pos a) +ℤ pos r ≡ weighed (turned t) value (centre x y) → q ≡ pos (quantity t value x y)
quotient_is_quantity t value x y q a r covered size below is =
    quotient_by q _ a r below is (weighed_above t value x y covered) ∙ ap (λ n. pos (unsigned_abs (weighed (turned t) value (centre x y)) / n)) size

-- ---- what a runner keeps
small_quotient : (q : ℤ) (n m : ℕ) → q ≡ pos n → n ≤ m → m ≤ 65535 → (pos 0 ≤ℤ q) × (q ≤ℤ pos 65535)
small_quotient q n m is few small = (omega (arith, ints), omega (arith, ints))

pub stands_at : (r : Inside) → IsRunner r → r.quotient ≡ pos (quantity r.setup.now (value_of r.channel) r.x r.y)
stands_at r is = quotient_is_quantity r.setup.now (value_of r.channel) r.x r.y r.quotient r.area r.remainder is.covered is.area is.remainder is.sum

pub value_bounded : (r : Inside) → IsRunner r → quantity r.setup.now (value_of r.channel) r.x r.y ≤ most r.channel
value_bounded r is = quantity_bounded r.setup.now (value_of r.channel) (most r.channel) r.x r.y is.bounded is.covered

pub quotient_small : (r : Inside) → IsRunner r → (pos 0 ≤ℤ r.quotient) × (r.quotient ≤ℤ pos 65535)
quotient_small r is = small_quotient r.quotient _ (most r.channel) (stands_at r is) (value_bounded r is) (most_is_small r.channel)

pub runner_area : (r : Inside) → IsRunner r → r.area ≤ 8589672450
runner_area r is = subst (λ n. n ≤ 8589672450) (sym is.area) (area_small r.setup.now is.in_range)

pub stepped : (r : Inside) → IsRunner r → covers r.setup.now (r.x +ℤ pos 1) r.y ≡ true → r.remainder + r.remainder_slope < r.area → IsRunner (record r { x = r.x +ℤ pos 1; quotient = r.quotient +ℤ r.quotient_slope; remainder = r.remainder + r.remainder_slope })
stepped r is covered below = record {
  in_range = is.in_range;
  bounded = is.bounded;
  covered = covered;
  area = is.area;
  remainder = below;
  remainder_slope = is.remainder_slope;
  quotient_slope = is.quotient_slope;
  sum = sum_added r.setup.now (value_of r.channel) r.x r.y r.quotient r.quotient_slope r.area r.remainder r.remainder_slope is.sum is.slope;
  slope = is.slope;
}

less_area : (a r dr : ℕ) → r < a → dr < a → a ≤ r + dr → r + dr - a < a
less_area a r dr h k reached = omega arith

pub stepped_on : (r : Inside) → IsRunner r → covers r.setup.now (r.x +ℤ pos 1) r.y ≡ true → r.area ≤ r.remainder + r.remainder_slope → IsRunner (record r { x = r.x +ℤ pos 1; quotient = (r.quotient +ℤ r.quotient_slope) +ℤ pos 1; remainder = r.remainder + r.remainder_slope - r.area })
stepped_on r is covered reached = record {
  in_range = is.in_range;
  bounded = is.bounded;
  covered = covered;
  area = is.area;
  remainder = less_area r.area r.remainder r.remainder_slope is.remainder is.remainder_slope reached;
  remainder_slope = is.remainder_slope;
  quotient_slope = is.quotient_slope;
  sum = sum_carried r.setup.now (value_of r.channel) r.x r.y r.quotient r.quotient_slope r.area r.remainder r.remainder_slope reached is.sum is.slope;
  slope = is.slope;
}

-- a sum's quotient and remainder
parts_of : (s a : ℕ) → 0 < a → (pos (s / a) *ℤ pos a) +ℤ pos (s % a) ≡ pos s
parts_of s a some = omega (arith, ints)

remainder_below : (s a : ℕ) → 0 < a → s % a < a
remainder_below s a some = omega arith

pub placed_sum : (s a : ℕ) (q w : ℤ) → 0 < a → q ≡ pos (s / a) → pos s ≡ w → (q *ℤ pos a) +ℤ pos (s % a) ≡ w
placed_sum s a q w some is sum = ap (λ z. (z *ℤ pos a) +ℤ pos (s % a)) is ∙ parts_of s a some ∙ sum

some_area : (r a : ℕ) → r < a → 0 < a
some_area r a h = omega arith

pub placed : (r : Inside) (x y q : ℤ) (s : ℕ) → IsRunner r → covers r.setup.now x y ≡ true → pos s ≡ weighed (turned r.setup.now) (value_of r.channel) (centre x y) → q ≡ pos (s / r.area) → IsRunner (record r { x = x; y = y; quotient = q; remainder = s % r.area })
placed r x y q s is covered sum q_is =
    let some = some_area r.remainder r.area is.remainder in
    record {
      in_range = is.in_range;
      bounded = is.bounded;
      covered = covered;
      area = is.area;
      remainder = remainder_below s r.area some;
      remainder_slope = is.remainder_slope;
      quotient_slope = is.quotient_slope;
      sum = placed_sum s r.area q _ some q_is sum;
      slope = is.slope;
    }

-- such a quotient is small
pub placed_small : (t : Triangle) (channel : Channel) (x y : ℤ) (s a : ℕ) → covers t x y ≡ true → IsBounded (turned t) (value_of channel) (most channel) → pos s ≡ weighed (turned t) (value_of channel) (centre x y) → a ≡ unsigned_abs (area t) → s / a ≤ 65535
placed_small t channel x y s a covered bounded sum size =
    let is : s / a ≡ quantity t (value_of channel) x y = ap (λ w. unsigned_abs w / a) sum ∙ ap (λ n. unsigned_abs (weighed (turned t) (value_of channel) (centre x y)) / n) size in
    small_number _ _ _ is (quantity_bounded t (value_of channel) (most channel) x y bounded covered) (most_is_small channel) where
      small_number : (q n m : ℕ) → q ≡ n → n ≤ m → m ≤ 65535 → q ≤ 65535
      small_number q n m e h k = omega arith

-- the slope's quotient and remainder
slope_parts : (s : ℤ) (a : ℕ) → 0 < a → (int_div_euclid s (pos a) *ℤ pos a) +ℤ pos (unsigned_abs (int_rem_euclid s (pos a))) ≡ s
slope_parts (pos s) a some = omega (arith, ints)
slope_parts (negsuc s) a some = omega (arith, ints)

pub slope_remainder : (s : ℤ) (a : ℕ) → 0 < a → unsigned_abs (int_rem_euclid s (pos a)) < a
slope_remainder (pos s) a some = omega (arith, ints)
slope_remainder (negsuc s) a some = omega (arith, ints)

pub slope_quotient : (s : ℤ) (a : ℕ) → 0 < a → IsWithin 108086391056891904 s → IsWithin 108086391056891905 (int_div_euclid s (pos a))
slope_quotient (pos s) a some small = (omega (arith, ints), omega (arith, ints, div-le_self s a))
slope_quotient (negsuc s) a some small = (omega (arith, ints, div-le_self s a), omega (arith, ints))

pub begins : (r : Inside) (s : ℕ) (d : ℤ) → TriangleInRange r.setup.now → IsBounded (turned r.setup.now) (value_of r.channel) (most r.channel) → covers r.setup.now r.x r.y ≡ true → r.area ≡ unsigned_abs (area r.setup.now) → 0 < r.area → pos s ≡ weighed (turned r.setup.now) (value_of r.channel) (centre r.x r.y) → d ≡ slope_of r.setup.now (value_of r.channel) → IsWithin 108086391056891904 d → r.quotient ≡ pos (s / r.area) → r.remainder ≡ s % r.area → r.quotient_slope ≡ int_div_euclid d (pos r.area) → r.remainder_slope ≡ unsigned_abs (int_rem_euclid d (pos r.area)) → IsRunner r
begins r s d in_range bounded covered size some sum slope small q_is r_is dq_is dr_is = record {
  in_range = in_range;
  bounded = bounded;
  covered = covered;
  area = size;
  remainder = rw r_is (remainder_below s r.area some);
  remainder_slope = rw dr_is (slope_remainder d r.area some);
  quotient_slope = rw dq_is (slope_quotient d r.area some small);
  sum = rw r_is (placed_sum s r.area r.quotient _ some q_is sum);
  slope = rw (dq_is, dr_is) (slope_parts d r.area some ∙ slope);
}
