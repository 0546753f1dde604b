-- Runs of columns that are cut on one side.
use Rattle.std.proofs.Common.{◌≡◌, ℕ, ◌<◌, ◌/◌, Bool, true, false, ◌&&◌, ℤ, pos, negsuc, ◌+ℤ◌, ◌-ℤ◌, ◌*ℤ◌, ◌≤ℤ◌, ◌<ℤ◌, neg_ℤ, int_le, int_lt, unsigned_abs, ap, refl, sym, ◌∙◌, arith}
use Rattle.std.proofs.lemmas.Int.{ints, by_lt_z}
use Rattle.std.specs.Int.{int_div_euclid}
use Rattle.dri_raster.specs.declared.edge.Edge.{Edge}
use Rattle.dri_raster.specs.declared.span.Span.{Span}
use Rattle.dri_raster.specs.Edges.{distance, holds}
use Rattle.dri_base.specs.declared.shape.Rect.{Rect}
use Rattle.dri_raster.specs.Spans.{IsCut, in_bounds, in_span}
use Rattle.dri_raster.proofs.Rings.{mul_plus, mul_neg, neg_mul}

pub cut_right : (x1 x2 n r x : ℤ) → IsCut x1 x2 n r → (int_le x1 x && int_lt x r) ≡ ((int_le x1 x && int_lt x x2) && int_lt x n)
cut_right x1 x2 n r x cut =
    by_lt_z x1 n
    (λ (h : x1 <ℤ n). by_lt_z n x2 (λ (k : n <ℤ x2). rw (cut.between h k) (grind (arith, ints))) (λ (k : x2 ≤ℤ n). rw (cut.beyond h k) (grind (arith, ints))))
    (λ (h : n ≤ℤ x1). rw (cut.before h) (grind (arith, ints)))

pub cut_left : (x1 x2 n r x : ℤ) → IsCut x1 x2 n r → (int_le r x && int_lt x x2) ≡ ((int_le x1 x && int_lt x x2) && int_le n x)
cut_left x1 x2 n r x cut =
    by_lt_z x1 n
    (λ (h : x1 <ℤ n). by_lt_z n x2 (λ (k : n <ℤ x2). rw (cut.between h k) (grind (arith, ints))) (λ (k : x2 ≤ℤ n). rw (cut.beyond h k) (grind (arith, ints))))
    (λ (h : n ≤ℤ x1). rw (cut.before h) (grind (arith, ints)))

-- the product with a lesser number is less
lesser : (c n : ℕ) (x q : ℤ) → q ≡ x +ℤ pos n → (pos c *ℤ x) ≤ℤ (pos c *ℤ q)
lesser c n x q e = rw e (omega (arith, ints, mul_plus (pos c) x (pos n)))

-- the quotient that rounds down
pub quotient_bounds : (a : ℤ) (c : ℕ) → 0 < c → ((pos c *ℤ int_div_euclid a (pos c)) ≤ℤ a) × (a <ℤ (pos c *ℤ (int_div_euclid a (pos c) +ℤ pos 1)))
quotient_bounds (pos a) c h = (omega (arith, ints), omega (arith, ints))
quotient_bounds (negsuc a) c h =
    let e : negsuc (a / c) +ℤ pos 1 ≡ neg_ℤ (pos (a / c)) = omega (arith, ints) in
    (omega (arith, ints), omega (arith, ints, mul_neg (pos c) (pos (a / c)), ap (λ z. pos c *ℤ z) e))

pub greatest_with : (a : ℤ) (c : ℕ) (q x : ℤ) → (pos c *ℤ q) ≤ℤ a → a <ℤ (pos c *ℤ (q +ℤ pos 1)) → int_le (pos c *ℤ x) a ≡ int_le x q
greatest_with a c q x low high =
    by_lt_z q x
    (λ (h : q <ℤ x).
    let e : x ≡ (q +ℤ pos 1) +ℤ pos (unsigned_abs (x -ℤ (q +ℤ pos 1))) = omega (arith, ints) in
    let k = lesser c (unsigned_abs (x -ℤ (q +ℤ pos 1))) (q +ℤ pos 1) x e in
    grind (arith, ints))
    (λ (h : x ≤ℤ q).
    let e : q ≡ x +ℤ pos (unsigned_abs (q -ℤ x)) = omega (arith, ints) in
    let k = lesser c (unsigned_abs (q -ℤ x)) x q e in
    grind (arith, ints))

pub greatest : (a d x : ℤ) → pos 0 <ℤ d → int_le (d *ℤ x) a ≡ int_le x (int_div_euclid a d)
greatest a (pos c) x h =
    let b = quotient_bounds a c (omega (arith, ints)) in
    greatest_with a c (int_div_euclid a (pos c)) x b.0 b.1
greatest a (negsuc c) x h = absurd (omega (arith, ints))

linear_test : (least o ry cz cx slack : ℤ) → cz ≡ pos 0 → slack ≡ (o +ℤ (ry -ℤ cz)) -ℤ least → int_le least (o +ℤ (ry -ℤ cx)) ≡ int_le cx slack
linear_test least o ry cz cx slack none is = grind (arith, ints)

times_zero : (a : ℤ) → a *ℤ pos 0 ≡ pos 0
times_zero a = omega (arith, ints)

-- an edge holds where the column's part is at most what the row leaves
pub holds_is : (e : Edge) (x y slack : ℤ) → slack ≡ distance e (pos 0) y -ℤ e.least → holds e x y ≡ int_le (e.column *ℤ x) slack
holds_is e x y slack is =
    linear_test e.least e.origin (e.row *ℤ y) (e.column *ℤ pos 0) (e.column *ℤ x) slack (times_zero e.column) is

less_than_next : (x q : ℤ) → int_lt x (q +ℤ pos 1) ≡ int_le x q
less_than_next x q = grind (arith, ints)

turned_round : (x q : ℤ) → int_le (neg_ℤ x) q ≡ int_le (neg_ℤ q) x
turned_round x q = grind (arith, ints)

two_signs : (a x : ℤ) → neg_ℤ a *ℤ neg_ℤ x ≡ a *ℤ x
two_signs a x = omega (arith, ints, neg_mul a (neg_ℤ x), mul_neg a x)

pub falling : (e : Edge) (s : Span) (r x y slack q : ℤ) → slack ≡ distance e (pos 0) y -ℤ e.least → int_le (e.column *ℤ x) slack ≡ int_le x q → IsCut s.x1 s.x2 (q +ℤ pos 1) r → in_span (record { x1 = s.x1; x2 = r }) x ≡ (in_span s x && holds e x y)
falling e s r x y slack q is greatest_is cut =
    cut_right s.x1 s.x2 (q +ℤ pos 1) r x cut ∙ ap (λ b. in_span s x && b) (less_than_next x q ∙ sym greatest_is ∙ sym (holds_is e x y slack is))

pub rising : (e : Edge) (s : Span) (r x y slack q : ℤ) → slack ≡ distance e (pos 0) y -ℤ e.least → int_le (neg_ℤ e.column *ℤ neg_ℤ x) slack ≡ int_le (neg_ℤ x) q → IsCut s.x1 s.x2 (neg_ℤ q) r → in_span (record { x1 = r; x2 = s.x2 }) x ≡ (in_span s x && holds e x y)
rising e s r x y slack q is greatest_is cut =
    cut_left s.x1 s.x2 (neg_ℤ q) r x cut
    ∙ ap (λ b. in_span s x && b) (sym (turned_round x q) ∙ sym greatest_is ∙ ap (λ p. int_le p slack) (two_signs e.column x) ∙ sym (holds_is e x y slack is))

none_test : (cx slack : ℤ) → cx ≡ pos 0 → slack <ℤ pos 0 → int_le cx slack ≡ false
none_test cx slack zero less = grind (arith, ints)

all_test : (cx slack : ℤ) → cx ≡ pos 0 → pos 0 ≤ℤ slack → int_le cx slack ≡ true
all_test cx slack zero more = grind (arith, ints)

zero_times : (a x : ℤ) → a ≡ pos 0 → a *ℤ x ≡ pos 0
zero_times a x e = rw e (omega (arith, ints))

none_in : (x1 x : ℤ) (b : Bool) → (int_le x1 x && int_lt x x1) ≡ (b && false)
none_in x1 x true = grind (arith, ints)
none_in x1 x false = grind (arith, ints)

all_in : (b : Bool) → b ≡ (b && true)
all_in true = refl
all_in false = refl

pub level_none : (e : Edge) (s : Span) (x y slack : ℤ) → slack ≡ distance e (pos 0) y -ℤ e.least → e.column ≡ pos 0 → slack <ℤ pos 0 → in_span (record { x1 = s.x1; x2 = s.x1 }) x ≡ (in_span s x && holds e x y)
level_none e s x y slack is zero less =
    none_in s.x1 x (in_span s x) ∙ sym (ap (λ b. in_span s x && b) (holds_is e x y slack is ∙ none_test _ slack (zero_times e.column x zero) less))

pub level_all : (e : Edge) (s : Span) (x y slack : ℤ) → slack ≡ distance e (pos 0) y -ℤ e.least → e.column ≡ pos 0 → pos 0 ≤ℤ slack → in_span s x ≡ (in_span s x && holds e x y)
level_all e s x y slack is zero more =
    all_in (in_span s x) ∙ sym (ap (λ b. in_span s x && b) (holds_is e x y slack is ∙ all_test _ slack (zero_times e.column x zero) more))

-- outside the rectangle's rows nothing is covered
rows_fail : (p q b : Bool) → q ≡ false → ((p && q) && b) ≡ false
rows_fail true q b h = ap (λ k. k && b) h
rows_fail false q b h = refl

pub beyond_rows : (r : Rect) (x y : ℤ) (b : Bool) → (int_le r.y1 y && int_lt y r.y2) ≡ false → (in_bounds r x y && b) ≡ false
beyond_rows r x y b out = rows_fail (int_le r.x1 x && int_lt x r.x2) (int_le r.y1 y && int_lt y r.y2) b out

pub rows_hold : (p q b : Bool) → q ≡ true → ((p && q) && b) ≡ (p && b)
rows_hold true q b h = ap (λ k. k && b) h
rows_hold false q b h = refl

-- within them it is what the span has
pub within_rows : (r : Rect) (s : Span) (x y : ℤ) (b : Bool) → (int_le r.y1 y && int_lt y r.y2) ≡ true → in_span s x ≡ (in_span (record { x1 = r.x1; x2 = r.x2 }) x && b) → (in_bounds r x y && b) ≡ in_span s x
within_rows r s x y b held is = rows_hold (int_le r.x1 x && int_lt x r.x2) (int_le r.y1 y && int_lt y r.y2) b held ∙ sym is

pub empty_span : (s : Span) (x : ℤ) → s.x2 ≤ℤ s.x1 → in_span s x ≡ false
empty_span s x h = grind (arith, ints)
