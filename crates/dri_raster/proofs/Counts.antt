-- How many points of a rectangle are covered.
use Rattle.std.proofs.Common.{◌≡◌, ℕ, zero, suc, ◌+◌, ◌≤◌, Bool, true, false, ◌&&◌, cond, ℤ, pos, ◌+ℤ◌, ◌-ℤ◌, ◌≤ℤ◌, ◌<ℤ◌, int_le, int_lt, unsigned_abs, List, ◌∷◌, length, length-append, ap, refl, sym, ◌∙◌, subst, arith}
use Rattle.std.specs.List.{filter}
use Rattle.std.proofs.lemmas.Int.{ints, by_lt_z}
use Rattle.std.proofs.lemmas.List.Elements.{filter-append}
use Rattle.dri_base.specs.declared.shape.Point.{Point}
use Rattle.dri_base.specs.declared.shape.Rect.{Rect}
use Rattle.dri_base.specs.declared.shape.Triangle.{Triangle}
use Rattle.dri_base.specs.Coverage.{covers}
use Rattle.dri_raster.specs.declared.span.Span.{Span}
use Rattle.dri_raster.specs.Spans.{IsSpan, in_span}
use Rattle.dri_raster.specs.Walks.{covered_points, extent, row, rows}
use Rattle.dri_raster.proofs.Rows.{and_true, ends_within, extent_is, extent_none, filter_row, first_row, inside_columns}
use Rattle.dri_raster.proofs.Spans.{rows_hold}

-- ---- the span of a row
length-row : (x y : ℤ) (n : ℕ) → length (row x y n) ≡ n
length-row x y zero = refl
length-row x y (suc n) = ap suc (length-row (x +ℤ pos 1) y n)

second_of_and : (a b : Bool) → (a && b) ≡ true → b ≡ true
second_of_and true b h = h
second_of_and false b h = cc

first_of_and : (a b : Bool) → (a && b) ≡ true → a ≡ true
first_of_and true b h = refl
first_of_and false b h = cc

column_in : (s : Span) → s.x1 <ℤ s.x2 → in_span s s.x1 ≡ true
column_in s some = grind (arith, ints)

-- what is covered of a row between the rectangle's columns is its span
pub span_is_row : (t : Triangle) (r : Rect) (y : ℤ) (s : Span) → IsSpan t r y s → filter (λ p. covers t p.x p.y) (row r.x1 y (extent r.x1 r.x2)) ≡ row s.x1 y (extent s.x1 s.x2)
span_is_row t r y s is =
    filter_row (λ p. covers t p.x p.y) y r.x1 (extent r.x1 r.x2) s (λ x from until. and_true (in_span columns x) (covers t x y) (in_span s x) (in_row x) (inside_columns columns x from until)) (ends_within columns s (λ x. covers t x y) in_row)
  where
    columns : Span
    columns = record { x1 = r.x1; x2 = r.x2 }

    here : (int_le r.y1 y && int_lt y r.y2) ≡ true
    here = second_of_and (int_le r.x1 s.x1 && int_lt s.x1 r.x2) (int_le r.y1 y && int_lt y r.y2) (first_of_and _ (covers t s.x1 y) (is.columns s.x1 ∙ column_in s is.some))

    in_row : (x : ℤ) → in_span s x ≡ (in_span columns x && covers t x y)
    in_row x = sym (is.columns x) ∙ rows_hold (int_le r.x1 x && int_lt x r.x2) (int_le r.y1 y && int_lt y r.y2) (covers t x y) here

-- and it has as many points
pub span_counts : (t : Triangle) (r : Rect) (y : ℤ) (s : Span) → IsSpan t r y s → length (filter (λ p. covers t p.x p.y) (row r.x1 y (extent r.x1 r.x2))) ≡ extent s.x1 s.x2
span_counts t r y s is = ap length (span_is_row t r y s is) ∙ length-row s.x1 y (extent s.x1 s.x2)

-- ---- a row after another
pub row_counts : (f : Point → Bool) (x1 : ℤ) (w : ℕ) (y b : ℤ) → y <ℤ b
    → length (filter f (rows x1 w y (extent y b))) ≡ length (filter f (row x1 y w)) + length (filter f (rows x1 w (y +ℤ pos 1) (extent (y +ℤ pos 1) b)))
row_counts f x1 w y b some = ap length (first_row f x1 w y b some) ∙ length-append (filter f (row x1 y w)) (filter f (rows x1 w (y +ℤ pos 1) (extent (y +ℤ pos 1) b)))

-- ---- a rectangle within another has no more
kept_more : (f : Point → Bool) (p : Point) (ps qs : List Point) → length (filter f ps) ≤ length (filter f qs) → length (filter f (p ∷ ps)) ≤ length (filter f (p ∷ qs))
kept_more f p ps qs le = by (f p) where
  by : (b : Bool) → length (cond b (p ∷ filter f ps) (filter f ps)) ≤ length (cond b (p ∷ filter f qs) (filter f qs))
  by true = omega (arith, le)
  by false = le

one_more : (f : Point → Bool) (p : Point) (ps : List Point) → length (filter f ps) ≤ length (filter f (p ∷ ps))
one_more f p ps = by (f p) where
  by : (b : Bool) → length (filter f ps) ≤ length (cond b (p ∷ filter f ps) (filter f ps))
  by true = omega arith
  by false = omega arith

wider : (f : Point → Bool) (x y : ℤ) (n m : ℕ) → n ≤ m → length (filter f (row x y n)) ≤ length (filter f (row x y m))
wider f x y zero m le = omega arith
wider f x y (suc n) zero le = absurd (omega arith)
wider f x y (suc n) (suc m) le = kept_more f _ (row (x +ℤ pos 1) y n) (row (x +ℤ pos 1) y m) (wider f (x +ℤ pos 1) y n m (omega arith))

-- a row that begins k columns later
later : (f : Point → Bool) (y z : ℤ) (n m : ℕ) (k : ℕ) (x : ℤ) → z ≡ x +ℤ pos k → n + k ≤ m → length (filter f (row z y n)) ≤ length (filter f (row x y m))
later f y z n m zero x at le =
    let same : z ≡ x = omega (arith, ints, at) in
    subst (λ u. length (filter f (row u y n)) ≤ length (filter f (row x y m))) (sym same) (wider f x y n m (omega arith))
later f y z n zero (suc k) x at le = absurd (omega arith)
later f y z n (suc m) (suc k) x at le =
    let next = later f y z n m k (x +ℤ pos 1) (omega (arith, ints, at)) (omega arith) in
    let more = one_more f (record { x = x; y = y }) (row (x +ℤ pos 1) y m) in
    omega (arith, next, more)

-- how many columns or rows there are, and how many later they begin
shifted : (a b c d : ℤ) → a ≤ℤ c → d ≤ℤ b → c <ℤ d → (c ≡ a +ℤ pos (unsigned_abs (c -ℤ a))) × (extent c d + unsigned_abs (c -ℤ a) ≤ extent a b)
shifted a b c d from to some =
    let inner = extent_is (d -ℤ c) in
    let outer = extent_is (b -ℤ a) in
    (omega (arith, ints), omega (arith, ints))

fewer_columns : (f : Point → Bool) (y a b c d : ℤ) → a ≤ℤ c → d ≤ℤ b → length (filter f (row c y (extent c d))) ≤ length (filter f (row a y (extent a b)))
fewer_columns f y a b c d from to =
    by_lt_z c d
    (λ some. let s = shifted a b c d from to some in later f y c (extent c d) (extent a b) (unsigned_abs (c -ℤ a)) a s.0 s.1)
    (λ none. subst (λ n. length (filter f (row c y n)) ≤ length (filter f (row a y (extent a b)))) (sym (extent_none c d none)) (omega arith))

row_first : (f : Point → Bool) (x : ℤ) (w : ℕ) (y : ℤ) (n : ℕ) → length (filter f (rows x w y (suc n))) ≡ length (filter f (row x y w)) + length (filter f (rows x w (y +ℤ pos 1) n))
row_first f x w y n = ap length (filter-append f (row x y w) (rows x w (y +ℤ pos 1) n)) ∙ length-append (filter f (row x y w)) (filter f (rows x w (y +ℤ pos 1) n))

-- rows each of which has no more
narrower : (f : Point → Bool) (x z : ℤ) (w v : ℕ) → ((y : ℤ) → length (filter f (row z y v)) ≤ length (filter f (row x y w))) → (n m : ℕ) (y : ℤ) → n ≤ m → length (filter f (rows z v y n)) ≤ length (filter f (rows x w y m))
narrower f x z w v each zero m y le = omega arith
narrower f x z w v each (suc n) zero y le = absurd (omega arith)
narrower f x z w v each (suc n) (suc m) y le =
    let here = each y in
    let next = narrower f x z w v each n m (y +ℤ pos 1) (omega arith) in
    let inner = row_first f z v y n in
    let outer = row_first f x w y m in
    omega (arith, here, next, inner, outer)

lower : (f : Point → Bool) (x z : ℤ) (w v : ℕ) → ((y : ℤ) → length (filter f (row z y v)) ≤ length (filter f (row x y w))) → (u : ℤ) (n m : ℕ) (k : ℕ) (y : ℤ) → u ≡ y +ℤ pos k → n + k ≤ m
    → length (filter f (rows z v u n)) ≤ length (filter f (rows x w y m))
lower f x z w v each u n m zero y at le =
    let same : u ≡ y = omega (arith, ints, at) in
    subst (λ t. length (filter f (rows z v t n)) ≤ length (filter f (rows x w y m))) (sym same) (narrower f x z w v each n m y (omega arith))
lower f x z w v each u n zero (suc k) y at le = absurd (omega arith)
lower f x z w v each u n (suc m) (suc k) y at le =
    let next = lower f x z w v each u n m k (y +ℤ pos 1) (omega (arith, ints, at)) (omega arith) in
    let outer = row_first f x w y m in
    omega (arith, next, outer)

fewer_rows : (f : Point → Bool) (x z : ℤ) (w v : ℕ) → ((y : ℤ) → length (filter f (row z y v)) ≤ length (filter f (row x y w))) → (a b c d : ℤ) → a ≤ℤ c → d ≤ℤ b
    → length (filter f (rows z v c (extent c d))) ≤ length (filter f (rows x w a (extent a b)))
fewer_rows f x z w v each a b c d from to =
    by_lt_z c d
    (λ some. let s = shifted a b c d from to some in lower f x z w v each c (extent c d) (extent a b) (unsigned_abs (c -ℤ a)) a s.0 s.1)
    (λ none. subst (λ n. length (filter f (rows z v c n)) ≤ length (filter f (rows x w a (extent a b)))) (sym (extent_none c d none)) (omega arith))

-- of a rectangle within another no more is covered
pub fewer_covered : (t : Triangle) (r s : Rect) → r.x1 ≤ℤ s.x1 → s.x2 ≤ℤ r.x2 → r.y1 ≤ℤ s.y1 → s.y2 ≤ℤ r.y2 → length (covered_points t s) ≤ length (covered_points t r)
fewer_covered t r s left right top bottom =
    fewer_rows (λ p. covers t p.x p.y) r.x1 s.x1 (extent r.x1 r.x2) (extent s.x1 s.x2) (λ y. fewer_columns (λ p. covers t p.x p.y) y r.x1 r.x2 s.x1 s.x2 left right) r.y1 r.y2 s.y1 s.y2 top bottom
