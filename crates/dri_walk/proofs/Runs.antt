-- The run of a row that a triangle covers.
use Rattle.std.proofs.Common.{◌≡◌, ℕ, ◌≤◌, ◌<◌, Bool, true, false, ◌&&◌, ◌==◌, nat_le, nat_lt, if◌then◌else◌, ℤ, pos, w32, to_z, of_z, FitsSigned, ◌+ℤ◌, ◌-ℤ◌, ◌≤ℤ◌, ◌<ℤ◌, int_le, int_lt, refl, sym, ap, ◌∙◌, subst, arith}
use Rattle.std.proofs.lemmas.Int.{ints, by_lt_z, to_z-of_z}
use Rattle.std.proofs.lemmas.Bool.{eqb-true}
use Rattle.std.proofs.lemmas.Bool.Decides.{nat_tests}
use Rattle.dri_base.specs.declared.colour.Pixel.{Pixel}
use Rattle.dri_base.specs.declared.colour.Rgba.{Rgba}
use Rattle.dri_base.specs.declared.shape.ClipRect.{ClipRect}
use Rattle.dri_base.specs.declared.shape.Point.{Point}
use Rattle.dri_base.specs.declared.shape.Rect.{Rect}
use Rattle.dri_base.specs.declared.shape.Triangle.{Triangle}
use Rattle.dri_base.specs.declared.state.Blend.{Blend}
use Rattle.dri_base.specs.Coverage.{covers}
use Rattle.dri_base.specs.Ranges.{IsPlace}
use Rattle.dri_raster.specs.declared.span.Span.{Span}
use Rattle.dri_raster.specs.Edges.{IsPixel}
use Rattle.dri_raster.specs.Walks.{IsNear}
use Rattle.dri_raster.specs.Spans.{CoversNone, IsSpan, in_span, is_covered_in}
use Rattle.dri_plane.specs.Grids.{IsInside}
use Rattle.dri_walk.specs.declared.drawing.Drawing.{Drawing}
use Rattle.dri_walk.specs.Clips.{in_window}
use Rattle.dri_walk.specs.Drawings.{painted, pair_by}
use Rattle.dri_walk.specs.Surfaces.{drawn_at, in_row, left_by, run_painted}
use Rattle.dri_base.proofs.Shifts.{le_moved, lt_moved}
use Rattle.dri_walk.proofs.Ready.{place_plain}

and_first : (a b : Bool) → (a && b) ≡ true → a ≡ true
and_first true b h = refl
and_first false b h = cc

and_second : (a b : Bool) → (a && b) ≡ true → b ≡ true
and_second true b h = h
and_second false b h = cc

and_true : (a : Bool) → (a && true) ≡ a
and_true true = refl
and_true false = refl

-- a number less the origin, and one that isn't
le_shifted : (a b o : ℤ) → int_le (a -ℤ o) (b -ℤ o) ≡ int_le a b
le_shifted a b o = by_lt_z b a (λ h. no (a -ℤ o) (b -ℤ o) (omega (arith, ints)) ∙ sym (no a b h)) (λ h. yes (a -ℤ o) (b -ℤ o) (omega (arith, ints)) ∙ sym (yes a b h)) where
  no : (u v : ℤ) → v <ℤ u → int_le u v ≡ false
  no u v h = grind (arith, ints)

  yes : (u v : ℤ) → u ≤ℤ v → int_le u v ≡ true
  yes u v h = grind (arith, ints)

lt_shifted : (a b o : ℤ) → int_lt (a -ℤ o) (b -ℤ o) ≡ int_lt a b
lt_shifted a b o = by_lt_z a b (λ h. yes (a -ℤ o) (b -ℤ o) (omega (arith, ints)) ∙ sym (yes a b h)) (λ h. no (a -ℤ o) (b -ℤ o) (omega (arith, ints)) ∙ sym (no a b h)) where
  yes : (u v : ℤ) → u <ℤ v → int_lt u v ≡ true
  yes u v h = grind (arith, ints)

  no : (u v : ℤ) → v ≤ℤ u → int_lt u v ≡ false
  no u v h = grind (arith, ints)

le_nat : (m n : ℕ) → int_le (pos m) (pos n) ≡ nat_le m n
le_nat m n = refl

lt_nat : (m n : ℕ) → int_lt (pos m) (pos n) ≡ nat_lt m n
lt_nat m n = refl

-- what is covered of a row, between the columns of a rectangle
row_covered : (t : Triangle) (r : ClipRect) (o : Point) (a y : ℕ) → r.y1 ≤ y → y < r.y2
    → is_covered_in t (in_window r o) (pos a -ℤ o.x) (pos y -ℤ o.y) ≡ ((nat_le r.x1 a && nat_lt a r.x2) && covers t (pos a -ℤ o.x) (pos y -ℤ o.y))
row_covered t r o a y from until =
    let up : nat_le r.y1 y ≡ true = grind (arith, nat_tests, from) in
    let low : nat_lt y r.y2 ≡ true = grind (arith, nat_tests, until) in
    (λ i. ((le_shifted (pos r.x1) (pos a) o.x i && lt_shifted (pos a) (pos r.x2) o.x i) && (le_shifted (pos r.y1) (pos y) o.y i && lt_shifted (pos y) (pos r.y2) o.y i)) && covers t (pos a -ℤ o.x) (pos y -ℤ o.y))
    ∙ (λ i. ((le_nat r.x1 a i && lt_nat a r.x2 i) && ((le_nat r.y1 y ∙ up) i && (lt_nat y r.y2 ∙ low) i)) && covers t (pos a -ℤ o.x) (pos y -ℤ o.y))
    ∙ (λ i. and_true (nat_le r.x1 a && nat_lt a r.x2) i && covers t (pos a -ℤ o.x) (pos y -ℤ o.y))

-- the columns of a span, on the screen
run_columns : (s : Span) (o : ℤ) (left right a : ℕ) → pos left ≡ s.x1 +ℤ o → pos right ≡ s.x2 +ℤ o → in_span s (pos a -ℤ o) ≡ (nat_le left a && nat_lt a right)
run_columns s o left right a from until =
    λ i. (sym (le_moved s.x1 (pos a) o) ∙ sym (ap (λ n. int_le n (pos a)) from) ∙ le_nat left a) i && (sym (lt_moved s.x2 (pos a) o) ∙ sym (ap (λ n. int_lt (pos a) n) until) ∙ lt_nat a right) i

-- a span lies between the rectangle's columns
pub span_ends : (t : Triangle) (r : Rect) (y : ℤ) (s : Span) → IsSpan t r y s → (r.x1 ≤ℤ s.x1) × (s.x2 ≤ℤ r.x2)
span_ends t r y s is =
    let first : int_le r.x1 s.x1 ≡ true = and_first _ _ (and_first _ _ (and_first _ _ (is.columns s.x1 ∙ starts))) in
    let last : int_lt (s.x2 -ℤ pos 1) r.x2 ≡ true = and_second _ _ (and_first _ _ (and_first _ _ (is.columns (s.x2 -ℤ pos 1) ∙ ends))) in
    (grind (arith, ints, first), lower (s.x2) r.x2 last)
  where
    some : s.x1 <ℤ s.x2
    some = is.some

    inside : (x : ℤ) → s.x1 ≤ℤ x → x <ℤ s.x2 → in_span s x ≡ true
    inside x from until = grind (arith, ints)

    starts : in_span s s.x1 ≡ true
    starts = inside s.x1 (omega (arith, ints)) some

    ends : in_span s (s.x2 -ℤ pos 1) ≡ true
    ends = inside (s.x2 -ℤ pos 1) (omega (arith, ints, some)) (omega (arith, ints))

    lower : (u v : ℤ) → int_lt (u -ℤ pos 1) v ≡ true → u ≤ℤ v
    lower u v h = grind (arith, ints)

-- a rectangle of the screen in the window's coordinates is near
pub near_window : (r : ClipRect) (o : Point) → IsInside r 1024 1024 → IsPlace o.x → IsPlace o.y → IsNear (in_window r o)
near_window r o inside px py = record {
  x1 = near r.x1 o.x (omega (arith, inside.columns, inside.right)) px;
  y1 = near r.y1 o.y (omega (arith, inside.rows, inside.bottom)) py;
  x2 = near r.x2 o.x inside.right px;
  y2 = near r.y2 o.y inside.bottom py;
} where
  near : (k : ℕ) (n : ℤ) → k ≤ 1024 → IsPlace n → IsPixel (pos k -ℤ n)
  near k n small place = (omega (arith, ints, small, place.1), omega (arith, ints, small, place.0))

-- a span of a row, in the rectangle and the row by other names
pub span_here : (t : Triangle) (area area' : Rect) (row row' : ℤ) (s : Span) → area ≡ area' → row ≡ row' → IsSpan t area row s → IsSpan t area' row' s
span_here t area area' row row' s ea er is = subst (λ z. IsSpan t area' z s) er (subst (λ r. IsSpan t r row s) ea is)

pub none_here : (t : Triangle) (area area' : Rect) (row row' : ℤ) → area ≡ area' → row ≡ row' → CoversNone t area row → CoversNone t area' row'
none_here t area area' row row' ea er none = subst (λ z. CoversNone t area' z) er (subst (λ r. CoversNone t r row) ea none)

-- a span on the screen
pub record IsRun (r : ClipRect) (s : Span) (left : ℤ) : Type 0 where
  pub x1_plain : to_z w32 (of_z w32 s.x1) ≡ s.x1
  pub x2_plain : to_z w32 (of_z w32 s.x2) ≡ s.x2
  pub left_plain : to_z w32 (of_z w32 left) ≡ left
  pub low : pos 0 ≤ℤ (s.x1 +ℤ left)
  pub some : s.x1 <ℤ s.x2
  pub high : (s.x2 +ℤ left) ≤ℤ pos r.x2

pub is_run : (t : Triangle) (r : ClipRect) (o : Point) (row : ℤ) (s : Span) → IsPlace o.x → r.x2 ≤ 1024 → IsSpan t (in_window r o) row s → IsRun r s o.x
is_run t r o row s place small is = record {
  x1_plain = to_z-of_z w32 s.x1 (fits s.x1 (omega (arith, ints, ends.0, place.1)) (omega (arith, ints, ends.1, some, place.0, small)));
  x2_plain = to_z-of_z w32 s.x2 (fits s.x2 (omega (arith, ints, ends.0, some, place.1)) (omega (arith, ints, ends.1, place.0, small)));
  left_plain = place_plain o.x place;
  low = omega (arith, ints, ends.0);
  some = some;
  high = omega (arith, ints, ends.1);
} where
  ends : ((pos r.x1 -ℤ o.x) ≤ℤ s.x1) × (s.x2 ≤ℤ (pos r.x2 -ℤ o.x))
  ends = span_ends t (in_window r o) row s is

  some : s.x1 <ℤ s.x2
  some = is.some

  fits : (n : ℤ) → (pos 0 -ℤ pos 2048) ≤ℤ n → n ≤ℤ pos 4096 → FitsSigned w32 n
  fits n low high = omega (arith, ints)

-- the triangle covers the columns of its run
pub run_covered : (t : Triangle) (r : ClipRect) (o : Point) (y : ℕ) (row : ℤ) (s : Span) (left right : ℕ) → IsSpan t (in_window r o) row s → pos left ≡ s.x1 +ℤ o.x → pos right ≡ s.x2 +ℤ o.x
    → (a : ℕ) → left ≤ a → a < right → covers t (pos a -ℤ o.x) row ≡ true
run_covered t r o y row s left right is from until a after before =
    let up : nat_le left a ≡ true = grind (arith, nat_tests, after) in
    let low : nat_lt a right ≡ true = grind (arith, nat_tests, before) in
    and_second _ _ (is.columns (pos a -ℤ o.x) ∙ run_columns s o.x left right a from until ∙ (λ i. up i && low i))

-- a row's places that are covered are those of the run
pub run_places : (t : Triangle) (r : ClipRect) (o : Point) (y : ℕ) (row : ℤ) (s : Span) (left right : ℕ) → IsSpan t (in_window r o) row s → row ≡ pos y -ℤ o.y → r.y1 ≤ y → y < r.y2
    → pos left ≡ s.x1 +ℤ o.x → pos right ≡ s.x2 +ℤ o.x
    → (a b : ℕ) → in_row y left right a b ≡ (in_row y r.x1 r.x2 a b && covers t (pos a -ℤ o.x) (pos b -ℤ o.y))
run_places t r o y row s left right is here from until lefts rights a b = by (b == y) (eqb-true b y) where
  at_row : (nat_le left a && nat_lt a right) ≡ ((nat_le r.x1 a && nat_lt a r.x2) && covers t (pos a -ℤ o.x) (pos y -ℤ o.y))
  at_row =
      sym (run_columns s o.x left right a lefts rights)
      ∙ sym (is.columns (pos a -ℤ o.x))
      ∙ ap (λ z. is_covered_in t (in_window r o) (pos a -ℤ o.x) z) here
      ∙ row_covered t r o a y from until

  by : (p : Bool) → (p ≡ true → b ≡ y) → (p && (nat_le left a && nat_lt a right)) ≡ ((p && (nat_le r.x1 a && nat_lt a r.x2)) && covers t (pos a -ℤ o.x) (pos b -ℤ o.y))
  by true same = at_row ∙ ap (λ n. (nat_le r.x1 a && nat_lt a r.x2) && covers t (pos a -ℤ o.x) (pos n -ℤ o.y)) (sym (same refl))
  by false same = refl

-- and where there is no run, there are none
pub no_places : (t : Triangle) (r : ClipRect) (o : Point) (y : ℕ) (row : ℤ) → CoversNone t (in_window r o) row → row ≡ pos y -ℤ o.y → r.y1 ≤ y → y < r.y2
    → (a b : ℕ) → false ≡ (in_row y r.x1 r.x2 a b && covers t (pos a -ℤ o.x) (pos b -ℤ o.y))
no_places t r o y row none here from until a b = by (b == y) (eqb-true b y) where
  at_row : false ≡ ((nat_le r.x1 a && nat_lt a r.x2) && covers t (pos a -ℤ o.x) (pos y -ℤ o.y))
  at_row =
      sym (none (pos a -ℤ o.x))
      ∙ ap (λ z. is_covered_in t (in_window r o) (pos a -ℤ o.x) z) here
      ∙ row_covered t r o a y from until

  by : (p : Bool) → (p ≡ true → b ≡ y) → false ≡ ((p && (nat_le r.x1 a && nat_lt a r.x2)) && covers t (pos a -ℤ o.x) (pos b -ℤ o.y))
  by true same = at_row ∙ ap (λ n. (nat_le r.x1 a && nat_lt a r.x2) && covers t (pos a -ℤ o.x) (pos n -ℤ o.y)) (sym (same refl))
  by false same = refl

-- drawn where covered, or not
drawn_where : (p q k : Bool) (run over under : Pixel) → p ≡ (q && k) → (p ≡ true → run ≡ over) → (if p then run else under) ≡ (if q then (if k then over else under) else under)
drawn_where true true true run over under e same = same refl
drawn_where true true false run over under e same = cc
drawn_where true false k run over under e same = cc
drawn_where false true true run over under e same = cc
drawn_where false true false run over under e same = refl
drawn_where false false k run over under e same = refl

-- a run that is painted is its row that is drawn
pub run_is_row : (kept : Pixel → Pixel) (d : Drawing) (colours : Triangle → ℤ → ℤ → Rgba) (blend : Blend) (o : Point) (r : ClipRect) (y : ℕ) (row : ℤ) (left right : ℕ) → row ≡ pos y -ℤ o.y
    → ((a b : ℕ) → in_row y left right a b ≡ (in_row y r.x1 r.x2 a b && covers d.setup (pos a -ℤ o.x) (pos b -ℤ o.y)))
    → (f : ℕ → ℕ → Pixel) (a b : ℕ)
    → run_painted kept (λ x under. painted d.depth_test d.depth_write colours blend d.setup (pos x -ℤ o.x) row under) y left right f a b ≡ drawn_at (in_row y r.x1 r.x2) o (pair_by kept d colours blend) f a b
run_is_row kept d colours blend o r y row left right here places f a b =
    drawn_where (in_row y left right a b) (in_row y r.x1 r.x2 a b) (covers d.setup (pos a -ℤ o.x) (pos b -ℤ o.y)) (over row) (over (pos b -ℤ o.y)) (f a b) (places a b) (λ inside. ap over (here ∙ ap (λ n. pos n -ℤ o.y) (sym (eqb-true b y (and_first _ _ inside)))))
  where
    over : ℤ → Pixel
    over z = left_by kept (painted d.depth_test d.depth_write colours blend d.setup (pos a -ℤ o.x) z (f a b)) (f a b)

-- a row without a run stays
pub row_stays : (kept : Pixel → Pixel) (d : Drawing) (colours : Triangle → ℤ → ℤ → Rgba) (blend : Blend) (o : Point) (r : ClipRect) (y : ℕ)
    → ((a b : ℕ) → false ≡ (in_row y r.x1 r.x2 a b && covers d.setup (pos a -ℤ o.x) (pos b -ℤ o.y)))
    → (f : ℕ → ℕ → Pixel) (a b : ℕ) → f a b ≡ drawn_at (in_row y r.x1 r.x2) o (pair_by kept d colours blend) f a b
row_stays kept d colours blend o r y none f a b =
    drawn_where false (in_row y r.x1 r.x2 a b) (covers d.setup (pos a -ℤ o.x) (pos b -ℤ o.y)) (over) (over) (f a b) (none a b) (λ h. refl)
  where
    over : Pixel
    over = left_by kept (painted d.depth_test d.depth_write colours blend d.setup (pos a -ℤ o.x) (pos b -ℤ o.y) (f a b)) (f a b)
