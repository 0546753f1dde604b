-- The places of a clip that a line comes to.
use Rattle.std.proofs.Common.{◌≡◌, ℕ, suc, zero, ◌+◌, ◌-◌, ◌≤◌, ◌<◌, Bool, true, false, ◌&&◌, ◌==◌, nat_le, nat_lt, if◌then◌else◌, Option, ℤ, pos, ◌+ℤ◌, ◌-ℤ◌, ◌≤ℤ◌, ◌<ℤ◌, ◌↔◌, int_le, int_lt, refl, sym, ap, ◌∙◌, subst, arith}
use Rattle.std.specs.Ordering.{int_eq}
use Rattle.std.specs.Cmp.{signed_Decides}
use Rattle.std.proofs.lemmas.Int.{ints, by_lt_z}
use Rattle.std.proofs.lemmas.Bool.{eqb-true}
use Rattle.std.proofs.lemmas.Bool.Decides.{nat_tests}
use Rattle.dri_base.specs.declared.colour.Pixel.{Pixel}
use Rattle.dri_base.specs.declared.shape.ClipRect.{ClipRect}
use Rattle.dri_base.specs.declared.shape.Point.{Point}
use Rattle.dri_base.specs.Fragments.{Rules}
use Rattle.dri_base.specs.Planes.{in_rect}
use Rattle.dri_base.specs.Texels.{Image}
use Rattle.dri_card16.specs.declared.line.Line.{Line}
use Rattle.dri_card16.specs.Dots.{AreColumns, before_column, dot, in_column, placed, vertex_in}
use Rattle.dri_walk.specs.Drawings.{after_drawing}
use Rattle.dri_card16.specs.Lines.{across, along, has_pixel, has_place, is_on, left_on, middle, places_in, row_in}
use Rattle.dri_walk.specs.Surfaces.{drawn_at}
use Rattle.dri_walk.proofs.CutRects.{Cuts, narrowed_side}
use Rattle.dri_card16.proofs.LineDots.{dot_left}

second_of : (a b : Bool) → (a && b) ≡ true → b ≡ true
second_of true b h = h
second_of false b h = cc

first_of : (a b : Bool) → (a && b) ≡ true → a ≡ true
first_of true b h = refl
first_of false b h = cc

-- places that hold the same of what the line covers are drawn alike
pub drawn_same : (kept : Pixel → Pixel) (r : Rules) (image : Option Image) (l : Line) (o : Point) (p q : ℕ → ℕ → Bool)
    → ((a b : ℕ) → (p a b && is_on l (pos a -ℤ o.x) (pos b -ℤ o.y)) ≡ (q a b && is_on l (pos a -ℤ o.x) (pos b -ℤ o.y)))
    → (f : ℕ → ℕ → Pixel) (a b : ℕ) → drawn_at p o (left_on kept r image l) f a b ≡ drawn_at q o (left_on kept r image l) f a b
drawn_same kept r image l o p q same f a b = by (p a b) (q a b) (is_on l (pos a -ℤ o.x) (pos b -ℤ o.y)) _ _ (f a b) (same a b) where
  by : (p q k d : Bool) (over under : Pixel) → (p && k) ≡ (q && k) → (if p then (if k && d then over else under) else under) ≡ (if q then (if k && d then over else under) else under)
  by true true k d over under e = refl
  by true false true d over under e = cc
  by true false false d over under e = refl
  by false true true d over under e = cc
  by false true false d over under e = refl
  by false false k d over under e = refl

-- a row's test
row_test : (r o : ℤ) (m v : ℕ) → pos m ≡ r +ℤ o → int_eq r (pos v -ℤ o) ≡ (v == m)
row_test r o m v is = by (v == m) refl where
  no : (b : Bool) → (b ≡ true → ⊥) → b ≡ false
  no true n = absurd (n refl)
  no false n = refl

  by : (c : Bool) → (v == m) ≡ c → int_eq r (pos v -ℤ o) ≡ c
  by true e = let same = eqb-true v m e in (signed_Decides r (pos v -ℤ o)).1 (omega (arith, ints, is, same))
  by false e = no (int_eq r (pos v -ℤ o)) (λ h. let k = (signed_Decides r (pos v -ℤ o)).0 h in let same : v ≡ m = omega (arith, ints, is, k) in grind (arith, nat_tests, e, same))

-- the one place of a column that the line covers, by its column u and its row v
cell : (n m u v u1 u2 v1 v2 : ℕ) (on : Bool) → u1 ≤ n → n < u2 → v1 ≤ m → m < v2 → (u ≡ n → on ≡ (v == m))
    → ((nat_le n u && nat_lt u (n + 1)) && (nat_le m v && nat_lt v (m + 1))) ≡ ((((nat_le u1 u && nat_lt u u2) && (nat_le v1 v && nat_lt v v2)) && (u == n)) && on)
cell n m u v u1 u2 v1 v2 on a b c d same = by (u == n) refl where
  row_part : (k : Bool) → (v == m) ≡ k → (nat_le m v && nat_lt v (m + 1)) ≡ (((nat_le v1 v && nat_lt v v2) && true) && k)
  row_part true e =
      let at = eqb-true v m e in
      let t1 : nat_le m v ≡ true = grind (arith, nat_tests, at) in
      let t2 : nat_lt v (m + 1) ≡ true = grind (arith, nat_tests, at) in
      let t3 : nat_le v1 v ≡ true = grind (arith, nat_tests, at, c) in
      let t4 : nat_lt v v2 ≡ true = grind (arith, nat_tests, at, d) in
      (λ i. t1 i && t2 i) ∙ sym (λ i. ((t3 i && t4 i) && true) && true)
  row_part false e = off ∙ sym (none ((nat_le v1 v && nat_lt v v2) && true)) where
    off : (nat_le m v && nat_lt v (m + 1)) ≡ false
    off = grind (arith, nat_tests, e)

    none : (p : Bool) → (p && false) ≡ false
    none true = refl
    none false = refl

  by : (k : Bool) → (u == n) ≡ k → ((nat_le n u && nat_lt u (n + 1)) && (nat_le m v && nat_lt v (m + 1))) ≡ ((((nat_le u1 u && nat_lt u u2) && (nat_le v1 v && nat_lt v v2)) && k) && on)
  by true e =
      let at = eqb-true u n e in
      let t1 : nat_le n u ≡ true = grind (arith, nat_tests, at) in
      let t2 : nat_lt u (n + 1) ≡ true = grind (arith, nat_tests, at) in
      let t3 : nat_le u1 u ≡ true = grind (arith, nat_tests, at, a) in
      let t4 : nat_lt u u2 ≡ true = grind (arith, nat_tests, at, b) in
      (λ i. (t1 i && t2 i) && (nat_le m v && nat_lt v (m + 1))) ∙ row_part (v == m) refl ∙ sym (λ i. (((t3 i && t4 i) && (nat_le v1 v && nat_lt v v2)) && true) && same at i)
  by false e = (λ i. off i && (nat_le m v && nat_lt v (m + 1))) ∙ sym (none ((nat_le u1 u && nat_lt u u2) && (nat_le v1 v && nat_lt v v2)) on) where
    off : (nat_le n u && nat_lt u (n + 1)) ≡ false
    off = grind (arith, nat_tests, e)

    none : (p q : Bool) → ((p && false) && q) ≡ false
    none true q = refl
    none false q = refl

swapped : (a b c d : Bool) → ((a && b) && (c && d)) ≡ ((c && d) && (a && b))
swapped true true true true = refl
swapped true true true false = refl
swapped true true false d = refl
swapped true false true true = refl
swapped true false true false = refl
swapped true false false d = refl
swapped false b true true = refl
swapped false b true false = refl
swapped false b false d = refl

pub placed_is : (l : Line) (clip : ClipRect) (o : Point) (n m : ℕ) → has_pixel l (pos n -ℤ along l o.x o.y) ≡ true
    → along l clip.x1 clip.y1 ≤ n → n < along l clip.x2 clip.y2 → across l clip.x1 clip.y1 ≤ m → m < across l clip.x2 clip.y2
    → pos m ≡ (row_in l (pos n -ℤ along l o.x o.y) +ℤ across l o.x o.y)
    → (a b : ℕ) → in_rect (placed l n m) a b ≡ (in_column l clip n a b && is_on l (pos a -ℤ o.x) (pos b -ℤ o.y))
placed_is l clip o n m = by l.x_major refl where
  on : (u v : ℕ) (ou ov : ℤ) → has_pixel l (pos n -ℤ ou) ≡ true → pos m ≡ (row_in l (pos n -ℤ ou) +ℤ ov) → u ≡ n → (has_pixel l (pos u -ℤ ou) && int_eq (row_in l (pos u -ℤ ou)) (pos v -ℤ ov)) ≡ (v == m)
  on u v ou ov has is at = (λ i. has_pixel l (pos (at i) -ℤ ou) && int_eq (row_in l (pos (at i) -ℤ ou)) (pos v -ℤ ov)) ∙ (λ i. has i && row_test (row_in l (pos n -ℤ ou)) ov m v is i)

  by : (k : Bool) → l.x_major ≡ k → has_pixel l (pos n -ℤ along l o.x o.y) ≡ true
      → along l clip.x1 clip.y1 ≤ n → n < along l clip.x2 clip.y2 → across l clip.x1 clip.y1 ≤ m → m < across l clip.x2 clip.y2
      → pos m ≡ (row_in l (pos n -ℤ along l o.x o.y) +ℤ across l o.x o.y)
      → (a b : ℕ) → in_rect (placed l n m) a b ≡ (in_column l clip n a b && is_on l (pos a -ℤ o.x) (pos b -ℤ o.y))
  by true e = rw e (λ has u1 u2 v1 v2 is a b. cell n m a b clip.x1 clip.x2 clip.y1 clip.y2 _ u1 u2 v1 v2 (on a b o.x o.y has is))
  by false e = rw e (λ has u1 u2 v1 v2 is a b.
      swapped (nat_le m a) (nat_lt a (m + 1)) (nat_le n b) (nat_lt b (n + 1))
      ∙ cell n m b a clip.y1 clip.y2 clip.x1 clip.x2 _ u1 u2 v1 v2 (on b a o.y o.x has is)
      ∙ (λ i. (swapped (nat_le clip.y1 b) (nat_lt b clip.y2) (nat_le clip.x1 a) (nat_lt a clip.x2) i && (b == n)) && (has_pixel l (pos b -ℤ o.y) && int_eq (row_in l (pos b -ℤ o.y)) (pos a -ℤ o.x))))

-- where the line's row in a column isn't one of the clip's, the column has no place
none_there : (r ov : ℤ) (n u v u1 u2 v1 v2 : ℕ) (has : Bool) → (int_le (pos v1) (r +ℤ ov) && int_lt (r +ℤ ov) (pos v2)) ≡ false
    → (((((nat_le u1 u && nat_lt u u2) && (nat_le v1 v && nat_lt v v2)) && (u == n)) && (has && int_eq r (pos v -ℤ ov))) ≡ false)
none_there r ov n u v u1 u2 v1 v2 has out = by (nat_le v1 v) (nat_lt v v2) (int_eq r (pos v -ℤ ov)) refl refl refl where
  by : (p q k : Bool) → nat_le v1 v ≡ p → nat_lt v v2 ≡ q → int_eq r (pos v -ℤ ov) ≡ k → ((((nat_le u1 u && nat_lt u u2) && (p && q)) && (u == n)) && (has && k)) ≡ false
  by true true true e f h =
      let same = (signed_Decides r (pos v -ℤ ov)).0 h in
      let is : r +ℤ ov ≡ pos v = omega (arith, ints, same) in
      let inside : (int_le (pos v1) (r +ℤ ov) && int_lt (r +ℤ ov) (pos v2)) ≡ true = (λ i. int_le (pos v1) (is i) && int_lt (is i) (pos v2)) ∙ (λ i. e i && f i) in
      absurd (true_is_false (sym inside ∙ out))
    where
      true_is_false : true ≡ false → ⊥
      true_is_false h = cc
  by false q k e f h = none (nat_le u1 u && nat_lt u u2) (u == n) (has && k)
    where
      none : (a b c : Bool) → (((a && false) && b) && c) ≡ false
      none true b c = refl
      none false b c = refl
  by true false k e f h = none (nat_le u1 u && nat_lt u u2) (u == n) (has && k)
    where
      none : (a b c : Bool) → (((a && false) && b) && c) ≡ false
      none true b c = refl
      none false b c = refl
  by true true false e f h = none (((nat_le u1 u && nat_lt u u2) && true) && (u == n)) has
    where
      none : (a b : Bool) → (a && (b && false)) ≡ false
      none true true = refl
      none true false = refl
      none false b = refl

pub no_place : (l : Line) (clip : ClipRect) (o : Point) (n : ℕ)
    → (int_le (pos (across l clip.x1 clip.y1)) (row_in l (pos n -ℤ along l o.x o.y) +ℤ across l o.x o.y) && int_lt (row_in l (pos n -ℤ along l o.x o.y) +ℤ across l o.x o.y) (pos (across l clip.x2 clip.y2))) ≡ false
    → (a b : ℕ) → false ≡ (in_column l clip n a b && is_on l (pos a -ℤ o.x) (pos b -ℤ o.y))
no_place l clip o n = by l.x_major refl where
  at_column : (u v : ℕ) (ou ov : ℤ) (u1 u2 v1 v2 : ℕ) → (int_le (pos v1) (row_in l (pos n -ℤ ou) +ℤ ov) && int_lt (row_in l (pos n -ℤ ou) +ℤ ov) (pos v2)) ≡ false
      → ((((nat_le u1 u && nat_lt u u2) && (nat_le v1 v && nat_lt v v2)) && (u == n)) && (has_pixel l (pos u -ℤ ou) && int_eq (row_in l (pos u -ℤ ou)) (pos v -ℤ ov))) ≡ false
  at_column u v ou ov u1 u2 v1 v2 out = on (u == n) refl where
    on : (k : Bool) → (u == n) ≡ k → ((((nat_le u1 u && nat_lt u u2) && (nat_le v1 v && nat_lt v v2)) && k) && (has_pixel l (pos u -ℤ ou) && int_eq (row_in l (pos u -ℤ ou)) (pos v -ℤ ov))) ≡ false
    on true e =
        let at = eqb-true u n e in
        let out' : (int_le (pos v1) (row_in l (pos u -ℤ ou) +ℤ ov) && int_lt (row_in l (pos u -ℤ ou) +ℤ ov) (pos v2)) ≡ false = (λ i. int_le (pos v1) (row_in l (pos (at i) -ℤ ou) +ℤ ov) && int_lt (row_in l (pos (at i) -ℤ ou) +ℤ ov) (pos v2)) ∙ out in
        (λ i. ((((nat_le u1 u && nat_lt u u2) && (nat_le v1 v && nat_lt v v2)) && sym e i) && (has_pixel l (pos u -ℤ ou) && int_eq (row_in l (pos u -ℤ ou)) (pos v -ℤ ov))))
        ∙ none_there (row_in l (pos u -ℤ ou)) ov n u v u1 u2 v1 v2 (has_pixel l (pos u -ℤ ou)) out'
    on false e = none ((nat_le u1 u && nat_lt u u2) && (nat_le v1 v && nat_lt v v2)) _
      where
        none : (a c : Bool) → ((a && false) && c) ≡ false
        none true c = refl
        none false c = refl

  by : (k : Bool) → l.x_major ≡ k
      → (int_le (pos (across l clip.x1 clip.y1)) (row_in l (pos n -ℤ along l o.x o.y) +ℤ across l o.x o.y) && int_lt (row_in l (pos n -ℤ along l o.x o.y) +ℤ across l o.x o.y) (pos (across l clip.x2 clip.y2))) ≡ false
      → (a b : ℕ) → false ≡ (in_column l clip n a b && is_on l (pos a -ℤ o.x) (pos b -ℤ o.y))
  by true e = rw e (λ out a b. sym (at_column a b o.x o.y clip.x1 clip.x2 clip.y1 clip.y2 out))
  by false e = rw e (λ out a b. sym (
      (λ i. (swapped (nat_le clip.x1 a) (nat_lt a clip.x2) (nat_le clip.y1 b) (nat_lt b clip.y2) i && (b == n)) && (has_pixel l (pos b -ℤ o.y) && int_eq (row_in l (pos b -ℤ o.y)) (pos a -ℤ o.x)))
      ∙ at_column b a o.y o.x clip.y1 clip.y2 clip.x1 clip.x2 out))

-- a rectangle of one place
one_at : (r : ClipRect) (a b : ℕ) → r.x2 ≡ r.x1 + 1 → r.y2 ≡ r.y1 + 1 → in_rect r a b ≡ true → (a ≡ r.x1) × (b ≡ r.y1)
one_at r a b ex ey h = (side r.x1 r.x2 a ex (first_of _ _ h), side r.y1 r.y2 b ey (second_of _ _ h)) where
  side : (k k' c : ℕ) → k' ≡ k + 1 → (nat_le k c && nat_lt c k') ≡ true → c ≡ k
  side k k' c e h = grind (arith, nat_tests, e, h)

-- the column of the line's place
pub placed_along : (l : Line) (o : Point) (n m : ℕ) → along l (pos (placed l n m).x1 -ℤ o.x) (pos (placed l n m).y1 -ℤ o.y) ≡ pos n -ℤ along l o.x o.y
placed_along l o n m = by l.x_major refl where
  by : (k : Bool) → l.x_major ≡ k → along l (pos (placed l n m).x1 -ℤ o.x) (pos (placed l n m).y1 -ℤ o.y) ≡ pos n -ℤ along l o.x o.y
  by true e = rw e refl
  by false e = rw e refl

-- the dot there is what the line leaves of the column
pub dot_drawn : (kept : Pixel → Pixel) (r : Rules) (image : Option Image) (l : Line) (clip : ClipRect) (o : Point) (n m : ℕ)
    → ((a b : ℕ) → in_rect (placed l n m) a b ≡ (in_column l clip n a b && is_on l (pos a -ℤ o.x) (pos b -ℤ o.y)))
    → (f : ℕ → ℕ → Pixel) (a b : ℕ)
    → after_drawing kept r image (dot (vertex_in r.shade l (pos n -ℤ along l o.x o.y)) (pos (placed l n m).x1 -ℤ o.x) (pos (placed l n m).y1 -ℤ o.y)) (placed l n m) o f a b
    ≡ drawn_at (in_column l clip n) o (left_on kept r image l) f a b
dot_drawn kept r image l clip o n m places f a b =
    drawn_at_place (in_rect (placed l n m) a b) refl
    ∙ drawn_same kept r image l o (in_rect (placed l n m)) (in_column l clip n) (λ a b. within a b) f a b
  where
    over : ℤ → ℤ → Pixel
    over x y = after_drawing kept r image (dot (vertex_in r.shade l (along l x y)) x y) (placed l n m) o f a b

    within : (a b : ℕ) → (in_rect (placed l n m) a b && is_on l (pos a -ℤ o.x) (pos b -ℤ o.y)) ≡ (in_column l clip n a b && is_on l (pos a -ℤ o.x) (pos b -ℤ o.y))
    within a b = (λ i. places a b i && is_on l (pos a -ℤ o.x) (pos b -ℤ o.y)) ∙ twice (in_column l clip n a b) (is_on l (pos a -ℤ o.x) (pos b -ℤ o.y)) where
      twice : (p q : Bool) → ((p && q) && q) ≡ (p && q)
      twice true true = refl
      twice true false = refl
      twice false q = refl

    drawn_at_place : (k : Bool) → in_rect (placed l n m) a b ≡ k
        → after_drawing kept r image (dot (vertex_in r.shade l (pos n -ℤ along l o.x o.y)) (pos (placed l n m).x1 -ℤ o.x) (pos (placed l n m).y1 -ℤ o.y)) (placed l n m) o f a b ≡ drawn_at (in_rect (placed l n m)) o (left_on kept r image l) f a b
    drawn_at_place false e = rw e refl
    drawn_at_place true e =
        let at = one_at (placed l n m) a b refl refl e in
        (λ i. after_drawing kept r image (dot (vertex_in r.shade l (sym (placed_along l o n m) i)) (pos (placed l n m).x1 -ℤ o.x) (pos (placed l n m).y1 -ℤ o.y)) (placed l n m) o f a b)
        ∙ (λ i. over (pos (sym at.0 i) -ℤ o.x) (pos (sym at.1 i) -ℤ o.y))
        ∙ here e
      where
        here : in_rect (placed l n m) a b ≡ true → over (pos a -ℤ o.x) (pos b -ℤ o.y) ≡ drawn_at (in_rect (placed l n m)) o (left_on kept r image l) f a b
        here e = rw e (dot_left kept r image l (pos a -ℤ o.x) (pos b -ℤ o.y) (f a b) (second_of _ _ (sym (places a b) ∙ e)))

-- ---- one column after another
pub columns_joined : (l : Line) (clip : ClipRect) (n a b : ℕ) (drawn kept : Pixel)
    → (if before_column l clip n a b then (if in_column l clip n a b then kept else drawn) else (if in_column l clip n a b then drawn else kept)) ≡ (if before_column l clip (n + 1) a b then drawn else kept)
columns_joined l clip n a b drawn kept = by (in_rect clip a b) (along l a b) where
  by : (p : Bool) (u : ℕ) → (if p && nat_lt u n then (if p && (u == n) then kept else drawn) else (if p && (u == n) then drawn else kept)) ≡ (if p && nat_lt u (n + 1) then drawn else kept)
  by p u = grind (arith, nat_tests)

pub columns_apart : (l : Line) (clip : ClipRect) (n a b : ℕ) → (before_column l clip n a b && in_column l clip n a b) ≡ false
columns_apart l clip n a b = by (in_rect clip a b) (along l a b) where
  by : (p : Bool) (u : ℕ) → ((p && nat_lt u n) && (p && (u == n))) ≡ false
  by p u = grind (arith, nat_tests)

-- ---- the columns of the line
-- the first column whose centre isn't before a place
first_is : (place s n : ℤ) → ((k : ℤ) → (place ≤ℤ middle k) ↔ (s ≤ℤ k)) → int_le s n ≡ int_le place (middle n)
first_is place s n is = by_lt_z n s (λ h. by_lt_z (middle n) place (λ k. no h ∙ sym (no k)) (λ k. let at = (is n).0 k in absurd (never s n h at))) (λ h. let at = (is n).1 h in yes h ∙ sym (yes at)) where
  no : {a b : ℤ} → b <ℤ a → int_le a b ≡ false
  no {a} {b} h = grind (arith, ints, h)

  yes : {a b : ℤ} → a ≤ℤ b → int_le a b ≡ true
  yes {a} {b} h = grind (arith, ints, h)

  never : (a b : ℤ) → b <ℤ a → a ≤ℤ b → ⊥
  never a b h k = omega (arith, ints, h, k)

-- what isn't at most another is greater
turned_round : (a b c d : ℤ) → int_le a b ≡ int_le c d → int_lt b a ≡ int_lt d c
turned_round a b c d e = by_lt_z b a (λ h. by_lt_z d c (λ k. yes b a h ∙ sym (yes d c k)) (λ k. absurd (apart (sym (no' a b h) ∙ e ∙ yes' c d k)))) (λ h. by_lt_z d c (λ k. absurd (apart (sym (no' c d k) ∙ sym e ∙ yes' a b h))) (λ k. no a b h ∙ sym (no c d k))) where
  apart : false ≡ true → ⊥
  apart h = cc

  yes : (u v : ℤ) → u <ℤ v → int_lt u v ≡ true
  yes u v h = grind (arith, ints, h)

  no : (u v : ℤ) → u ≤ℤ v → int_lt v u ≡ false
  no u v h = grind (arith, ints, h)

  yes' : (u v : ℤ) → u ≤ℤ v → int_le u v ≡ true
  yes' u v h = grind (arith, ints, h)

  no' : (u v : ℤ) → v <ℤ u → int_le u v ≡ false
  no' u v h = grind (arith, ints, h)

pub columns_are : (l : Line) (low high p q : ℕ) (s t shift : ℤ) → ((k : ℤ) → (l.first.x ≤ℤ middle k) ↔ (s ≤ℤ k)) → ((k : ℤ) → (l.last.x ≤ℤ middle k) ↔ (t ≤ℤ k))
    → low ≤ p → q ≤ high → Cuts low high p (s +ℤ shift) → Cuts p high q (t +ℤ shift) → AreColumns l low high shift p q
columns_are l low high p q s t shift firsts lasts from to cuts cuts' k above below =
    narrowed_side low high p q k s t shift from to cuts cuts'
    ∙ (λ i. (up i && down i) && (int_le s (pos k -ℤ shift) && int_lt (pos k -ℤ shift) t))
    ∙ (λ i. first_is l.first.x s (pos k -ℤ shift) firsts i && turned_round t (pos k -ℤ shift) l.last.x (middle (pos k -ℤ shift)) (first_is l.last.x t (pos k -ℤ shift) lasts) i)
  where
    up : nat_le low k ≡ true
    up = grind (arith, nat_tests, above)

    down : nat_lt k high ≡ true
    down = grind (arith, nat_tests, below)

-- a column before the line's first, or from its end on, has no pixel
outside : (l : Line) (o : Point) (clip : ClipRect) (start end a b : ℕ) → AreColumns l (along l clip.x1 clip.y1) (along l clip.x2 clip.y2) (along l o.x o.y) start end
    → (nat_le start (along l a b) && nat_lt (along l a b) end) ≡ false → (in_rect clip a b && is_on l (pos a -ℤ o.x) (pos b -ℤ o.y)) ≡ false
outside l o clip start end a b = by l.x_major refl where
  side : (low high u : ℕ) (shift : ℤ) (others on : Bool) → AreColumns l low high shift start end → (nat_le start u && nat_lt u end) ≡ false → (((nat_le low u && nat_lt u high) && others) && (has_pixel l (pos u -ℤ shift) && on)) ≡ false
  side low high u shift others on are out = at (nat_le low u) (nat_lt u high) refl refl where
    at : (p q : Bool) → nat_le low u ≡ p → nat_lt u high ≡ q → (((p && q) && others) && (has_pixel l (pos u -ℤ shift) && on)) ≡ false
    at true true e f = let has : has_pixel l (pos u -ℤ shift) ≡ false = sym (are u (grind (arith, nat_tests, e)) (grind (arith, nat_tests, f))) ∙ out in (λ i. others && (has i && on)) ∙ never others where
      never : (c : Bool) → (c && false) ≡ false
      never true = refl
      never false = refl
    at true false e f = refl
    at false q e f = refl

  by : (k : Bool) → l.x_major ≡ k → AreColumns l (along l clip.x1 clip.y1) (along l clip.x2 clip.y2) (along l o.x o.y) start end
      → (nat_le start (along l a b) && nat_lt (along l a b) end) ≡ false → (in_rect clip a b && is_on l (pos a -ℤ o.x) (pos b -ℤ o.y)) ≡ false
  by true e = rw e (λ are out. side clip.x1 clip.x2 a o.x (nat_le clip.y1 b && nat_lt b clip.y2) (int_eq (row_in l (pos a -ℤ o.x)) (pos b -ℤ o.y)) are out)
  by false e = rw e (λ are out.
      (λ i. swapped (nat_le clip.x1 a) (nat_lt a clip.x2) (nat_le clip.y1 b) (nat_lt b clip.y2) i && (has_pixel l (pos b -ℤ o.y) && int_eq (row_in l (pos b -ℤ o.y)) (pos a -ℤ o.x)))
      ∙ side clip.y1 clip.y2 b o.y (nat_le clip.x1 a && nat_lt a clip.x2) (int_eq (row_in l (pos b -ℤ o.y)) (pos a -ℤ o.x)) are out)

-- nothing of the line is before its first column
pub none_before : (l : Line) (o : Point) (clip : ClipRect) (start end : ℕ) → AreColumns l (along l clip.x1 clip.y1) (along l clip.x2 clip.y2) (along l o.x o.y) start end
    → (a b : ℕ) → (false && is_on l (pos a -ℤ o.x) (pos b -ℤ o.y)) ≡ (before_column l clip start a b && is_on l (pos a -ℤ o.x) (pos b -ℤ o.y))
none_before l o clip start end are a b = by (nat_lt (along l a b) start) refl where
  by : (k : Bool) → nat_lt (along l a b) start ≡ k → false ≡ ((in_rect clip a b && k) && is_on l (pos a -ℤ o.x) (pos b -ℤ o.y))
  by true e =
      let out : (nat_le start (along l a b) && nat_lt (along l a b) end) ≡ false = early (along l a b) e in
      sym ((λ i. whole (in_rect clip a b) i && is_on l (pos a -ℤ o.x) (pos b -ℤ o.y)) ∙ outside l o clip start end a b are out)
    where
      early : (u : ℕ) → nat_lt u start ≡ true → (nat_le start u && nat_lt u end) ≡ false
      early u e = grind (arith, nat_tests, e)

      whole : (p : Bool) → (p && true) ≡ p
      whole true = refl
      whole false = refl
  by false e = sym (none (in_rect clip a b) (is_on l (pos a -ℤ o.x) (pos b -ℤ o.y))) where
    none : (p q : Bool) → ((p && false) && q) ≡ false
    none true q = refl
    none false q = refl

-- and all of it before its end
pub all_before : (l : Line) (o : Point) (clip : ClipRect) (start end : ℕ) → AreColumns l (along l clip.x1 clip.y1) (along l clip.x2 clip.y2) (along l o.x o.y) start end
    → (n : ℕ) → end ≤ n → (a b : ℕ) → (before_column l clip n a b && is_on l (pos a -ℤ o.x) (pos b -ℤ o.y)) ≡ (in_rect clip a b && is_on l (pos a -ℤ o.x) (pos b -ℤ o.y))
all_before l o clip start end are n past a b = by (nat_lt (along l a b) n) refl where
  by : (k : Bool) → nat_lt (along l a b) n ≡ k → ((in_rect clip a b && k) && is_on l (pos a -ℤ o.x) (pos b -ℤ o.y)) ≡ (in_rect clip a b && is_on l (pos a -ℤ o.x) (pos b -ℤ o.y))
  by true e = λ i. whole (in_rect clip a b) i && is_on l (pos a -ℤ o.x) (pos b -ℤ o.y) where
    whole : (p : Bool) → (p && true) ≡ p
    whole true = refl
    whole false = refl
  by false e = none (in_rect clip a b) (is_on l (pos a -ℤ o.x) (pos b -ℤ o.y)) ∙ sym (outside l o clip start end a b are (late (along l a b) e)) where
    late : (u : ℕ) → nat_lt u n ≡ false → (nat_le start u && nat_lt u end) ≡ false
    late u e = grind (arith, nat_tests, e, past)

    none : (p q : Bool) → ((p && false) && q) ≡ false
    none true q = refl
    none false q = refl

-- ---- how many there are
pub one_more : (l : Line) (clip : ClipRect) (o : Point) (n : ℕ) → along l clip.x1 clip.y1 ≤ n → places_in l clip o (n + 1) ≡ places_in l clip o n + (if has_place l clip o n then 1 else 0)
one_more l clip o n from =
    let up : nat_le (along l clip.x1 clip.y1) n ≡ true = grind (arith, nat_tests, from) in
    let next : n + 1 ≡ suc n = omega arith in
    ap (places_in l clip o) next ∙ (λ i. places_in l clip o n + (if up i && has_place l clip o n then 1 else 0))

-- fewer columns have no more
pub fewer_columns : (l : Line) (clip : ClipRect) (o : Point) (n m : ℕ) → n ≤ m → places_in l clip o n ≤ places_in l clip o m
fewer_columns l clip o n m le = subst (λ k. places_in l clip o n ≤ places_in l clip o k) (omega (arith, le)) (longer (m - n)) where
  longer : (k : ℕ) → places_in l clip o n ≤ places_in l clip o (k + n)
  longer zero = let none : 0 + n ≡ n = omega arith in rw none (omega arith)
  longer (suc k) = let less = longer k in let next : suc k + n ≡ suc (k + n) = omega arith in rw next (omega (arith, less))
