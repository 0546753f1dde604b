-- Rectangles that are cut to others.
use Rattle.std.proofs.Common.{◌≡◌, ℕ, ◌<◌, ◌≤◌, nat_le, nat_lt, Bool, true, false, ◌&&◌, ℤ, pos, negsuc, ◌+ℤ◌, ◌-ℤ◌, ◌≤ℤ◌, int_le, int_lt, refl, sym, ap, ◌∙◌, arith}
use Rattle.std.proofs.lemmas.Int.{ints}
use Rattle.std.proofs.lemmas.Bool.Decides.{nat_tests}
use Rattle.std.proofs.lemmas.Bool.{and_parts, leb-true, true≢false}
use Rattle.dri_base.proofs.Shifts.{le_moved, lt_moved}
use Rattle.dri_base.specs.declared.scene.Window.{Window}
use Rattle.dri_base.specs.declared.shape.ClipRect.{ClipRect}
use Rattle.dri_base.specs.declared.shape.Point.{Point}
use Rattle.dri_base.specs.declared.shape.Rect.{Rect}
use Rattle.dri_base.specs.declared.shape.Triangle.{Triangle}
use Rattle.dri_base.specs.Coverage.{covers}
use Rattle.dri_model.specs.Stacks.{window_has}
use Rattle.dri_base.specs.Planes.{in_rect}
use Rattle.dri_raster.specs.Spans.{in_bounds}
use Rattle.dri_walk.specs.Clips.{HoldSame}

-- the places of a range from p on are those that aren't before n
abbrev pub Cuts : ℕ → ℕ → ℕ → ℤ → Type 0
Cuts low high p n = (k : ℕ) → low ≤ k → k < high → nat_le p k ≡ int_le n (pos k)

-- a place before p is one before n
before : (p k : ℕ) (n : ℤ) → nat_le p k ≡ int_le n (pos k) → nat_lt k p ≡ int_lt (pos k) n
before p k (pos n) e = grind (arith, nat_tests, e)
before p k (negsuc n) e = grind (arith, nat_tests, e)

-- a test with a greater number
test_rises : (n m : ℤ) (k : ℕ) → n ≤ℤ m → int_le m (pos k) ≡ true → int_le n (pos k) ≡ true
test_rises (pos n) (pos m) k le e = grind (arith, nat_tests, ints)
test_rises (negsuc n) m k le e = refl
test_rises (pos n) (negsuc m) k le e = absurd (omega (arith, ints))

-- a greater number isn't cut to less
pub rises : (low high p q : ℕ) (n m : ℤ) → p ≤ high → low ≤ q → Cuts low high p n → Cuts low high q m → n ≤ℤ m → p ≤ q
rises low high p q n m within from cuts cuts' le = by (nat_le p q) refl where
  by : (b : Bool) → nat_le p q ≡ b → p ≤ q
  by true e = leb-true p q e
  by false e =
      let less : q < p = grind (arith, nat_tests, e) in
      let at : q < high = omega (arith, less, within) in
      let same : nat_le q q ≡ true = grind (arith, nat_tests) in
      leb-true p q (cuts q from at ∙ test_rises n m q le (sym (cuts' q from at) ∙ same))

-- a column or row within both ends
between : (low high p q k : ℕ) (n m : ℤ) → Cuts low high p n → Cuts low high q m → low ≤ k → k < high
    → (nat_le p k && nat_lt k q) ≡ (int_le n (pos k) && int_lt (pos k) m)
between low high p q k n m cuts cuts' from to = rw (cuts k from to, before q k m (cuts' k from to)) refl

-- the pixels of the screen that a window has
pub window_cut : (w : Window) (r : ClipRect) (width height a b : ℕ) → Cuts 0 width r.x1 w.x → Cuts 0 height r.y1 w.y
    → Cuts 0 width r.x2 (w.x +ℤ pos w.width) → Cuts 0 height r.y2 (w.y +ℤ pos w.height) → a < width → b < height → in_rect r a b ≡ window_has w a b
window_cut w r width height a b c1 c2 c3 c4 la lb =
    rw (between 0 width r.x1 r.x2 a _ _ c1 c3 (omega arith) la, between 0 height r.y1 r.y2 b _ _ c2 c4 (omega arith) lb) refl

-- the columns, or the rows, of a clip that lie in a scissor
pub narrowed_side : (low high p q k : ℕ) (s t o : ℤ) → low ≤ p → q ≤ high → Cuts low high p (s +ℤ o) → Cuts p high q (t +ℤ o)
    → (nat_le p k && nat_lt k q) ≡ ((nat_le low k && nat_lt k high) && (int_le s (pos k -ℤ o) && int_lt (pos k -ℤ o) t))
narrowed_side low high p q k s t o from to cuts cuts' = by (nat_le low k) (nat_lt k high) refl refl where
  inner : (b : Bool) → low ≤ k → k < high → nat_le p k ≡ b → (b && nat_lt k q) ≡ (b && int_lt (pos k) (t +ℤ o))
  inner true here there e = before q k (t +ℤ o) (cuts' k (grind (arith, nat_tests, e)) there)
  inner false here there e = refl

  by : (x y : Bool) → nat_le low k ≡ x → nat_lt k high ≡ y → (nat_le p k && nat_lt k q) ≡ ((x && y) && (int_le s (pos k -ℤ o) && int_lt (pos k -ℤ o) t))
  by true true e f =
      let here : low ≤ k = grind (arith, nat_tests, e) in
      let there : k < high = grind (arith, nat_tests, f) in
      inner (nat_le p k) here there refl ∙ rw (cuts k here there, le_moved s (pos k) o, lt_moved t (pos k) o) refl
  by true false e f = grind (arith, nat_tests, f, to)
  by false y e f = grind (arith, nat_tests, e, from)

-- two pairs of tests, taken apart the other way
exchanged : (a b c d : Bool) → ((a && b) && (c && d)) ≡ ((a && c) && (b && d))
exchanged true true c d = refl
exchanged true false true d = refl
exchanged true false false d = refl
exchanged false b c d = refl

-- the places of a clip that lie in a scissor
pub scissor_cut : (clip s r : ClipRect) (o : Point) (a b : ℕ) → clip.x1 ≤ r.x1 → clip.y1 ≤ r.y1 → r.x2 ≤ clip.x2 → r.y2 ≤ clip.y2
    → Cuts clip.x1 clip.x2 r.x1 (pos s.x1 +ℤ o.x) → Cuts clip.y1 clip.y2 r.y1 (pos s.y1 +ℤ o.y)
    → Cuts r.x1 clip.x2 r.x2 (pos s.x2 +ℤ o.x) → Cuts r.y1 clip.y2 r.y2 (pos s.y2 +ℤ o.y)
    → in_rect r a b ≡ (in_rect clip a b && ((int_le (pos s.x1) (pos a -ℤ o.x) && int_lt (pos a -ℤ o.x) (pos s.x2)) && (int_le (pos s.y1) (pos b -ℤ o.y) && int_lt (pos b -ℤ o.y) (pos s.y2))))
scissor_cut clip s r o a b fx fy tx ty c1 c2 c3 c4 =
    rw (narrowed_side clip.x1 clip.x2 r.x1 r.x2 a (pos s.x1) (pos s.x2) o.x fx tx c1 c3, narrowed_side clip.y1 clip.y2 r.y1 r.y2 b (pos s.y1) (pos s.y2) o.y fy ty c2 c4)
    (exchanged (nat_le clip.x1 a && nat_lt a clip.x2) (int_le (pos s.x1) (pos a -ℤ o.x) && int_lt (pos a -ℤ o.x) (pos s.x2)) (nat_le clip.y1 b && nat_lt b clip.y2) (int_le (pos s.y1) (pos b -ℤ o.y) && int_lt (pos b -ℤ o.y) (pos s.y2)))

-- the rows of a rectangle between those of a frame that holds all that the triangle covers
pub frame_cut : (t : Triangle) (o : Point) (frame : Rect) (r : ClipRect) (y1 y2 : ℕ) → ((x y : ℤ) → covers t x y ≡ true → in_bounds frame x y ≡ true)
    → r.y1 ≤ y1 → y2 ≤ r.y2 → Cuts r.y1 r.y2 y1 (frame.y1 +ℤ o.y) → Cuts y1 r.y2 y2 (frame.y2 +ℤ o.y) → HoldSame t o (record { x1 = r.x1; y1 = y1; x2 = r.x2; y2 = y2 }) r
frame_cut t o frame r y1 y2 holds from to cuts cuts' a b =
    (λ i. ((nat_le r.x1 a && nat_lt a r.x2) && narrowed_side r.y1 r.y2 y1 y2 b frame.y1 frame.y2 o.y from to cuts cuts' i) && covers t (pos a -ℤ o.x) (pos b -ℤ o.y))
    ∙ by (covers t (pos a -ℤ o.x) (pos b -ℤ o.y)) refl
  where
    across : Bool
    across = nat_le r.x1 a && nat_lt a r.x2

    down : Bool
    down = nat_le r.y1 b && nat_lt b r.y2

    within : Bool
    within = int_le frame.y1 (pos b -ℤ o.y) && int_lt (pos b -ℤ o.y) frame.y2

    second : (u v : Bool) → (u && v) ≡ true → v ≡ true
    second true v h = h
    second false v h = cc

    with_true : (u : Bool) → (u && true) ≡ u
    with_true true = refl
    with_true false = refl

    with_false : (u : Bool) → (u && false) ≡ false
    with_false true = refl
    with_false false = refl

    by : (k : Bool) → covers t (pos a -ℤ o.x) (pos b -ℤ o.y) ≡ k → ((across && (down && within)) && k) ≡ ((across && down) && k)
    by true e =
        let here : within ≡ true = second _ _ (holds (pos a -ℤ o.x) (pos b -ℤ o.y) e) in
        λ i. (across && (ap (λ w. down && w) here ∙ with_true down) i) && true
    by false e = with_false (across && (down && within)) ∙ sym (with_false (across && down))

-- nothing lies between two ends of which the second isn't behind the first
nothing_between : (low high x : ℤ) → high ≤ℤ low → (int_le low x && int_lt x high) ≡ false
nothing_between low high x none = grind (arith, ints)

-- where a frame that holds all that the triangle covers has no column, a rectangle holds as much of it as without its rows
pub no_columns : (t : Triangle) (o : Point) (frame : Rect) (r : ClipRect) → ((x y : ℤ) → covers t x y ≡ true → in_bounds frame x y ≡ true)
    → frame.x2 ≤ℤ frame.x1 → HoldSame t o (record { x1 = r.x1; y1 = r.y1; x2 = r.x2; y2 = r.y1 }) r
no_columns t o frame r holds none a b = by (covers t (pos a -ℤ o.x) (pos b -ℤ o.y)) refl
  where
    with_false : (u : Bool) → (u && false) ≡ false
    with_false true = refl
    with_false false = refl

    by : (k : Bool) → covers t (pos a -ℤ o.x) (pos b -ℤ o.y) ≡ k → (in_rect (record { x1 = r.x1; y1 = r.y1; x2 = r.x2; y2 = r.y1 }) a b && k) ≡ (in_rect r a b && k)
    by true e = absurd (true≢false (sym (and_parts (int_le frame.x1 (pos a -ℤ o.x) && int_lt (pos a -ℤ o.x) frame.x2) _ (holds (pos a -ℤ o.x) (pos b -ℤ o.y) e)).0 ∙ nothing_between frame.x1 frame.x2 (pos a -ℤ o.x) none))
    by false e = with_false (in_rect (record { x1 = r.x1; y1 = r.y1; x2 = r.x2; y2 = r.y1 }) a b) ∙ sym (with_false (in_rect r a b))
