-- The columns of a line that are drawn one after another.
use Rattle.std.proofs.Common.{◌≡◌, ℕ, ◌+◌, ◌≤◌, ◌<◌, Bool, true, false, ◌&&◌, nat_le, nat_lt, if◌then◌else◌, Option, ℤ, pos, ◌+ℤ◌, ◌-ℤ◌, int_le, int_lt, sym, ◌∙◌, arith}
use Rattle.std.proofs.lemmas.Bool.Decides.{nat_tests}
use Rattle.dri_base.specs.declared.colour.Pixel.{Pixel}
use Rattle.dri_base.specs.declared.shape.ClipRect.{ClipRect}
use Rattle.dri_base.specs.declared.shape.Point.{Point}
use Rattle.dri_base.specs.declared.shape.Triangle.{Triangle}
use Rattle.dri_base.specs.Fragments.{Rules}
use Rattle.dri_base.specs.Planes.{in_rect}
use Rattle.dri_base.specs.Texels.{Image}
use Rattle.dri_card16.specs.declared.line.Line.{Line}
use Rattle.dri_card16.specs.Dots.{AreColumns, before_column, dot, in_column, placed, vertex_in}
use Rattle.dri_card16.specs.Lines.{across, along, has_pixel, is_on, left_on, row_in}
use Rattle.dri_card16.proofs.LinePlaces.{all_before, columns_apart, columns_joined, dot_drawn, drawn_same, no_place, none_before}
use Rattle.dri_walk.specs.Drawings.{after_drawing}
use Rattle.dri_walk.specs.Surfaces.{PairsBecome, drawn_at}
use Rattle.dri_walk.proofs.Painting.{Alike, becomes_alike, becomes_twice}

-- nothing is drawn of a column that has no place in the clip
pub nothing_drawn : {S : Type 0} (holds : S → (ℕ → ℕ → Pixel) → Type 0) → Alike holds → (surface : S) (kept : Pixel → Pixel) (r : Rules) (image : Option Image) (l : Line) (clip : ClipRect) (o : Point) (n : ℕ)
    → (int_le (pos (across l clip.x1 clip.y1)) (row_in l (pos n -ℤ along l o.x o.y) +ℤ across l o.x o.y) && int_lt (row_in l (pos n -ℤ along l o.x o.y) +ℤ across l o.x o.y) (pos (across l clip.x2 clip.y2))) ≡ false
    → PairsBecome holds surface surface (drawn_at (in_column l clip n) o (left_on kept r image l))
nothing_drawn holds alike surface kept r image l clip o n out =
    becomes_alike holds alike surface surface (λ f. f) (drawn_at (in_column l clip n) o (left_on kept r image l)) (drawn_same kept r image l o (λ a b. false) (in_column l clip n) (no_place l clip o n out)) (λ f h. h)

-- a dot at the one place that a column has
pub place_drawn : {S : Type 0} (holds : S → (ℕ → ℕ → Pixel) → Type 0) → Alike holds → (old new : S) (kept : Pixel → Pixel) (r : Rules) (image : Option Image) (l : Line) (clip : ClipRect) (o : Point) (n m : ℕ)
    → (t : Triangle) (place : ClipRect) → t ≡ dot (vertex_in r.shade l (pos n -ℤ along l o.x o.y)) (pos (placed l n m).x1 -ℤ o.x) (pos (placed l n m).y1 -ℤ o.y) → place ≡ placed l n m
    → ((a b : ℕ) → in_rect (placed l n m) a b ≡ (in_column l clip n a b && is_on l (pos a -ℤ o.x) (pos b -ℤ o.y)))
    → PairsBecome holds old new (after_drawing kept r image t place o)
    → PairsBecome holds old new (drawn_at (in_column l clip n) o (left_on kept r image l))
place_drawn holds alike old new kept r image l clip o n m t place dotted there places =
    becomes_alike holds alike old new (after_drawing kept r image t place o) (drawn_at (in_column l clip n) o (left_on kept r image l))
    (λ f a b. (λ i. after_drawing kept r image (dotted i) (there i) o f a b) ∙ dot_drawn kept r image l clip o n m places f a b)

-- no column is drawn yet
pub none_yet : {S : Type 0} (holds : S → (ℕ → ℕ → Pixel) → Type 0) → Alike holds → (surface : S) (kept : Pixel → Pixel) (r : Rules) (image : Option Image) (l : Line) (clip : ClipRect) (o : Point) (start end : ℕ)
    → AreColumns l (along l clip.x1 clip.y1) (along l clip.x2 clip.y2) (along l o.x o.y) start end
    → PairsBecome holds surface surface (drawn_at (before_column l clip start) o (left_on kept r image l))
none_yet holds alike surface kept r image l clip o start end are =
    becomes_alike holds alike surface surface (λ f. f) (drawn_at (before_column l clip start) o (left_on kept r image l)) (drawn_same kept r image l o (λ a b. false) (before_column l clip start) (none_before l o clip start end are)) (λ f h. h)

-- one column more
pub columns_more : {S : Type 0} (holds : S → (ℕ → ℕ → Pixel) → Type 0) → Alike holds → (old mid new : S) (l : Line) (clip : ClipRect) (o : Point) (n : ℕ) (drawing : ℤ → ℤ → Pixel → Pixel)
    → PairsBecome holds old mid (drawn_at (before_column l clip n) o drawing) → PairsBecome holds mid new (drawn_at (in_column l clip n) o drawing)
    → PairsBecome holds old new (drawn_at (before_column l clip (n + 1)) o drawing)
columns_more holds alike old mid new l clip o n drawing one two =
    becomes_twice holds alike old mid new _ _ _ one two (λ f a b. by f a b (before_column l clip n a b) (in_column l clip n a b) (columns_joined l clip n a b) (columns_apart l clip n a b))
  where
    by : (f : ℕ → ℕ → Pixel) (a b : ℕ) (p q : Bool) → ((drawn kept : Pixel) → (if p then (if q then kept else drawn) else (if q then drawn else kept)) ≡ (if before_column l clip (n + 1) a b then drawn else kept)) → (p && q) ≡ false
        → (if q then drawing (pos a -ℤ o.x) (pos b -ℤ o.y) (if p then drawing (pos a -ℤ o.x) (pos b -ℤ o.y) (f a b) else f a b) else (if p then drawing (pos a -ℤ o.x) (pos b -ℤ o.y) (f a b) else f a b))
        ≡ (if before_column l clip (n + 1) a b then drawing (pos a -ℤ o.x) (pos b -ℤ o.y) (f a b) else f a b)
    by f a b true true joined apart = absurd (true_is_false apart) where
      true_is_false : true ≡ false → ⊥
      true_is_false h = cc
    by f a b true false joined apart = joined _ _
    by f a b false true joined apart = joined _ _
    by f a b false false joined apart = joined _ _

-- all columns are drawn
pub all_drawn : {S : Type 0} (holds : S → (ℕ → ℕ → Pixel) → Type 0) → Alike holds → (old new : S) (kept : Pixel → Pixel) (r : Rules) (image : Option Image) (l : Line) (clip : ClipRect) (o : Point) (start end n : ℕ)
    → AreColumns l (along l clip.x1 clip.y1) (along l clip.x2 clip.y2) (along l o.x o.y) start end → end ≤ n
    → PairsBecome holds old new (drawn_at (before_column l clip n) o (left_on kept r image l))
    → PairsBecome holds old new (drawn_at (in_rect clip) o (left_on kept r image l))
all_drawn holds alike old new kept r image l clip o start end n are past =
    becomes_alike holds alike old new (drawn_at (before_column l clip n) o (left_on kept r image l)) (drawn_at (in_rect clip) o (left_on kept r image l)) (drawn_same kept r image l o (before_column l clip n) (in_rect clip) (all_before l o clip start end are n past))

-- a column that is drawn has a pixel
pub column_has : (l : Line) (low high : ℕ) (shift : ℤ) (start end n : ℕ) → AreColumns l low high shift start end → low ≤ start → end ≤ high → start ≤ n → n < end → has_pixel l (pos n -ℤ shift) ≡ true
column_has l low high shift start end n are from to above below =
    let up : nat_le start n ≡ true = grind (arith, nat_tests, above) in
    let down : nat_lt n end ≡ true = grind (arith, nat_tests, below) in
    sym (are n (omega (arith, from, above)) (omega (arith, to, below))) ∙ (λ i. up i && down i)
