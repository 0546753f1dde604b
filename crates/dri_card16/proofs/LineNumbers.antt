-- What the numbers of a line's drawing are: each fits, and is what is meant by it.
use Rattle.std.proofs.Common.{◌≡◌, ℕ, ◌+◌, ◌*◌, ◌≤◌, ◌<◌, Bool, true, false, ◌&&◌, if◌then◌else◌, ℤ, pos, ◌-ℤ◌, int_le, int_lt, w32, w64, FitsSigned, to_z, of_z, sym, ◌∙◌, subst, arith}
use Rattle.std.proofs.lemmas.Int.{ints, to_z-of_z}
use Rattle.dri_base.specs.declared.shape.ClipRect.{ClipRect}
use Rattle.dri_base.specs.declared.shape.Point.{Point}
use Rattle.dri_base.specs.Ranges.{IsPlace}
use Rattle.dri_card16.specs.declared.line.Line.{Line}
use Rattle.dri_card16.specs.Dots.{IsWindowPixel, laid_point, placed}
use Rattle.dri_card16.specs.Lines.{across, along}
use Rattle.dri_plane.specs.Grids.{IsInside}
use Rattle.dri_raster.specs.Edges.{IsPixel, IsWithin}
use Rattle.dri_walk.proofs.Ready.{less_plain, place_plain}

-- of two numbers, the line's
along_place : (l : Line) (o : Point) → IsPlace o.x → IsPlace o.y → IsPlace (along l o.x o.y)
along_place l o x y = by l.x_major where
  by : (k : Bool) → IsPlace (if k then o.x else o.y)
  by true = x
  by false = y

across_place : (l : Line) (o : Point) → IsPlace o.x → IsPlace o.y → IsPlace (across l o.x o.y)
across_place l o x y = by l.x_major where
  by : (k : Bool) → IsPlace (if k then o.y else o.x)
  by true = y
  by false = x

pub along_below : (l : Line) (clip : ClipRect) (n k : ℕ) → IsInside clip k k → n < along l clip.x2 clip.y2 → n < k
along_below l clip n k inside = by l.x_major where
  by : (b : Bool) → n < (if b then clip.x2 else clip.y2) → n < k
  by true below = omega (arith, inside.right, below)
  by false below = omega (arith, inside.bottom, below)

pub across_below : (l : Line) (clip : ClipRect) (m k : ℕ) → IsInside clip k k → m < across l clip.x2 clip.y2 → m < k
across_below l clip m k inside = by l.x_major where
  by : (b : Bool) → m < (if b then clip.y2 else clip.x2) → m < k
  by true below = omega (arith, inside.bottom, below)
  by false below = omega (arith, inside.right, below)

-- the shift along the line, and across it
pub shift_along : (l : Line) (o laid : Point) → IsPlace o.x → IsPlace o.y → laid ≡ laid_point l o → to_z w32 (of_z w32 laid.x) ≡ along l o.x o.y
shift_along l o laid x y at = (λ i. to_z w32 (of_z w32 (at i).x)) ∙ place_plain (along l o.x o.y) (along_place l o x y)

pub shift_across : (l : Line) (o laid : Point) → IsPlace o.x → IsPlace o.y → laid ≡ laid_point l o → to_z w32 (of_z w32 laid.y) ≡ across l o.x o.y
shift_across l o laid x y at = (λ i. to_z w32 (of_z w32 (at i).y)) ∙ place_plain (across l o.x o.y) (across_place l o x y)

pub along_is_place : (l : Line) (o laid : Point) → IsPlace o.x → IsPlace o.y → laid ≡ laid_point l o → IsPlace (to_z w32 (of_z w32 laid.x))
along_is_place l o laid x y at = subst IsPlace (sym (shift_along l o laid x y at)) (along_place l o x y)

pub across_is_place : (l : Line) (o laid : Point) → IsPlace o.x → IsPlace o.y → laid ≡ laid_point l o → IsPlace (to_z w32 (of_z w32 laid.y))
across_is_place l o laid x y at = subst IsPlace (sym (shift_across l o laid x y at)) (across_place l o x y)

-- the window's column
pub column_plain : (l : Line) (o laid : Point) (n : ℕ) (column : ℤ) → n < 1024 → IsPlace o.x → IsPlace o.y → laid ≡ laid_point l o → column ≡ pos n -ℤ to_z w32 (of_z w32 laid.x)
    → to_z w32 (of_z w32 column) ≡ pos n -ℤ along l o.x o.y
column_plain l o laid n column small x y at is = less_plain n (along l o.x o.y) column (omega (arith, small)) (along_place l o x y) (is ∙ (λ i. pos n -ℤ to_z w32 (of_z w32 (at i).x)))

pub column_near : (l : Line) (o laid : Point) (n : ℕ) (column : ℤ) → n < 1024 → IsPlace o.x → IsPlace o.y → laid ≡ laid_point l o → column ≡ pos n -ℤ to_z w32 (of_z w32 laid.x)
    → IsPixel (to_z w32 (of_z w32 column))
column_near l o laid n column small x y at is = subst IsPixel (sym (column_plain l o laid n column small x y at is)) (near (along l o.x o.y) (along_place l o x y)) where
  near : (k : ℤ) → IsPlace k → IsPixel (pos n -ℤ k)
  near k place = (omega (arith, ints, small, place.0, place.1), omega (arith, ints, small, place.0, place.1))

-- the line's row there
pub row_plain : (row r : ℤ) → IsWithin 8589934593 row → row ≡ r → to_z w64 (of_z w64 row) ≡ r
row_plain row r small is = to_z-of_z w64 row fits ∙ is where
  fits : FitsSigned w64 row
  fits = omega (arith, ints, small.0, small.1)

-- the row of a place is one of the clip's
pub among : (low high m : ℕ) (row : ℤ) → pos m ≡ row → low ≤ m → m < high → (int_le (pos low) row && int_lt row (pos high)) ≡ true
among low high m row is from until = sym (λ i. int_le (pos low) (is i) && int_lt (is i) (pos high)) ∙ (λ i. up i && down i) where
  up : int_le (pos low) (pos m) ≡ true
  up = grind (arith, ints, from)

  down : int_lt (pos m) (pos high) ≡ true
  down = grind (arith, ints, until)

-- the rectangle of a place lies where the clip does
pub placed_inside : (l : Line) (clip place : ClipRect) (n m width height : ℕ) → place ≡ placed l n m → IsInside clip width height → n < along l clip.x2 clip.y2 → m < across l clip.x2 clip.y2 → IsInside place width height
placed_inside l clip place n m width height there inside = subst (λ r. n < along l clip.x2 clip.y2 → m < across l clip.x2 clip.y2 → IsInside r width height) (sym there) (by l.x_major) where
  by : (k : Bool) → n < (if k then clip.x2 else clip.y2) → m < (if k then clip.y2 else clip.x2)
      → IsInside (record { x1 = if k then n else m; y1 = if k then m else n; x2 = (if k then n else m) + 1; y2 = (if k then m else n) + 1 }) width height
  by true u v = record { columns = omega arith; right = omega (arith, u, inside.right); rows = omega arith; bottom = omega (arith, v, inside.bottom) }
  by false u v = record { columns = omega arith; right = omega (arith, v, inside.right); rows = omega arith; bottom = omega (arith, u, inside.bottom) }

-- its corner in the window
pub corner_plain : (a : ℕ) (o result : ℤ) → a < 1024 → IsPlace o → result ≡ pos a -ℤ to_z w32 (of_z w32 o) → to_z w32 (of_z w32 result) ≡ pos a -ℤ o
corner_plain a o result small place is = less_plain a o result (omega (arith, small)) place is

pub corner_near : (a : ℕ) (o result : ℤ) → a < 1024 → IsPlace o → result ≡ pos a -ℤ to_z w32 (of_z w32 o) → IsWindowPixel (to_z w32 (of_z w32 result))
corner_near a o result small place is = subst IsWindowPixel (sym (corner_plain a o result small place is)) (omega (arith, ints, small, place.0, place.1), omega (arith, ints, small, place.0, place.1))

pub corner_small : (place : ClipRect) → IsInside place 1024 1024 → place.x2 ≡ place.x1 + 1 → place.y2 ≡ place.y1 + 1 → (place.x1 < 1024) × (place.y1 < 1024)
corner_small place inside wide high = (omega (arith, inside.right, wide), omega (arith, inside.bottom, high))

-- one place costs what it may
pub one_cost : (new old places : ℕ) (b : Bool) → b ≡ true → new ≤ old + 4 * places → places ≤ 1 → new ≤ old + 4 * (if b then 1 else 0)
one_cost new old places b has cost one = subst (λ k. new ≤ old + 4 * (if k then 1 else 0)) (sym has) (omega (arith, cost, one))
