-- A region as it is kept: a rectangle that holds its pixels, and the list of its rectangles where that isn't the rectangle alone.
use Rattle.std.specs.Prelude.{ℤ, List, [], ◌∷◌, ◌≡◌, ◌<ℤ◌, Bool, true, ◌&&◌, ◌||◌, int_le, int_lt, if◌then◌else◌}
use Rattle.dri_base.specs.declared.shape.Rect.{Rect}
use Rattle.dri_rect.specs.Pixels.{has_pixel, inside}
use Rattle.dri_rect.specs.Walk.{Fits, IsRegion, lesser_of, greater_of, rectangle}

-- the rectangle of the pixels that two rectangles share
abbrev pub shared_by : Rect → Rect → Rect
shared_by a b = rectangle (greater_of a.x1 b.x1) (greater_of a.y1 b.y1) (lesser_of a.x2 b.x2) (lesser_of a.y2 b.y2)

-- a rectangle that holds two rectangles
abbrev pub hull_of : Rect → Rect → Rect
hull_of a b = rectangle (lesser_of a.x1 b.x1) (lesser_of a.y1 b.y1) (greater_of a.x2 b.x2) (greater_of a.y2 b.y2)

-- whether a rectangle reaches as far as another on each side
abbrev pub reaches_round : Rect → Rect → Bool
reaches_round a b = (int_le a.y1 b.y1 && int_le b.y2 a.y2) && (int_le a.x1 b.x1 && int_le b.x2 a.x2)

-- whether the rectangle has no pixel
abbrev pub is_nowhere : Rect → Bool
is_nowhere r = int_le r.x2 r.x1 || int_le r.y2 r.y1

-- the list that is kept as a rectangle and a list: the list, or where that is empty the rectangle alone, if it has a column
abbrev pub listed : Rect → List Rect → List Rect
listed bounds [] = if int_lt bounds.x1 bounds.x2 then (bounds ∷ []) else []
listed bounds (r ∷ rs) = r ∷ rs

-- the rectangle has all these pixels
abbrev pub Holds : Rect → List Rect → Type 0
Holds bounds rs = (x y : ℤ) → inside rs x y ≡ true → has_pixel bounds x y ≡ true

-- each pixel of the second set is in the first
abbrev pub Includes : List Rect → List Rect → Type 0
Includes rs ss = (x y : ℤ) → inside ss x y ≡ true → inside rs x y ≡ true

-- if the rectangle has a pixel, it lies within the range
abbrev pub FitsIfProper : Rect → Type 0
FitsIfProper r = r.x1 <ℤ r.x2 → r.y1 <ℤ r.y2 → Fits r

-- what is kept of each region
pub record IsKept (bounds : Rect) (rs : List Rect) : Type 0 where
  pub region : IsRegion (listed bounds rs)
  pub holds : Holds bounds (listed bounds rs)
