-- The pixels of a list of rectangles, and the one list that a set of pixels has.
use Rattle.std.specs.Prelude.{ℤ, pos, neg_ℤ, List, [], ◌∷◌, ◌≡◌, ◌<ℤ◌, ◌≤ℤ◌, ◌+ℤ◌, ◌-ℤ◌, ◌⊎◌, Bool, true, false, ◌&&◌, ◌||◌, int_lt, int_le, map}
use Rattle.std.specs.List.{AllByRecursion}
use Rattle.dri_base.specs.declared.shape.Rect.{Rect}

-- the rectangle has the column x
abbrev pub in_columns : Rect → ℤ → Bool
in_columns r x = int_le r.x1 x && int_lt x r.x2

-- the rectangle has the line y
abbrev pub in_lines : Rect → ℤ → Bool
in_lines r y = int_le r.y1 y && int_lt y r.y2

-- the rectangle has the pixel (x, y)
abbrev pub has_pixel : Rect → ℤ → ℤ → Bool
has_pixel r x y = in_lines r y && in_columns r x

-- one of the rectangles has the pixel (x, y)
abbrev pub inside : List Rect → ℤ → ℤ → Bool
inside [] x y = false
inside (r ∷ rs) x y = has_pixel r x y || inside rs x y

-- two lists have the same pixels
abbrev pub SamePixels : List Rect → List Rect → Type 0
SamePixels rs ts = (x y : ℤ) → inside rs x y ≡ inside ts x y

-- the least coordinate
abbrev pub least : ℤ
least = neg_ℤ (pos 4096)

-- the greatest coordinate
abbrev pub most : ℤ
most = pos 4096

-- the four numbers of the rectangle are in range
pub record IsInRange (r : Rect) : Type 0 where
  pub left : (least ≤ℤ r.x1) × (r.x1 ≤ℤ most)
  pub top : (least ≤ℤ r.y1) × (r.y1 ≤ℤ most)
  pub right : (least ≤ℤ r.x2) × (r.x2 ≤ℤ most)
  pub bottom : (least ≤ℤ r.y2) × (r.y2 ≤ℤ most)

-- the rectangle has a pixel
pub record IsProper (r : Rect) : Type 0 where
  pub across : r.x1 <ℤ r.x2
  pub down : r.y1 <ℤ r.y2

-- s is in r's band, to the right of r and apart from it, or in a lower band
abbrev pub Follows : Rect → Rect → Type 0
Follows r s = ((s.y1 ≡ r.y1) × (s.y2 ≡ r.y2) × (r.x2 <ℤ s.x1)) ⊎ (r.y2 ≤ℤ s.y1)

-- bands from top to bottom; in a band rectangles from left to right that don't touch
abbrev pub IsBanded : List Rect → Type 0
IsBanded [] = Unit {0}
IsBanded (r ∷ rs) = IsProper r × AllByRecursion (Follows r) rs × IsBanded rs

-- r is one of the rectangles
abbrev pub In : Rect → List Rect → Type 0
In r [] = ⊥
In r (s ∷ ss) = (r ≡ s) ⊎ In r ss

-- the lines y and z have the same pixels
abbrev pub SameLine : List Rect → ℤ → ℤ → Type 0
SameLine rs y z = (x : ℤ) → inside rs x y ≡ inside rs x z

-- the line above the rectangle differs from the rectangle's first line: its band couldn't begin higher
abbrev pub IsTopped : List Rect → Rect → Type 0
IsTopped rs r = SameLine rs (r.y1 -ℤ pos 1) r.y1 → ⊥

-- in bands, and no two bands that touch are equal
pub record IsCanonical (rs : List Rect) : Type 0 where
  pub banded : IsBanded rs
  pub topped : (r : Rect) → In r rs → IsTopped rs r

-- s begins on a lower line than r, or on the same line to the right of it
abbrev pub ComesBefore : Rect → Rect → Type 0
ComesBefore r s = (r.y1 <ℤ s.y1) ⊎ ((r.y1 ≡ s.y1) × (r.x1 <ℤ s.x1))

-- no pixel is in both
abbrev pub IsApart : Rect → Rect → Type 0
IsApart r s = (x y : ℤ) → (has_pixel r x y && has_pixel s x y) ≡ false

-- the rectangle, moved by dx to the right and dy down
abbrev pub shift : ℤ → ℤ → Rect → Rect
shift dx dy r = record { x1 = r.x1 +ℤ dx; y1 = r.y1 +ℤ dy; x2 = r.x2 +ℤ dx; y2 = r.y2 +ℤ dy }

-- each rectangle, moved
abbrev pub moved : ℤ → ℤ → List Rect → List Rect
moved dx dy rs = map (shift dx dy) rs

-- a region may have the pixel
abbrev pub IsPixel : ℤ → ℤ → Type 0
IsPixel x y = (least ≤ℤ x) × (x <ℤ most) × (least ≤ℤ y) × (y <ℤ most)

-- each pixel of the set, moved, is one that a region may have
abbrev pub StaysInRange : ℤ → ℤ → List Rect → Type 0
StaysInRange dx dy rs = (x y : ℤ) → inside rs x y ≡ true → IsPixel (x +ℤ dx) (y +ℤ dy)
