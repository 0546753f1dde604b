-- What the walks over two rows, and over the bands of two regions, keep and answer.
use Rattle.std.specs.Prelude.{ℤ, pos, List, [], ◌∷◌, ◌++◌, ◌≡◌, ◌≢◌, ◌<ℤ◌, ◌≤ℤ◌, ◌-ℤ◌, ◌⊎◌, ℕ, ◌+◌, ◌<◌, length, take, drop, Bool, true, false, ◌&&◌, ◌||◌, not, map, int_le, int_lt, if◌then◌else◌}
use Rattle.std.specs.Ordering.{int_eq}
use Rattle.std.specs.List.{AllByRecursion}
use Rattle.dri_base.specs.declared.shape.Rect.{Rect}
use Rattle.dri_rect.specs.declared.operation.Operation.{Operation}
use Rattle.dri_rect.specs.declared.operation.Operation.TheVariants.{Unite, Subtract, Intersect}
use Rattle.dri_rect.specs.Pixels.{In, least, most, in_columns, inside, shift, IsBanded, IsCanonical, IsProper}

-- whether a pixel is in the answer, by whether it is in the two sets
abbrev pub answer : Operation → Bool → Bool → Bool
answer Unite a b = a || b
answer Subtract a b = a && not b
answer Intersect a b = a && b

-- one of the rectangles has the column x; their lines are not looked at
abbrev pub row : List Rect → ℤ → Bool
row [] x = false
row (r ∷ rs) x = in_columns r x || row rs x

-- the rectangle, if it has a pixel, lies within the range
pub record Fits (r : Rect) : Type 0 where
  pub left : least ≤ℤ r.x1
  pub right : r.x2 ≤ℤ most
  pub top : least ≤ℤ r.y1
  pub bottom : r.y2 ≤ℤ most

-- rectangles from left to right that don't touch
abbrev pub Apart : List Rect → Type 0
Apart [] = Unit {0}
Apart (r ∷ rs) = (r.x1 <ℤ r.x2) × AllByRecursion (λ s. r.x2 <ℤ s.x1) rs × Apart rs

-- the rectangle, if it has a column, lies within the range across
pub record FitsAcross (r : Rect) : Type 0 where
  pub left : least ≤ℤ r.x1
  pub right : r.x2 ≤ℤ most

-- rectangles from left to right that do not touch; their lines are not looked at
pub record IsRow (rs : List Rect) : Type 0 where
  pub apart : Apart rs
  pub fits : AllByRecursion FitsAcross rs

-- where there is a rectangle, x is in range
abbrev pub Bounded : List Rect → ℤ → Type 0
Bounded [] x = Unit {0}
Bounded (r ∷ rs) x = x ≤ℤ most

-- c is the lesser of a and b
pub record IsLesser (a b c : ℤ) : Type 0 where
  pub first : c ≤ℤ a
  pub second : c ≤ℤ b
  pub one : (c ≡ a) ⊎ (c ≡ b)

-- a rectangle by its four numbers
abbrev pub rectangle : ℤ → ℤ → ℤ → ℤ → Rect
rectangle x1 y1 x2 y2 = record { x1 = x1; y1 = y1; x2 = x2; y2 = y2 }

-- the lesser and the greater of two numbers
abbrev pub lesser_of : ℤ → ℤ → ℤ
lesser_of a b = if int_lt a b then a else b

abbrev pub greater_of : ℤ → ℤ → ℤ
greater_of a b = if int_lt a b then b else a

-- the columns from x1 up to, and without, x2, if there are any
abbrev pub columns : ℤ → ℤ → List Rect
columns x1 x2 = if int_lt x1 x2 then (rectangle x1 (pos 0) x2 (pos 1) ∷ []) else []

-- what is written with these columns put last
abbrev pub put : List Rect → ℤ → ℤ → ℤ → ℤ → List Rect
put out top bottom x1 x2 = if int_lt x1 x2 then (out ++ (rectangle x1 top x2 bottom ∷ [])) else out

-- the row between two lines
abbrev pub placed : ℤ → ℤ → List Rect → List Rect
placed top bottom rs = map (λ r. rectangle r.x1 top r.x2 bottom) rs

-- a row is written behind what was there
pub record Added (old out : List Rect) (top bottom : ℤ) (S : ℤ → Bool) : Type 0 where
  pub fresh : List Rect
  pub items : out ≡ old ++ placed top bottom fresh
  pub is_row : IsRow fresh
  pub right : (z : ℤ) → row fresh z ≡ S z

-- the rectangles begin at x or behind it
abbrev pub From : List Rect → ℤ → Type 0
From rs x = AllByRecursion (λ r. x ≤ℤ r.x1) rs

-- the columns from x1 up to, and without, x2 are those of the rectangle that begins first in two rows, of which these stay
pub record IsPicked (rs ss : List Rect) (x1 x2 : ℤ) (rs' ss' : List Rect) : Type 0 where
  pub longer : x1 <ℤ x2
  pub low : least ≤ℤ x1
  pub high : x2 ≤ℤ most
  pub begins : (n : ℤ) → From rs n → From ss n → n ≤ℤ x1
  pub first_row : IsRow rs'
  pub second_row : IsRow ss'
  pub first_from : From rs' x1
  pub second_from : From ss' x1
  pub fewer : length rs' + length ss' < length rs + length ss
  pub same : (z : ℤ) → (row rs z || row ss z) ≡ ((int_le x1 z && int_lt z x2) || (row rs' z || row ss' z))

-- what is written where the columns from a to b are open, and some come that begin at x1, which is a or behind it
abbrev pub widened : List Rect → ℤ → ℤ → ℤ → ℤ → ℤ → List Rect
widened out top bottom a b x1 = if int_le x1 b then out else put out top bottom a b

-- where the columns begin, and end, that are open from then on
abbrev pub wide_from : ℤ → ℤ → ℤ → ℤ
wide_from a b x1 = if int_le x1 b then a else x1

abbrev pub wide_to : ℤ → ℤ → ℤ → ℤ
wide_to b x1 x2 = if int_le x1 b then greater_of b x2 else x2

-- what the union of two rows keeps: what is written, the columns from a to b that are open, and what is left of both
pub record Uniting (one other first second old out : List Rect) (top bottom a b : ℤ) : Type 0 where
  pub fresh : List Rect
  pub items : out ≡ old ++ placed top bottom fresh
  pub is_row : IsRow fresh
  pub before : AllByRecursion (λ r. r.x2 <ℤ a) fresh
  pub order : a ≤ℤ b
  pub low : least ≤ℤ a
  pub high : b ≤ℤ most
  pub first_row : IsRow first
  pub second_row : IsRow second
  pub first_from : From first a
  pub second_from : From second a
  pub right : (z : ℤ) → ((row fresh z || (int_le a z && int_lt z b)) || (row first z || row second z)) ≡ (row one z || row other z)

-- the rectangles begin behind z
abbrev pub Beyond : List Rect → ℤ → Type 0
Beyond rs z = AllByRecursion (λ r. z <ℤ r.x1) rs

-- what the difference of two rows keeps: what is written, the column x before which nothing more comes, and what is left of both
pub record Subtracting (one other first second old out : List Rect) (top bottom x : ℤ) : Type 0 where
  pub fresh : List Rect
  pub items : out ≡ old ++ placed top bottom fresh
  pub is_row : IsRow fresh
  pub before : AllByRecursion (λ r. (r.x2 <ℤ x) ⊎ Beyond first r.x2) fresh
  pub low : least ≤ℤ x
  pub first_row : IsRow first
  pub second_row : IsRow second
  pub reach : AllByRecursion (λ s. x ≤ℤ s.x2) second
  pub right : (z : ℤ) → (row fresh z || ((int_le x z && row first z) && not (row second z))) ≡ (row one z && not (row other z))

-- what the intersection of two rows keeps: what is written, and what is left of both
pub record Intersecting (one other first second old out : List Rect) (top bottom : ℤ) : Type 0 where
  pub fresh : List Rect
  pub items : out ≡ old ++ placed top bottom fresh
  pub is_row : IsRow fresh
  pub before : AllByRecursion (λ r. Beyond first r.x2 ⊎ Beyond second r.x2) fresh
  pub first_row : IsRow first
  pub second_row : IsRow second
  pub right : (z : ℤ) → (row fresh z || (row first z && row second z)) ≡ (row one z && row other z)

-- the row that the operation makes of two rows
pub record IsCombined (op : Operation) (a b out : List Rect) : Type 0 where
  pub is_row : IsRow out
  pub right : (z : ℤ) → row out z ≡ answer op (row a z) (row b z)

-- nothing is left of both
abbrev pub both_empty : List Rect → List Rect → Bool
both_empty [] [] = true
both_empty [] (s ∷ ss) = false
both_empty (r ∷ rs) ss = false

-- nothing more can come of what is left of both
abbrev pub is_done : Operation → List Rect → List Rect → Bool
is_done Unite rs ss = both_empty rs ss
is_done Subtract [] ss = true
is_done Subtract (r ∷ rs) ss = false
is_done Intersect [] ss = true
is_done Intersect (r ∷ rs) [] = true
is_done Intersect (r ∷ rs) (s ∷ ss) = false

-- the first rectangle begins on this line
abbrev pub begins : List Rect → ℤ → Bool
begins [] top = false
begins (r ∷ rs) top = int_eq r.y1 top

-- the first rectangle begins on another line
abbrev pub Ends : List Rect → ℤ → Type 0
Ends [] top = Unit {0}
Ends (r ∷ rs) top = r.y1 ≢ top

-- xs is the prefix of rs with this first line
pub record Split (rs xs ys : List Rect) (top : ℤ) : Type 0 where
  pub whole : rs ≡ xs ++ ys
  pub band : AllByRecursion (λ r. r.y1 ≡ top) xs
  pub rest : Ends ys top

-- the first rectangle ends below line y
abbrev pub AheadDown : List Rect → ℤ → Type 0
AheadDown [] y = Unit {0}
AheadDown (r ∷ rs) y = y <ℤ r.y2

-- it doesn't end above line y
abbrev pub ReachesDown : List Rect → ℤ → Type 0
ReachesDown [] y = Unit {0}
ReachesDown (r ∷ rs) y = y ≤ℤ r.y2

-- bands within the range; two that touch may be equal
pub record IsBands (rs : List Rect) : Type 0 where
  pub banded : IsBanded rs
  pub range : AllByRecursion Fits rs

-- the first rectangles begin on one line, and what is below on another; where there is no first, nothing is below
abbrev pub CutsBand : List Rect → List Rect → Type 0
CutsBand [] below = below ≡ []
CutsBand (r ∷ rs) below = AllByRecursion (λ s. s.y1 ≡ r.y1) (r ∷ rs) × Ends below r.y1

-- the bands, cut below the first one
pub record IsCut (rs first below : List Rect) : Type 0 where
  pub whole : rs ≡ first ++ below
  pub cuts : CutsBand first below

-- rectangles between the same two lines
abbrev pub IsLevel : List Rect → Type 0
IsLevel [] = Unit {0}
IsLevel (r ∷ rs) = AllByRecursion (λ s. (s.y1 ≡ r.y1) × (s.y2 ≡ r.y2)) rs

-- from the line y up to, and without, the end each line is this row
pub record StretchDown (rs : List Rect) (y : ℤ) (band : List Rect) (end : ℤ) : Type 0 where
  pub longer : y <ℤ end
  pub steady : (x z : ℤ) → y ≤ℤ z → z <ℤ end → inside rs x z ≡ row band x
  pub reaches : ReachesDown rs end
  pub bounded : Bounded rs end
  pub is_row : IsRow band
  pub level : IsLevel band

-- from the line y on the bands ts are the bands rs
pub record LaterDown (rs ts : List Rect) (y : ℤ) : Type 0 where
  pub is_bands : IsBands ts
  pub ahead : AheadDown ts y
  pub same : (x z : ℤ) → y ≤ℤ z → inside rs x z ≡ inside ts x z
  pub part : (r : Rect) → In r ts → In r rs

-- no rectangle has a line above y, which is in range
pub record IsTop (rs : List Rect) (y : ℤ) : Type 0 where
  pub low : least ≤ℤ y
  pub high : y ≤ℤ most
  pub above : (x z : ℤ) → z <ℤ y → inside rs x z ≡ false

-- nothing of the answer is above line y, which is in range
pub record IsStart (op : Operation) (a b : List Rect) (y : ℤ) : Type 0 where
  pub low : least ≤ℤ y
  pub high : y ≤ℤ most
  pub nothing : (x z : ℤ) → z <ℤ y → answer op (inside a x z) (inside b x z) ≡ false

-- ts is rs without some bands that end above line y
pub record Skipped (rs ts : List Rect) (y : ℤ) : Type 0 where
  pub is_bands : IsBands ts
  pub same : (x z : ℤ) → y ≤ℤ z → inside rs x z ≡ inside ts x z
  pub part : (r : Rect) → In r ts → In r rs

-- the first rectangle begins below line y
abbrev pub Under : List Rect → ℤ → Type 0
Under [] y = Unit {0}
Under (r ∷ rs) y = y <ℤ r.y1

-- one of the two is over, and the other, which begins below line y, is the rest
abbrev pub IsRest : List Rect → List Rect → List Rect → ℤ → Type 0
IsRest rs ss rest y = ((ss ≡ []) × (rest ≡ rs) × Under rs y) ⊎ ((rs ≡ []) × (rest ≡ ss) × Under ss y)

-- two rows have the same columns
abbrev pub same_columns : List Rect → List Rect → Bool
same_columns [] [] = true
same_columns [] (s ∷ ss) = false
same_columns (r ∷ rs) [] = false
same_columns (r ∷ rs) (s ∷ ss) = int_eq r.x1 s.x1 && (int_eq r.x2 s.x2 && same_columns rs ss)

-- what is written when a row comes at line y: the open row, if the row that comes has other columns
abbrev pub settled : List Rect → List Rect → List Rect → ℤ → ℤ → List Rect
settled out pending fresh top y = if same_columns pending fresh then out else (out ++ placed top y pending)

-- the row that is open from then on
abbrev pub settled_row : List Rect → List Rect → List Rect
settled_row pending fresh = if same_columns pending fresh then pending else fresh

-- the line on which it begins
abbrev pub settled_top : List Rect → List Rect → ℤ → ℤ → ℤ
settled_top pending fresh top y = if same_columns pending fresh then top else y

-- what is built of the picture S above the line y: the rectangles that are done, and the row that is begun since top
pub record Built (out pending : List Rect) (top y : ℤ) (S : ℤ → ℤ → Bool) : Type 0 where
  pub canonical : IsCanonical out
  pub range : AllByRecursion Fits out
  pub is_row : IsRow pending
  pub above : AllByRecursion (λ r. r.y2 ≤ℤ top) out
  pub low : (pending ≡ []) ⊎ (least ≤ℤ top)
  pub order : top <ℤ y
  pub right : (x z : ℤ) → z <ℤ y → (inside out x z || (int_le top z && row pending x)) ≡ S x z
  pub differs : ((x : ℤ) → inside out x (top -ℤ pos 1) ≡ row pending x) → pending ≡ []

-- what the walk down two regions keeps
pub record BandWalk (op : Operation) (a b first second out pending : List Rect) (top y : ℤ) : Type 0 where
  pub on_first : LaterDown a first y
  pub on_second : LaterDown b second y
  pub built : Built out pending top y (λ x z. answer op (inside a x z) (inside b x z))
  pub low : least ≤ℤ y
  pub high : y ≤ℤ most

-- the same in one list, where the open row stands last, from a place on, and ends at y so far
pub record Placing (op : Operation) (a b first second items : List Rect) (start : ℕ) (y : ℤ) : Type 0 where
  pub out : List Rect
  pub pending : List Rect
  pub top : ℤ
  pub whole : items ≡ out ++ placed top y pending
  pub place : start ≡ length out
  pub walk : BandWalk op a b first second out pending top y

-- the row with another last line
abbrev pub lowered : ℤ → List Rect → List Rect
lowered bottom rs = map (λ r. rectangle r.x1 r.y1 r.x2 bottom) rs

-- the rows from start on get another last line: those before place i have it
pub record Lowering (old now : List Rect) (start i : ℕ) (bottom : ℤ) : Type 0 where
  pub prefix : List Rect
  pub done : List Rect
  pub rest : List Rect
  pub whole : old ≡ prefix ++ (done ++ rest)
  pub items : now ≡ (prefix ++ lowered bottom done) ++ rest
  pub begins : length prefix ≡ start
  pub place : i ≡ start + length done

-- the last two rows begin at start and at fresh: what they become, and where the last row begins then
abbrev pub joined : List Rect → ℕ → ℕ → ℤ → List Rect
joined out start fresh bottom = if same_columns (drop start (take fresh out)) (drop fresh out) then (take start (take fresh out) ++ lowered bottom (drop start (take fresh out))) else out

abbrev pub joined_start : List Rect → ℕ → ℕ → ℕ
joined_start out start fresh = if same_columns (drop start (take fresh out)) (drop fresh out) then start else fresh

-- the set operation, in the one list that it has
pub record IsAnswer (op : Operation) (a b out : List Rect) : Type 0 where
  pub canonical : IsCanonical out
  pub range : AllByRecursion Fits out
  pub right : (x y : ℤ) → inside out x y ≡ answer op (inside a x y) (inside b x y)

-- what each region's list is
pub record IsRegion (rs : List Rect) : Type 0 where
  pub canonical : IsCanonical rs
  pub range : AllByRecursion Fits rs

-- a rectangle that stays in range
pub record Movable (dx dy : ℤ) (r : Rect) : Type 0 where
  pub size : IsProper r
  pub range : Fits (shift dx dy r)
