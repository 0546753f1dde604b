-- What is drawn in a list of rectangles on the card's screen.
use Rattle.std.specs.Prelude.{◌≡◌, ◌≤◌, ◌-ℤ◌, ℕ, ℤ, pos, negsuc, List, Bool, true, false, ◌&&◌, nat_lt, if◌then◌else◌}
use Rattle.dri_base.specs.declared.colour.Pixel.{Pixel}
use Rattle.dri_base.specs.declared.colour.Rgb.{Rgb}
use Rattle.dri_base.specs.declared.shape.Point.{Point}
use Rattle.dri_base.specs.declared.shape.Rect.{Rect}
use Rattle.dri_base.specs.declared.shape.Triangle.{Triangle}
use Rattle.dri_card.specs.Contents.{Contents, HaveSides}
use Rattle.dri_card.specs.Drawing.{drawn}
use Rattle.dri_rect.specs.Pixels.{inside}

-- a set of screen pixels has the place, which may lie anywhere
abbrev pub has_place : (ℕ → ℕ → Bool) → ℤ → ℤ → Bool
has_place set (pos x) (pos y) = set x y
has_place set (pos x) (negsuc y) = false
has_place set (negsuc x) y = false

-- the card's planes have the same sides, of at most 1,024
pub record IsScreen (v : Contents) : Type 0 where
  pub sides : HaveSides v v.front.width v.front.height
  pub wide : v.front.width ≤ 1024
  pub high : v.front.height ≤ 1024

-- the card has the pixel
abbrev pub on_card : Contents → ℕ → ℕ → Bool
on_card v x y = nat_lt x v.front.width && nat_lt y v.front.height

-- each pixel of the rectangles is one of the card
abbrev pub StayOn : Contents → List Rect → Type 0
StayOn v rects = (x y : ℤ) → inside rects x y ≡ true → has_place (on_card v) x y ≡ true

-- one of the rectangles has the pixel of the screen
abbrev pub in_clips : List Rect → ℕ → ℕ → Bool
in_clips rects x y = inside rects (pos x) (pos y)

-- the pairs after the rectangles are cleared
abbrev pub cleared_in : List Rect → Rgb → ℕ → (ℕ → ℕ → Pixel) → ℕ → ℕ → Pixel
cleared_in rects colour depth f x y = if in_clips rects x y then record { colour = colour; depth = depth } else f x y

-- the colours in front after those of back come in the rectangles
abbrev pub swapped_in : List Rect → (ℕ → ℕ → Pixel) → (ℕ → ℕ → Rgb) → ℕ → ℕ → Rgb
swapped_in rects f shown x y = if in_clips rects x y then (f x y).colour else shown x y

-- the pairs after a triangle is drawn once at each pixel of the rectangles, by the card's registers and texture memory
abbrev pub drawn_in : Contents → Point → Triangle → List Rect → (ℕ → ℕ → Pixel) → ℕ → ℕ → Pixel
drawn_in v origin t rects f x y = if in_clips rects x y then drawn v t (pos x -ℤ origin.x) (pos y -ℤ origin.y) (f x y) else f x y

-- nothing but back, depth and the clip differs
abbrev pub OnlyDrawnOn : Contents → Contents → Type 0
OnlyDrawnOn old new = new ≡ record old { back = new.back; depth = new.depth; clip = new.clip }
