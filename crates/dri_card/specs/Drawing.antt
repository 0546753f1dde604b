-- What the card's calls make of its pixels.
use Rattle.std.specs.Prelude.{ℕ, ◌≡◌, List, ◌∷◌, ◌++◌, All, fold, sum_by, if◌then◌else◌, ℤ, pos, neg_ℤ, ◌-ℤ◌, ◌≤ℤ◌}
use Rattle.dri_base.specs.Rectangles.{in_rects}
use Rattle.dri_base.specs.declared.colour.Rgb.{Rgb}
use Rattle.dri_base.specs.declared.colour.Pixel.{Pixel}
use Rattle.dri_base.specs.declared.shape.ClipRect.{ClipRect}
use Rattle.dri_base.specs.declared.shape.Point.{Point}
use Rattle.dri_base.specs.declared.shape.Triangle.{Triangle}
use Rattle.dri_base.specs.Fragments.{fragment}
use Rattle.dri_model.specs.CommandWords.{Buffer as IsBuffer}
use Rattle.dri_model.specs.Stacks.{carried, pixel_in}
use Rattle.dri_model.specs.WordFaults.{IsBadWord}
use Rattle.dri_model.specs.Words.{rules_in, card_image}
use Rattle.dri_base.specs.Planes.{in_rect}
use Rattle.dri_card.specs.declared.faults.DispatchFault.{DispatchFault}
use Rattle.dri_card.specs.declared.faults.DispatchFault.TheVariants.{BadWord}
use Rattle.dri_card.specs.declared.faults.OutsideCard.{OutsideCard}
use Rattle.dri_card.specs.declared.faults.OutsideCard.TheVariants.{Clip}
use Rattle.dri_plane.specs.Moves.{StaysInside}
use Rattle.dri_card.specs.Contents.{Contents, memory_of}
use Rattle.dri_walk.specs.Clips.{covered_places}

-- the pair that a triangle leaves at the window's pixel (x, y), by the card's registers and texture memory
abbrev pub drawn : Contents → Triangle → ℤ → ℤ → Pixel → Pixel
drawn v t x y under = fragment (rules_in v.registers) (card_image (memory_of v) v.registers.bound) t x y under

-- the pairs after a triangle, drawn in the clip of the card; the window's pixel is the screen's less the origin
abbrev pub after_triangle : Contents → Point → Triangle → (ℕ → ℕ → Pixel) → ℕ → ℕ → Pixel
after_triangle v origin t f x y = if in_rect v.clip x y then drawn v t (pos x -ℤ origin.x) (pos y -ℤ origin.y) (f x y) else f x y

-- the pairs after triangles, drawn so one after another
abbrev pub after_triangles : Contents → Point → List Triangle → (ℕ → ℕ → Pixel) → ℕ → ℕ → Pixel
after_triangles v origin ts f x y = if in_rect v.clip x y then fold (λ under t. drawn v t (pos x -ℤ origin.x) (pos y -ℤ origin.y) under) (f x y) ts else f x y

-- how many centres the triangles cover in the clip of the card, each triangle for itself
abbrev pub covered_centres : Contents → Point → List Triangle → ℕ
covered_centres v origin ts = sum_by (λ t. covered_places t v.clip origin) ts

-- the pairs after a rectangle is cleared
abbrev pub cleared : ClipRect → Rgb → ℕ → (ℕ → ℕ → Pixel) → ℕ → ℕ → Pixel
cleared rect colour depth f x y = if in_rect rect x y then record { colour = colour; depth = depth } else f x y

-- the colours in front after those of back come in a rectangle
abbrev pub swapped : ClipRect → (ℕ → ℕ → Pixel) → (ℕ → ℕ → Rgb) → ℕ → ℕ → Rgb
swapped rect f shown x y = if in_rect rect x y then (f x y).colour else shown x y

-- the colours in front after a rectangle is painted
abbrev pub painted : ClipRect → Rgb → (ℕ → ℕ → Rgb) → ℕ → ℕ → Rgb
painted rect colour shown x y = if in_rect rect x y then colour else shown x y

-- nothing but back and depth differs
abbrev pub OnlyDrawn : Contents → Contents → Type 0
OnlyDrawn old new = new ≡ record old { back = new.back; depth = new.depth }

-- nothing but front differs
abbrev pub OnlyShown : Contents → Contents → Type 0
OnlyShown old new = new ≡ record old { front = new.front }

-- command words that can't be drawn
abbrev pub IsDispatchFault : List ℕ → DispatchFault → Type 0
IsDispatchFault words (BadWord b) = IsBadWord IsBuffer words b.at b.word

-- a plane after the pixels of the rectangles are carried by (dx, dy): at the places that they come to, what stood where they come from
abbrev pub carried_by : {A : Type 0} → List ClipRect → ℤ → ℤ → (ℕ → ℕ → A) → ℕ → ℕ → A
carried_by rects dx dy f x y = carried (pixel_in (in_rects rects) (pos x -ℤ dx) (pos y -ℤ dy)) f (f x y)

-- how far pixels may be carried: from -2,048 to 2,048
abbrev pub IsCarry : ℤ → Type 0
IsCarry d = (neg_ℤ (pos 2048) ≤ℤ d) × (d ≤ℤ pos 2048)

-- the rectangle lies on the card, and so it does once it is moved by (dx, dy)
abbrev pub StaysOnCard : ℤ → ℤ → Contents → ClipRect → Type 0
StaysOnCard dx dy v rect = StaysInside dx dy v.front.width v.front.height rect

-- the first rectangle that doesn't stay on a screen with these sides is named
pub record IsFirstOut (dx dy : ℤ) (width height : ℕ) (rects : List ClipRect) (outside : OutsideCard) : Type 0 where
  pub before : List ClipRect
  pub rect : ClipRect
  pub after : List ClipRect
  pub listed : rects ≡ before ++ rect ∷ after
  pub stay : All (StaysInside dx dy width height) before
  pub off : StaysInside dx dy width height rect → ⊥
  pub named : outside ≡ Clip rect

-- and on the card
abbrev pub IsFirstOff : ℤ → ℤ → Contents → List ClipRect → OutsideCard → Type 0
IsFirstOff dx dy v rects outside = IsFirstOut dx dy v.front.width v.front.height rects outside

-- nothing but front, back and depth differs
abbrev pub OnlyCarried : Contents → Contents → Type 0
OnlyCarried old new = new ≡ record old { front = new.front; back = new.back; depth = new.depth }
