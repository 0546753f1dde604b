-- What the card's calls make of its pixels, over a list of rectangles.
use Rattle.std.specs.Prelude.{ℕ, ◌≡◌, ◌*◌, List, Bool, not, ◌&&◌, if◌then◌else◌, Option, Some, None, pos, ◌-ℤ◌}
use Rattle.dri_base.specs.declared.colour.Rgb.{Rgb}
use Rattle.dri_base.specs.declared.colour.Pixel.{Pixel}
use Rattle.dri_base.specs.declared.shape.ClipRect.{ClipRect}
use Rattle.dri_base.specs.declared.shape.Point.{Point}
use Rattle.dri_base.specs.declared.shape.Triangle.{Triangle}
use Rattle.dri_base.specs.declared.texture.Texture.{Texture}
use Rattle.dri_base.specs.Fragments.{Rules, fragment}
use Rattle.dri_base.specs.Texels.{Image}
use Rattle.dri_base.specs.Rectangles.{in_rects}
use Rattle.dri_flip.specs.Meanings.{Meaning}
use Rattle.dri_flip.specs.Places.{has_all, has_some}
use Rattle.dri_meaning.specs.Scripts.{HasTexels}

-- the rectangles have each place of the card
abbrev pub fill : Meaning → List ClipRect → Bool
fill v rects = has_all v.front.width v.front.height (in_rects rects)

-- the rectangles have a place of the card
abbrev pub touch : Meaning → List ClipRect → Bool
touch v rects = has_some v.front.width v.front.height (in_rects rects)

-- the pairs after the rectangles are cleared
abbrev pub cleared_in : List ClipRect → Rgb → ℕ → (ℕ → ℕ → Pixel) → ℕ → ℕ → Pixel
cleared_in rects colour depth f x y = if in_rects rects x y then record { colour = colour; depth = depth } else f x y

-- the pairs after a triangle is drawn once at each place of the rectangles; the window's pixel is the screen's less the origin
abbrev pub drawn_in : List ClipRect → Point → Rules → Option Image → Triangle → (ℕ → ℕ → Pixel) → ℕ → ℕ → Pixel
drawn_in rects origin rules image t f x y = if in_rects rects x y then fragment rules image t (pos x -ℤ origin.x) (pos y -ℤ origin.y) (f x y) else f x y

-- the colours in front after those of back come in the rectangles
abbrev pub swapped_in : List ClipRect → (ℕ → ℕ → Pixel) → (ℕ → ℕ → Rgb) → ℕ → ℕ → Rgb
swapped_in rects f shown x y = if in_rects rects x y then (f x y).colour else shown x y

-- an image, where there is one, has sides 1 to 256 and just the bytes of its shape
abbrev pub IsImage : Option Texture → Type 0
IsImage None = Unit {0}
IsImage (Some t) = HasTexels t

-- what is owed after a call that touches something or not
abbrev pub owed_after : Meaning → Bool → Bool
owed_after v touches = v.owed && not touches

-- the steps of the copy that is owed, two for each pixel of the card, where the call makes it
abbrev pub copy_steps : Meaning → Bool → ℕ
copy_steps v makes = if v.owed && makes then 2 * (v.front.width * v.front.height) else 0

-- nothing but back, depth and what is owed differs
abbrev pub OnlyDrawn : Meaning → Meaning → Type 0
OnlyDrawn old new = new ≡ record old { back = new.back; depth = new.depth; owed = new.owed }

-- nothing but front and what is owed differs
abbrev pub OnlyShown : Meaning → Meaning → Type 0
OnlyShown old new = new ≡ record old { front = new.front; owed = new.owed }
