-- What the registers of a state and its image draw.
use Rattle.std.proofs.Common.{◌≡◌, ℕ, ◌+◌, ◌<◌, ◌≤◌, List, Bool, true, false, if◌then◌else◌, Option, Some, None, ℤ, pos, ◌-ℤ◌, refl, ◌∙◌, ap, arith}
use Rattle.std.specs.Prelude.{◌<ℤ◌}
use Rattle.std.proofs.lemmas.Int.{ints}
use Rattle.dri_base.specs.declared.colour.Rgb.{Rgb}
use Rattle.dri_base.specs.declared.colour.Pixel.{Pixel}
use Rattle.dri_base.specs.declared.shape.Point.{Point}
use Rattle.dri_base.specs.declared.shape.Triangle.{Triangle}
use Rattle.dri_base.specs.declared.texture.BoundTexture.{BoundTexture}
use Rattle.dri_base.specs.declared.texture.Texture.{Texture}
use Rattle.dri_base.specs.Fragments.{Rules, fragment}
use Rattle.dri_base.specs.Ranges.{IsPlace}
use Rattle.dri_base.specs.Scenes.{bytes_of}
use Rattle.dri_base.specs.Texels.{Image, given_image}
use Rattle.dri_base.specs.Rectangles.{in_rects}
use Rattle.dri_meaning.specs.Canvases.{bound_first}
use Rattle.dri_model.specs.Words.{card_image}
use Rattle.dri_plane.specs.Grids.{ClipRect, Grid}
use Rattle.dri_plane.specs.Runs.{HoldPairs}
use Rattle.dri_walk.specs.Samplings.{byte_in}
use Rattle.dri_flip.specs.Calls.{drawn_in}
use Rattle.dri_flip.specs.Scissors.{DrawAlike}
use Rattle.dri_flip.proofs.Pixels.{pairs_within}

zero_first : (n : ℕ) → 0 + n ≡ n
zero_first n = omega arith

-- the image that begins a memory of its own bytes
pub image_alone : (texture : Option Texture) → card_image (byte_in (bytes_of texture)) (bound_first texture) ≡ given_image texture
image_alone None = refl
image_alone (Some t) = λ i. Some (record { shape = t.shape; byte = λ n. byte_in t.bytes (zero_first n i) })

-- a triangle is drawn alike
fragment_alike : (r s : Rules) (image : Option Image) (t : Triangle) (x y : ℤ) (under : Pixel) → DrawAlike r s → x <ℤ pos 2048 → y <ℤ pos 2048 → fragment r image t x y under ≡ fragment s image t x y under
fragment_alike r s image t x y under alike lx ly = ap (λ (q : Rules). fragment q image t x y under) alike.others ∙ rw (alike.scissors x y lx ly) refl

-- a place of the screen is near the window's corner
near : (a : ℕ) (corner : ℤ) → a < 1024 → IsPlace corner → (pos a -ℤ corner) <ℤ pos 2048
near a corner below place = let low = place.0 in omega (arith, ints, below, low)

-- so it is over some rectangles of two planes
pub drawn_alike : (back : Grid Rgb) (depth : Grid ℕ) (rects : List ClipRect) (origin : Point) (r s : Rules) (image : Option Image) (texture : Option Texture) (t : Triangle) (f : ℕ → ℕ → Pixel)
    → depth.width ≡ back.width → depth.height ≡ back.height → back.width ≤ 1024 → back.height ≤ 1024 → IsPlace origin.x → IsPlace origin.y → DrawAlike r s → image ≡ given_image texture
    → HoldPairs back depth (drawn_in rects origin r image t f) → HoldPairs back depth (drawn_in rects origin s (given_image texture) t f)
drawn_alike back depth rects origin r s image texture t f wide high columns rows px py alike same = pairs_within back depth _ _ wide high (λ x y lx ly. by x y lx ly (in_rects rects x y))
  where
    by : (x y : ℕ) → x < back.width → y < back.height → (b : Bool)
        → (if b then fragment r image t (pos x -ℤ origin.x) (pos y -ℤ origin.y) (f x y) else f x y) ≡ (if b then fragment s (given_image texture) t (pos x -ℤ origin.x) (pos y -ℤ origin.y) (f x y) else f x y)
    by x y lx ly false = refl
    by x y lx ly true = fragment_alike r s image t (pos x -ℤ origin.x) (pos y -ℤ origin.y) (f x y) alike (near x origin.x (omega arith) px) (near y origin.y (omega arith) py)
        ∙ ap (λ (o : Option Image). fragment s o t (pos x -ℤ origin.x) (pos y -ℤ origin.y) (f x y)) same

-- the bound image, in a memory that is its own bytes
pub bound_image : (texture : Option Texture) (bound : Option BoundTexture) (memory : List ℕ) → bound ≡ bound_first texture → memory ≡ bytes_of texture → card_image (byte_in memory) bound ≡ given_image texture
bound_image texture bound memory is bytes = rw (is, bytes) (image_alone texture)
