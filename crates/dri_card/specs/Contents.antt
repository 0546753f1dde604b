-- What the card holds.
use Rattle.std.specs.Prelude.{ℕ, ◌≡◌, List, length, get_or, None}
use Rattle.dri_base.specs.declared.colour.Rgb.{Rgb}
use Rattle.dri_base.specs.declared.colour.Pixel.{Pixel}
use Rattle.dri_base.specs.declared.shape.ClipRect.{ClipRect}
use Rattle.dri_base.specs.declared.state.Registers.{Registers}
use Rattle.dri_base.specs.Planes.{plane}
use Rattle.dri_base.specs.Ranges.{heap_bytes}
use Rattle.dri_base.specs.declared.scene.Scene.{Scene}
use Rattle.dri_base.specs.States.{default_state}
use Rattle.dri_model.specs.Stacks.{ground_colour, top}
use Rattle.dri_model.specs.Words.{registers_for}
use Rattle.dri_plane.specs.Grids.{Grid, IsInside}
pub use Rattle.dri_plane.specs.Runs.{HoldPairs}

-- front, back and depth, all of the card's sides; the registers; the texture memory; and the clip
pub record Contents : Type 0 where
  pub front : Grid Rgb
  pub back : Grid Rgb
  pub depth : Grid ℕ
  pub registers : Registers
  pub memory : List ℕ
  pub clip : ClipRect

-- the three planes have these sides
pub record HaveSides (v : Contents) (width height : ℕ) : Type 0 where
  pub front_width : v.front.width ≡ width
  pub front_height : v.front.height ≡ height
  pub back_width : v.back.width ≡ width
  pub back_height : v.back.height ≡ height
  pub depth_width : v.depth.width ≡ width
  pub depth_height : v.depth.height ≡ height

-- the planes keep their sides
abbrev pub KeepSides : Contents → Contents → Type 0
KeepSides old new = (width height : ℕ) → HaveSides old width height → HaveSides new width height

-- the rectangle lies on the card
abbrev pub IsOnCard : ClipRect → Contents → Type 0
IsOnCard rect v = IsInside rect v.front.width v.front.height

-- front shows these colours
abbrev pub Shows : Contents → (ℕ → ℕ → Rgb) → Type 0
Shows v f = v.front.pixels ≡ plane v.front.width v.front.height f

-- back and depth hold these pairs
abbrev pub Holds : Contents → (ℕ → ℕ → Pixel) → Type 0
Holds v f = HoldPairs v.back v.depth f

-- byte a of the texture memory
abbrev pub memory_of : Contents → ℕ → ℕ
memory_of v a = get_or v.memory a 0

-- black, as deep as can be
abbrev pub blank : Pixel
blank = record { colour = record { r = 0; g = 0; b = 0 }; depth = 65535 }

-- the rectangle without a pixel, at the upper left corner
abbrev pub empty_clip : ClipRect
empty_clip = record { x1 = 0; y1 = 0; x2 = 0; y2 = 0 }

-- a scene's card before anything is drawn: in front the background of each pixel's topmost window, or the root colour
pub record IsOpening (scene : Scene) (v : Contents) : Type 0 where
  pub sides : HaveSides v scene.width scene.height
  pub shown : Shows v (λ x y. ground_colour scene.root (top scene.windows x y))
  pub held : Holds v (λ x y. blank)
  pub registers : v.registers ≡ registers_for default_state None
  pub memory : memory_of v ≡ (λ a. 0)
  pub bytes : length v.memory ≡ heap_bytes scene
  pub clip : v.clip ≡ empty_clip
