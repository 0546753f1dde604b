-- What contracts see of a card that flips.
use Rattle.std.specs.Prelude.{ℕ, ◌≡◌, Bool, false}
use Rattle.dri_base.specs.declared.colour.Rgb.{Rgb}
use Rattle.dri_base.specs.declared.colour.Pixel.{Pixel}
use Rattle.dri_base.specs.declared.scene.Scene.{Scene}
use Rattle.dri_base.specs.declared.shape.ClipRect.{ClipRect}
use Rattle.dri_base.specs.Planes.{plane}
use Rattle.dri_card.specs.Contents.{blank}
use Rattle.dri_model.specs.Stacks.{ground_colour, top}
use Rattle.dri_plane.specs.Grids.{Grid, IsInside}
use Rattle.dri_plane.specs.Runs.{HoldPairs}

-- front, back and depth, all of the card's sides, and whether back owes a copy of front: then it has what front has
pub record Meaning : Type 0 where
  pub front : Grid Rgb
  pub back : Grid Rgb
  pub depth : Grid ℕ
  pub owed : Bool

-- the three planes have these sides
pub record HaveSides (v : Meaning) (width height : ℕ) : Type 0 where
  pub front_width : v.front.width ≡ width
  pub front_height : v.front.height ≡ height
  pub back_width : v.back.width ≡ width
  pub back_height : v.back.height ≡ height
  pub depth_width : v.depth.width ≡ width
  pub depth_height : v.depth.height ≡ height

-- the planes keep their sides
abbrev pub KeepSides : Meaning → Meaning → Type 0
KeepSides old new = (width height : ℕ) → HaveSides old width height → HaveSides new width height

-- the rectangle lies on the card
abbrev pub IsOnCard : Meaning → ClipRect → Type 0
IsOnCard v rect = IsInside rect v.front.width v.front.height

-- front shows these colours
abbrev pub Shows : Meaning → (ℕ → ℕ → Rgb) → Type 0
Shows v shown = v.front.pixels ≡ plane v.front.width v.front.height shown

-- back and depth hold these pairs
abbrev pub Holds : Meaning → (ℕ → ℕ → Pixel) → Type 0
Holds v f = HoldPairs v.back v.depth f

-- a card whose front shows these colours; back is black, depth as deep as can be, and nothing is owed
pub record IsFresh (width height : ℕ) (colours : ℕ → ℕ → Rgb) (v : Meaning) : Type 0 where
  pub sides : HaveSides v width height
  pub shown : Shows v colours
  pub held : Holds v (λ x y. blank)
  pub settled : v.owed ≡ false

-- a scene's card before anything is drawn: in front the background of each pixel's topmost window, or the root colour
abbrev pub IsOpening : Scene → Meaning → Type 0
IsOpening scene v = IsFresh scene.width scene.height (λ x y. ground_colour scene.root (top scene.windows x y)) v
