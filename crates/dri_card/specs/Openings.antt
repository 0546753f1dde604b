-- Windows on a screen.
use Rattle.std.specs.Prelude.{ℕ, ◌≡◌, ◌<◌, List}
use Rattle.dri_base.specs.declared.colour.Rgb.{Rgb}
use Rattle.dri_base.specs.declared.scene.Window.{Window}
use Rattle.dri_base.specs.declared.shape.ClipRect.{ClipRect}
use Rattle.dri_base.specs.Planes.{plane, in_rect}
use Rattle.dri_model.specs.Stacks.{ground_colour, window_has, top}
use Rattle.dri_plane.specs.Grids.{Grid}

-- the rectangle's places are those of the screen that the window has
abbrev pub IsCut : Window → ℕ → ℕ → ClipRect → Type 0
IsCut window width height rect = (a b : ℕ) → a < width → b < height → in_rect rect a b ≡ window_has window a b

-- each pixel has the background of its topmost window, or the root colour
abbrev pub ShowsStack : Rgb → List Window → Grid Rgb → Type 0
ShowsStack root windows front = front.pixels ≡ plane front.width front.height (λ x y. ground_colour root (top windows x y))
