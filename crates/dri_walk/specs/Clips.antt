-- Rectangles of the screen in a window's coordinates, and what is cut from them.
use Rattle.std.specs.Prelude.{ℕ, ◌≡◌, pos, ◌-ℤ◌, ◌&&◌, Option, length}
use Rattle.std.specs.List.{filter}
use Rattle.dri_base.specs.declared.shape.ClipRect.{ClipRect}
use Rattle.dri_base.specs.declared.shape.Point.{Point}
use Rattle.dri_base.specs.declared.shape.Rect.{Rect}
use Rattle.dri_base.specs.declared.shape.Triangle.{Triangle}
use Rattle.dri_base.specs.Coverage.{covers}
use Rattle.dri_base.specs.Fragments.{in_scissor}
use Rattle.dri_base.specs.Planes.{in_rect}
use Rattle.dri_raster.specs.Walks.{covered_points, extent, row}

-- the rectangle's places are those of the clip whose window's pixel lies in the scissor
abbrev pub IsNarrowed : ClipRect → Option ClipRect → Point → ClipRect → Type 0
IsNarrowed clip scissor origin rect = (a b : ℕ) → in_rect rect a b ≡ (in_rect clip a b && in_scissor scissor (pos a -ℤ origin.x) (pos b -ℤ origin.y))

-- the rectangle as the window has it, whose upper left corner is the origin
abbrev pub in_window : ClipRect → Point → Rect
in_window r origin = record { x1 = pos r.x1 -ℤ origin.x; y1 = pos r.y1 -ℤ origin.y; x2 = pos r.x2 -ℤ origin.x; y2 = pos r.y2 -ℤ origin.y }

-- of the places whose pixel the triangle covers, the two rectangles have the same
abbrev pub HoldSame : Triangle → Point → ClipRect → ClipRect → Type 0
HoldSame t origin r s = (a b : ℕ) → (in_rect r a b && covers t (pos a -ℤ origin.x) (pos b -ℤ origin.y)) ≡ (in_rect s a b && covers t (pos a -ℤ origin.x) (pos b -ℤ origin.y))

-- how many places of the rectangle have a pixel that the triangle covers
abbrev pub covered_places : Triangle → ClipRect → Point → ℕ
covered_places t r origin = length (covered_points t (in_window r origin))

-- and how many of row y there are between its columns
abbrev pub covered_in_row : Triangle → ClipRect → Point → ℕ → ℕ
covered_in_row t r origin y = length (filter (λ p. covers t p.x p.y) (row (pos r.x1 -ℤ origin.x) (pos y -ℤ origin.y) (extent (pos r.x1 -ℤ origin.x) (pos r.x2 -ℤ origin.x))))
