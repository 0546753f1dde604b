-- The regions that a new layout paints, and the paints of a region.
use Rattle.std.specs.Prelude.{ℕ, ℤ, pos, List, Bool, true, ◌&&◌, ◌||◌, not, ◌≡◌, ◌≤ℤ◌, ◌-ℤ◌, ◌<◌, Option, None, take, is_some, is_none, if◌then◌else◌, unsigned_abs, All, AllPairs}
use Rattle.dri_base.specs.declared.colour.Rgb.{Rgb}
use Rattle.dri_base.specs.declared.scene.Window.{Window}
use Rattle.dri_base.specs.declared.shape.ClipRect.{ClipRect}
use Rattle.dri_base.specs.declared.shape.Rect.{Rect}
use Rattle.dri_rect.specs.Pixels.{has_pixel, inside}
use Rattle.dri_model.specs.Stacks.{is_moved, repaint, shift, top}
use Rattle.dri_clips.specs.declared.touched.Paint.{Paint}
use Rattle.dri_clips.specs.Boards.{shows}
use Rattle.dri_clips.specs.Layouts.{screen_rect}
use Rattle.dri_base.specs.Rectangles.{AreApart}
use Rattle.dri_clips.specs.Paints.{IsOnScreen, paint_at}

-- a rectangle without negative numbers
abbrev pub clip_rect : Rect → ClipRect
clip_rect r = record { x1 = unsigned_abs r.x1; y1 = unsigned_abs r.y1; x2 = unsigned_abs r.x2; y2 = unsigned_abs r.y2 }

-- a paint of the rectangle
abbrev pub paint_of : Rgb → Rect → Paint
paint_of colour r = record { rect = clip_rect r; colour = colour }

-- the rectangle's numbers are those of a place on the screen
pub record IsRectOnScreen (width height : ℕ) (r : Rect) : Type 0 where
  pub left : pos 0 ≤ℤ r.x1
  pub top : pos 0 ≤ℤ r.y1
  pub start : r.x1 ≤ℤ r.x2
  pub head : r.y1 ≤ℤ r.y2
  pub right : r.x2 ≤ℤ pos width
  pub bottom : r.y2 ≤ℤ pos height

-- each pixel of the rectangles is on the screen
abbrev pub AreOnScreen : ℕ → ℕ → List Rect → Type 0
AreOnScreen width height rects = (x y : ℤ) → inside rects x y ≡ true → has_pixel (screen_rect width height) x y ≡ true

-- what showed at this place as window n has stayed: where n is moved, what showed before the move is carried to the place; else n showed at the place itself
abbrev pub stayed : ℕ → ℕ → List Window → List Window → Option ℕ → ℕ → ℤ → ℤ → Bool
stayed width height old new moved n x y =
    if is_moved n moved then shows width height old n (x -ℤ (shift old new n).0) (y -ℤ (shift old new n).1) else shows width height old n x y

-- the rectangles have the pixels at which window n shows now, and nothing of it has stayed
abbrev pub IsGain : ℕ → ℕ → List Window → List Window → Option ℕ → ℕ → List Rect → Type 0
IsGain width height old new moved n rects = (x y : ℤ) → inside rects x y ≡ (shows width height new n x y && not (stayed width height old new moved n x y))

-- what a pixel is painted with by the root and the first k windows: all of it where none of the windows shows, or one of the first k
abbrev pub partly_repaint : ℕ → ℕ → Rgb → List Window → List Window → Option ℕ → ℕ → ℕ → ℕ → Option Rgb
partly_repaint width height root old new moved k x y = if is_none (top new x y) || is_some (top (take k new) x y) then repaint width height root old new moved x y else None

-- the paints of the root and the first k windows
pub record ArePartlyPaints (width height : ℕ) (root : Rgb) (old new : List Window) (moved : Option ℕ) (k : ℕ) (paints : List Paint) : Type 0 where
  pub each : All (λ p. IsOnScreen width height p.rect) paints
  pub apart : AllPairs (λ p q. AreApart p.rect q.rect) paints
  pub right : (x y : ℕ) → x < width → y < height → paint_at paints x y ≡ partly_repaint width height root old new moved k x y
