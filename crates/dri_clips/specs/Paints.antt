-- What a new stack touches: the windows that get a new stamp, the pixels that a moved window carries along, and the rectangles that are painted in front.
use Rattle.std.specs.Prelude.{ℕ, ℤ, pos, neg_ℤ, ◌+ℤ◌, ◌≤ℤ◌, List, [], ◌∷◌, Bool, ◌≡◌, ◌≤◌, ◌<◌, ◌*◌, if◌then◌else◌, filter, length, is_some, Option, None, Some, All, AllPairs, false}
use Rattle.std.specs.List.{range_with_len}
use Rattle.dri_base.specs.Rectangles.{AreApart, in_rects}
use Rattle.dri_base.specs.Limits.{most_side}
use Rattle.dri_base.specs.declared.colour.Rgb.{Rgb}
use Rattle.dri_base.specs.declared.scene.Window.{Window}
use Rattle.dri_base.specs.declared.shape.ClipRect.{ClipRect}
use Rattle.dri_base.specs.Planes.{in_rect}
use Rattle.dri_clips.specs.declared.touched.Carry.{Carry}
use Rattle.dri_clips.specs.declared.touched.Paint.{Paint}
use Rattle.dri_clips.specs.declared.touched.Touched.{Touched}
use Rattle.dri_clips.specs.Boards.{Screen}
use Rattle.dri_model.specs.Stacks.{carried_from, is_moved_whole, is_touched, repaint, shift}

-- the rectangle has a pixel, and lies on the screen
pub record IsOnScreen (width height : ℕ) (r : ClipRect) : Type 0 where
  pub across : r.x1 < r.x2
  pub down : r.y1 < r.y2
  pub right : r.x2 ≤ width
  pub bottom : r.y2 ≤ height

-- the rectangle has a pixel, and lies on the screen; and so it does once it is moved by (dx, dy)
pub record StaysOnScreen (dx dy : ℤ) (width height : ℕ) (r : ClipRect) : Type 0 where
  pub before : IsOnScreen width height r
  pub left : pos 0 ≤ℤ (pos r.x1 +ℤ dx)
  pub right : (pos r.x2 +ℤ dx) ≤ℤ pos width
  pub top : pos 0 ≤ℤ (pos r.y1 +ℤ dy)
  pub bottom : (pos r.y2 +ℤ dy) ≤ℤ pos height

-- as far as a window may be moved at once, across or down
abbrev pub IsNear : ℤ → Type 0
IsNear d = (neg_ℤ (pos (2 * most_side)) ≤ℤ d) × (d ≤ℤ pos (2 * most_side))

-- the pixels of moved window n that it carries along, of which there are some, as they lie before the move: rectangles none of which share a pixel; and how far they go
pub record IsCarry (width height : ℕ) (old new : List Window) (n : ℕ) (carry : Carry) : Type 0 where
  pub some : 0 < length carry.rects
  pub each : All (StaysOnScreen carry.dx carry.dy width height) carry.rects
  pub apart : AllPairs AreApart carry.rects
  pub pixels : (x y : ℕ) → in_rects carry.rects x y ≡ is_some (carried_from width height new old (Some n) x y)
  pub way : (carry.dx, carry.dy) ≡ shift old new n
  pub across : IsNear carry.dx
  pub down : IsNear carry.dy

-- what a new stack carries, where it moves this window: no carry exactly where no pixel is carried
abbrev pub IsCarried : ℕ → ℕ → List Window → List Window → Option ℕ → Option Carry → Type 0
IsCarried width height old new moved None = (x y : ℕ) → carried_from width height old new moved x y ≡ None
IsCarried width height old new None (Some carry) = ⊥
IsCarried width height old new (Some n) (Some carry) = IsCarry width height old new n carry

-- a window is moved, and is moved whole
abbrev pub moves_whole : ℕ → ℕ → List Window → List Window → Option ℕ → Bool
moves_whole width height old new None = false
moves_whole width height old new (Some n) = is_moved_whole width height old new (Some n) n

-- the colour that the pixel is painted with, if it is
abbrev pub paint_at : List Paint → ℕ → ℕ → Option Rgb
paint_at [] x y = None
paint_at (p ∷ ps) x y = if in_rect p.rect x y then Some p.colour else paint_at ps x y

-- front after the paints, one after the other
abbrev pub filled : List Paint → (ℕ → ℕ → Rgb) → ℕ → ℕ → Rgb
filled [] front x y = front x y
filled (p ∷ ps) front x y = filled ps (λ a b. if in_rect p.rect a b then p.colour else front a b) x y

-- rectangles of the screen, none of which share a pixel; they paint just the pixels that are painted once the carried ones have come along
pub record ArePaints (width height : ℕ) (root : Rgb) (old new : List Window) (moved : Option ℕ) (paints : List Paint) : Type 0 where
  pub each : All (λ p. IsOnScreen width height p.rect) paints
  pub apart : AllPairs (λ p q. AreApart p.rect q.rect) paints
  pub right : (x y : ℕ) → x < width → y < height → paint_at paints x y ≡ repaint width height root old new moved x y

-- whether the change moved its window whole
abbrev pub is_whole : Touched → Bool
is_whole touched = touched.whole

-- what a new stack touches on this board, where it moves this window: by rising number the windows whose clip set or origin differs, what is carried, whether all of the window is, and the paints
pub record IsTouched (v : Screen) (new : List Window) (moved : Option ℕ) (touched : Touched) : Type 0 where
  pub windows : touched.windows ≡ filter (is_touched v.width v.height v.stack new) (range_with_len 0 65)
  pub carry : IsCarried v.width v.height v.stack new moved touched.carry
  pub whole : is_whole touched ≡ moves_whole v.width v.height v.stack new moved
  pub paints : ArePaints v.width v.height v.root v.stack new moved touched.paints
