-- What comes along of a window that a new stack moves.
use Rattle.std.specs.Prelude.{ℕ, ℤ, ◌+ℤ◌, ◌-ℤ◌, List, [], length, map, AllPairs, Bool, false, ◌&&◌, not, ◌≡◌, ◌↔◌, IsTrue, ◌<◌, ◌==◌, if◌then◌else◌, Option, None, Some}
use Rattle.std.specs.List.{AllByRecursion}
use Rattle.dri_base.specs.declared.scene.Window.{Window}
use Rattle.dri_base.specs.declared.shape.Rect.{Rect}
use Rattle.dri_rect.specs.Pixels.{IsApart, IsProper, inside}
use Rattle.dri_model.specs.Stacks.{is_moved_whole, shift}
use Rattle.dri_clips.specs.declared.moving.Motion.{Motion}
use Rattle.dri_clips.specs.declared.touched.Carry.{Carry}
use Rattle.dri_clips.specs.Boards.{shows}
use Rattle.dri_clips.specs.Gains.{IsGain, clip_rect}
use Rattle.dri_clips.specs.Paints.{IsNear}

-- the second list has the pixels of the first, moved by (dx, dy)
abbrev pub AreMoved : ℤ → ℤ → List Rect → List Rect → Type 0
AreMoved dx dy was now = (x y : ℤ) → inside now x y ≡ inside was (x -ℤ dx) (y -ℤ dy)

-- a window that showed at these pixels and shows at those moves so far: what is carried lies in these, and in those after the move; the rest of those is fresh
pub record IsAlong (window : ℕ) (dx dy : ℤ) (was now : List Rect) (m : Motion) : Type 0 where
  pub is : m.window ≡ window
  pub across : m.dx ≡ dx
  pub down : m.dy ≡ dy
  pub carried : (x y : ℤ) → inside m.carried x y ≡ (inside was x y && inside now (x +ℤ dx) (y +ℤ dy))
  pub fresh : (x y : ℤ) → inside m.fresh x y ≡ (inside now x y && not (inside was (x -ℤ dx) (y -ℤ dy)))
  pub whole : IsTrue m.whole ↔ AreMoved dx dy was now

-- a window of a new stack moves so far; what is carried lies in its old clips, and after the move in its new ones; the other pixels of these are fresh
pub record IsMotion (width height : ℕ) (old new : List Window) (m : Motion) : Type 0 where
  pub way : (m.dx, m.dy) ≡ shift old new m.window
  pub across : IsNear m.dx
  pub down : IsNear m.dy
  pub carried : (x y : ℤ) → inside m.carried x y ≡ (shows width height old m.window x y && shows width height new m.window (x +ℤ m.dx) (y +ℤ m.dy))
  pub fresh : IsGain width height old new (Some m.window) m.window m.fresh
  pub whole : m.whole ≡ is_moved_whole width height old new (Some m.window) m.window

-- the window that moves, if one does
abbrev pub moved_in : Option Motion → Option ℕ
moved_in None = None
moved_in (Some m) = Some m.window

-- whether one moves whole
abbrev pub moved_whole : Option Motion → Bool
moved_whole None = false
moved_whole (Some m) = m.whole

-- what window n repaints: what is fresh of it where it moves, else what it gained
abbrev pub repainted_of : Option Motion → ℕ → List Rect → List Rect
repainted_of None n gained = gained
repainted_of (Some m) n gained = if m.window == n then m.fresh else gained

-- the carry of a motion: its carried pixels, of which there are some, as rectangles of the card, and its way
pub record IsPacked (m : Motion) (carry : Carry) : Type 0 where
  pub some : 0 < length m.carried
  pub apart : AllPairs IsApart m.carried
  pub proper : AllByRecursion IsProper m.carried
  pub rects : carry.rects ≡ map clip_rect m.carried
  pub across : carry.dx ≡ m.dx
  pub down : carry.dy ≡ m.dy

-- there is a carry exactly where a window moves and has a carried pixel
abbrev pub IsCarryOf : Option Motion → Option Carry → Type 0
IsCarryOf None None = Unit {0}
IsCarryOf None (Some carry) = ⊥
IsCarryOf (Some m) None = m.carried ≡ []
IsCarryOf (Some m) (Some carry) = IsPacked m carry
