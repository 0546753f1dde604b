-- A stack with what shows of it.
use Rattle.std.specs.Prelude.{ℕ, ℤ, zero, suc, pos, ◌+ℤ◌, List, [], ◌∷◌, Bool, true, false, ◌&&◌, ◌≡◌, ◌<◌, ◌==◌, All, filter, length, is_none, slice_index_or, nat_lt, if◌then◌else◌, ◌+◌, Option, None, Some}
use Rattle.std.specs.List.{AllByRecursion, range_with_len}
use Rattle.dri_base.specs.declared.scene.Window.{Window}
use Rattle.dri_base.specs.declared.shape.Rect.{Rect}
use Rattle.dri_base.specs.Ranges.{IsSide, WindowInRange}
use Rattle.dri_rect.specs.Pixels.{has_pixel, inside}
use Rattle.dri_clips.specs.declared.layout.Layout.{Layout}
use Rattle.dri_clips.specs.declared.stamps.Restamped.{Restamped}
use Rattle.dri_model.specs.Counting.{how_many}
use Rattle.dri_clips.specs.Boards.{shows}

-- the window's rectangle
abbrev pub window_rect : Window → Rect
window_rect w = record { x1 = w.x; y1 = w.y; x2 = w.x +ℤ pos w.width; y2 = w.y +ℤ pos w.height }

-- the screen's rectangle
abbrev pub screen_rect : ℕ → ℕ → Rect
screen_rect width height = record { x1 = pos 0; y1 = pos 0; x2 = pos width; y2 = pos height }

-- the window is mapped and has the place
abbrev pub has_place : Window → ℤ → ℤ → Bool
has_place w x y = w.mapped && has_pixel (window_rect w) x y

-- no window has the number
abbrev pub IsAbsent : ℕ → List Window → Type 0
IsAbsent n ws = AllByRecursion (λ w. (w.number == n) ≡ false) ws

-- no two windows have one number
abbrev pub AreDistinct : List Window → Type 0
AreDistinct [] = Unit {0}
AreDistinct (w ∷ ws) = IsAbsent w.number ws × AreDistinct ws

-- window n is at place i from the top, and no window above it has its number
abbrev pub IsPlaced : ℕ → ℕ → List Window → Type 0
IsPlaced n i [] = ⊥
IsPlaced n zero (w ∷ ws) = (w.number == n) ≡ true
IsPlaced n (suc i) (w ∷ ws) = ((w.number == n) ≡ false) × IsPlaced n i ws

-- each number stands in both or in neither
abbrev pub SameNumbers : List Window → List Window → Type 0
SameNumbers old new = (n : ℕ) → (IsAbsent n old → IsAbsent n new) × (IsAbsent n new → IsAbsent n old)

-- the topmost window at a place, which may lie off the screen
abbrev pub top_at : List Window → ℤ → ℤ → Option Window
top_at [] x y = None
top_at (w ∷ ws) x y = if has_place w x y then Some w else top_at ws x y

-- each window number's region has the pixels at which that window shows, and the free region those of no window
pub record IsLayout (l : Layout) : Type 0 where
  pub wide : IsSide l.width
  pub high : IsSide l.height
  pub ranged : All WindowInRange l.stack
  pub apart : AreDistinct l.stack
  pub room : length l.clips.items ≡ 65
  pub clips : (n : ℕ) → n < 65 → (x y : ℤ) → inside (slice_index_or l.clips.items n []) x y ≡ shows l.width l.height l.stack n x y
  pub free : (x y : ℤ) → inside l.free x y ≡ (has_pixel (screen_rect l.width l.height) x y && is_none (top_at l.stack x y))

-- the stamps, the counter and the touched numbers after the numbers below n
pub record IsRestamped (touched : ℕ → Bool) (n start : ℕ) (were : List ℕ) (r : Restamped) : Type 0 where
  pub numbers : r.touched ≡ filter touched (range_with_len 0 n)
  pub counter : r.counter ≡ start + how_many touched n
  pub room : length r.stamps ≡ 65
  pub stamps : (k : ℕ) → slice_index_or r.stamps k 1 ≡ (if nat_lt k n && touched k then start + how_many touched (k + 1) else slice_index_or were k 1)
