-- What a moved window carries along, what is painted, and the use of a run.
use Rattle.std.specs.Prelude.{◌+◌, ◌*◌, ℕ, List, All, AllPairs, Option, Some, None}
use Rattle.std.specs.List.{sum_by}
use Rattle.dri_card.specs.Contents.{Contents}
use Rattle.dri_card.specs.Drawing.{IsCarry, StaysOnCard, carried_by}
use Rattle.dri_clips.specs.declared.touched.Carry.{Carry}
use Rattle.dri_clips.specs.declared.touched.Paint.{Paint}
use Rattle.dri_clips.specs.declared.touched.Touched.{Touched}
use Rattle.dri_model.specs.Heaps.{Heap, Run, touched}
use Rattle.dri_plane.specs.Grids.{pixel_count}
use Rattle.dri_base.specs.Rectangles.{AreApart}
use Rattle.dri_plane.specs.Moves.{pixel_counts}

-- the card can carry this: rectangles that stay on it, none of which share a pixel, and not too far
pub record CanCarry (v : Contents) (carry : Carry) : Type 0 where
  pub each : All (StaysOnCard carry.dx carry.dy v) carry.rects
  pub apart : AllPairs AreApart carry.rects
  pub across : IsCarry carry.dx
  pub down : IsCarry carry.dy

-- the pixels after what is carried, if there is something, came along
abbrev pub carried_along : {A : Type 0} → Option Carry → (ℕ → ℕ → A) → ℕ → ℕ → A
carried_along None f x y = f x y
carried_along (Some carry) f x y = carried_by carry.rects carry.dx carry.dy f x y

-- a carried pixel is read and written in each of three planes
abbrev pub carry_accesses : Option Carry → ℕ
carry_accesses None = 0
carry_accesses (Some carry) = 3 * (2 * pixel_counts carry.rects)

-- how many pixels are painted
abbrev pub painted_pixels : List Paint → ℕ
painted_pixels paints = sum_by (λ p. pixel_count p.rect) paints

-- how often a plane is accessed for what a new stack touches
abbrev pub accesses : Touched → ℕ
accesses touched = carry_accesses touched.carry + painted_pixels touched.paints

-- the heap after a use of a run, where there is one
abbrev pub touched_by_use : Option Run → Heap → Heap
touched_by_use None h = h
touched_by_use (Some run) h = touched run h
