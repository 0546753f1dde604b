-- The area in which a new stack may change what shows, and how many windows it reaches.
use Rattle.std.specs.Prelude.{ℕ, ℤ, List, [], ◌∷◌, Bool, true, false, ◌&&◌, ◌||◌, not, ◌==◌, filter, length, int_lt}
use Rattle.dri_base.specs.declared.command.Change.{Change}
use Rattle.dri_base.specs.declared.scene.Window.{Window}
use Rattle.dri_base.specs.declared.shape.Rect.{Rect}
use Rattle.dri_rect.specs.Extents.{shared_by}
use Rattle.dri_rect.specs.Pixels.{has_pixel}
use Rattle.dri_base.specs.Scenes.{named_by}
use Rattle.dri_model.specs.Stacks.{window_in}
use Rattle.dri_clips.specs.declared.cause.Cause.{Cause}
use Rattle.dri_clips.specs.declared.cause.Cause.TheVariants as Cause_is
use Rattle.dri_clips.specs.Boards.{is_mapped}
use Rattle.dri_clips.specs.Layouts.{has_place, screen_rect, window_rect}

-- the two rectangles share a pixel
abbrev pub share_pixel : Rect → Rect → Bool
share_pixel a b = int_lt (shared_by a b).x1 (shared_by a b).x2 && int_lt (shared_by a b).y1 (shared_by a b).y2

-- one of the rectangles shares a pixel with this one
abbrev pub meets : List Rect → Rect → Bool
meets [] r = false
meets (s ∷ ss) r = share_pixel s r || meets ss r

-- the window has the number that the change names
abbrev pub is_named : Change → Window → Bool
is_named change w = w.number == named_by change

-- the window is the owner's
abbrev pub is_owned : ℕ → Window → Bool
is_owned owner w = w.owner == owner

-- the mapped windows of a stack that are named
abbrev pub named_in : (Window → Bool) → List Window → List Window
named_in named ws = filter (λ w. named w && w.mapped) ws

-- one of the windows shares a pixel with this rectangle
abbrev pub meets_window : List Window → Rect → Bool
meets_window [] r = false
meets_window (w ∷ ws) r = share_pixel (window_rect w) r || meets_window ws r

-- the window is mapped before or after, and it is named, or shares a pixel with the old rectangle of a named window that was mapped, or with the new one of one that is mapped
abbrev pub is_reached : (Window → Bool) → List Window → List Window → Window → Bool
is_reached named old new w =
    (is_mapped (window_in old w.number) || w.mapped) && (named w || (meets_window (named_in named old) (window_rect w) || meets_window (named_in named new) (window_rect w)))

-- how many windows a new stack reaches
abbrev pub reached : (Window → Bool) → List Window → List Window → ℕ
reached named old new = length (filter (is_reached named old new) new)

-- and how many of them are mapped under it
abbrev pub reached_after : (Window → Bool) → List Window → List Window → ℕ
reached_after named old new = length (filter (λ w. w.mapped && is_reached named old new w) new)

-- the windows that a cause names
abbrev pub names : Cause → Window → Bool
names (Cause_is.Window n) w = w.number == n
names (Cause_is.Owner c) w = w.owner == c
names Cause_is.Opening w = true

-- the stack without the windows that are named
abbrev pub others : (Window → Bool) → List Window → List Window
others named ws = filter (λ w. not (named w)) ws

-- a mapped window of the stack that is named has the place
abbrev pub has_named : (Window → Bool) → List Window → ℤ → ℤ → Bool
has_named named [] x y = false
has_named named (w ∷ ws) x y = (named w && has_place w x y) || has_named named ws x y

-- the place is on the screen, and in an old or a new rectangle of a named window
abbrev pub in_area : ℕ → ℕ → (Window → Bool) → List Window → List Window → ℤ → ℤ → Bool
in_area width height named old new x y = has_pixel (screen_rect width height) x y && (has_named named old x y || has_named named new x y)
