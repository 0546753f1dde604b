-- The lists that a new stack gives the windows that it meets.
use Rattle.std.specs.Prelude.{ℕ, ℤ, List, [], Bool, false, ◌&&◌, ◌||◌, not, ◌≡◌, ◌<◌, ◌+◌, ◌*◌, ◌⊎◌, length, is_none, slice_get, slice_index_or, take, Option, None, Some}
use Rattle.dri_base.specs.declared.scene.Window.{Window}
use Rattle.dri_base.specs.declared.shape.Rect.{Rect}
use Rattle.dri_rect.specs.Pixels.{has_pixel, inside}
use Rattle.dri_model.specs.Stacks.{origin}
use Rattle.dri_clips.specs.declared.layout.Layout.{Layout}
use Rattle.dri_clips.specs.declared.mending.Mended.{Mended}
use Rattle.dri_clips.specs.declared.mending.Patch.{Patch}
use Rattle.dri_clips.specs.Areas.{meets, named_in, reached_after}
use Rattle.dri_clips.specs.Boards.{shows}
use Rattle.dri_clips.specs.Layouts.{AreDistinct, IsAbsent, has_place, screen_rect, top_at, window_rect}

-- the list's pixels of the area become this part
pub record IsPatch (old area : List Rect) (part : ℤ → ℤ → Bool) (p : Patch) : Type 0 where
  pub clips : (x y : ℤ) → inside p.clips x y ≡ ((inside old x y && not (inside area x y)) || part x y)
  pub gained : (x y : ℤ) → inside p.gained x y ≡ (part x y && not (inside old x y))

-- the window isn't mapped, and shows nowhere
pub record IsBare (w : Window) (p : Patch) : Type 0 where
  pub unmapped : w.mapped ≡ false
  pub clips : p.clips ≡ []
  pub gained : p.gained ≡ []

-- the window takes part in the area
abbrev pub is_met : (Window → Bool) → List Rect → Window → Bool
is_met named area w = w.mapped && (named w || meets area (window_rect w))

-- what the list has of the area is this part
abbrev pub KeepsPart : List Rect → List Rect → (ℤ → ℤ → Bool) → Type 0
KeepsPart old area part = (x y : ℤ) → (inside old x y && inside area x y) ≡ part x y

-- the list of a window that is met, whose pixels of the area become this part; one that isn't named keeps a list that has this part
abbrev pub IsPartList : Bool → List Rect → List Rect → (ℤ → ℤ → Bool) → Option Patch → Type 0
IsPartList named area old part None = (named ≡ false) × KeepsPart old area part
IsPartList named area old part (Some p) = IsPatch old area part p

-- the list of a window, where this is left of the area for it; one that isn't named keeps its list where it isn't met, or has its part already
abbrev pub IsNewList : (Window → Bool) → List Rect → List Rect → List Rect → Window → Option Patch → Type 0
IsNewList named area left old w None = (named w ≡ false) × ((is_met named area w ≡ false) ⊎ KeepsPart old area (λ x y. inside left x y && has_place w x y))
IsNewList named area left old w (Some p) = IsPatch old area (λ x y. inside left x y && has_place w x y) p ⊎ IsBare w p

-- window n shows at these pixels under the new stack, and gained those
pub record IsNew (width height : ℕ) (old new : List Window) (n : ℕ) (p : Patch) : Type 0 where
  pub clips : (x y : ℤ) → inside p.clips x y ≡ shows width height new n x y
  pub gained : (x y : ℤ) → inside p.gained x y ≡ (shows width height new n x y && not (shows width height old n x y))

-- window n shows where it did, and stands where it did
pub record Stands (width height : ℕ) (old new : List Window) (n : ℕ) : Type 0 where
  pub clips : (x y : ℤ) → shows width height new n x y ≡ shows width height old n x y
  pub unmoved : origin new n ≡ origin old n

-- window n has this new list, or its list stands
abbrev pub IsMended : ℕ → ℕ → List Window → List Window → ℕ → Option Patch → Type 0
IsMended width height old new n None = Stands width height old new n
IsMended width height old new n (Some p) = IsNew width height old new n p

-- what is left of the area for the windows from place k on
abbrev pub IsLeft : ℕ → ℕ → (Window → Bool) → List Window → List Window → List Rect → ℕ → List Rect → Type 0
IsLeft width height named old new area k left = (x y : ℤ) → inside left x y ≡ (inside area x y && is_none (top_at (take k new) x y))

-- the walk has come to the window at place k
pub record IsWalk (width height : ℕ) (named : Window → Bool) (old new : List Window) (area : List Rect) (k : ℕ) (left : List Rect) (lists : List (Option Patch)) : Type 0 where
  pub room : length lists ≡ 65
  pub left_is : IsLeft width height named old new area k left
  pub made : (i : ℕ) (w : Window) → i < k → slice_get new i ≡ Some w → IsMended width height old new w.number (slice_index_or lists w.number None)
  pub none : (n : ℕ) → IsAbsent n new → slice_index_or lists n None ≡ None

-- the new lists of all windows and of the root
pub record AreMended (old : Layout) (new : List Window) (m : Mended) : Type 0 where
  pub apart : AreDistinct new
  pub room : length m.windows.items ≡ 65
  pub lists : (n : ℕ) → n < 65 → IsMended old.width old.height old.stack new n (slice_index_or m.windows.items n None)
  pub free : (x y : ℤ) → inside m.root.clips x y ≡ (has_pixel (screen_rect old.width old.height) x y && is_none (top_at new x y))
  pub bared : (x y : ℤ) → inside m.root.gained x y ≡ (inside m.root.clips x y && not (inside old.free x y))

-- how many region computations the new lists may take
abbrev pub mending_cost : (Window → Bool) → List Window → List Window → ℕ
mending_cost named old new = 7 * reached_after named old new + (2 * (length (named_in named old) + length (named_in named new)) + 4)

-- how many what comes along of a moved window takes beside these
abbrev pub moving_cost : ℕ
moving_cost = 4

-- the new list, if there is one, or the list that stands
abbrev pub list_or : Option Patch → List Rect → List Rect
list_or None was = was
list_or (Some p) was = p.clips
