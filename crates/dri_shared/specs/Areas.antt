-- What the shared area shows of a world.
use Rattle.std.specs.Prelude.{◌≡◌, ℕ, Bool, List, map, Option, Some, None, if◌then◌else◌}
use Rattle.std.specs.List.{range_with_len}
use Rattle.std.specs.Option.{is_some}
use Rattle.dri_base.specs.declared.scene.Scene.{Scene}
use Rattle.dri_base.specs.declared.scene.Window.{Window}
use Rattle.dri_core.specs.Worlds.{World}
use Rattle.dri_model.specs.Stacks.{window_in}
use Rattle.dri_sarea.specs.Areas.{Area, all_entries, no_drawable}
use Rattle.dri_sarea.specs.declared.drawable.Drawable.{Drawable}

-- a window with this stamp, as the shared area shows it: flags are 1 where it is mapped
abbrev pub shown_with : ℕ → Option Window → Drawable
shown_with stamp None = no_drawable
shown_with stamp (Some w) = record { stamp = stamp; flags = if w.mapped then 1 else 0 }

-- drawable n is window n of the stack
abbrev pub drawable_of : List Window → (ℕ → ℕ) → ℕ → Drawable
drawable_of stack stamps n = shown_with (stamps n) (window_in stack n)

-- the 256 drawables
abbrev pub drawables_of : List Window → (ℕ → ℕ) → List Drawable
drawables_of stack stamps = map (drawable_of stack stamps) (range_with_len 0 256)

-- what the shared area shows of a world, where the lock word is this number
abbrev pub area_of : Scene → World → ℕ → Area
area_of s w word = record {
  word = word;
  drawables = drawables_of w.stack w.stamps;
  width = s.width;
  height = s.height;
  owner = w.owner;
  age = w.heap.global;
  region_count = s.regions;
  region_size = s.region_size;
  regions = all_entries s.regions w.heap;
}

-- a window with the number is in the list
abbrev pub has_number : List Window → ℕ → Bool
has_number windows n = is_some (window_in windows n)

-- the two lists have windows of the same numbers
abbrev pub HaveSameNumbers : List Window → List Window → Type 0
HaveSameNumbers old new = (n : ℕ) → has_number old n ≡ has_number new n
