-- What the shared area shows.
use Rattle.std.specs.Prelude.{◌-◌, ℕ, List, ◌++◌, replicate}
use Rattle.dri_base.specs.declared.texture.TexRegion.{TexRegion}
use Rattle.dri_model.specs.Heaps.{Heap}
use Rattle.dri_texheap.specs.Ring.{entries}
use Rattle.dri_sarea.specs.declared.drawable.Drawable.{Drawable}

-- the lock word, a drawable for each window number, the screen's sides, the context that last took the card over, the
-- global age, the number of regions and their size in bytes, and the entries of their list
pub record Area : Type 0 where
  pub word : ℕ
  pub drawables : List Drawable
  pub width : ℕ
  pub height : ℕ
  pub owner : ℕ
  pub age : ℕ
  pub region_count : ℕ
  pub region_size : ℕ
  pub regions : List TexRegion

-- a drawable without a window
abbrev pub no_drawable : Drawable
no_drawable = record { stamp = 0; flags = 0 }

-- an entry that no region has
abbrev pub no_region : TexRegion
no_region = record { next = 0; prev = 0; in_use = 0; age = 0 }

-- the 65 entries: those of the list of n regions, and above them none
abbrev pub all_entries : ℕ → Heap → List TexRegion
all_entries n h = entries n h ++ replicate (64 - n) no_region
