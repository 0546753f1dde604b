-- What an entry of a hold-run makes of front, back and depth, where copies, registers and texture memory don't occur: in each client's current clips its own state and image draw.
use Rattle.std.specs.Prelude.{None, if◌then◌else◌, ℕ, ◌&&◌, ◌≡◌}
use Rattle.dri_base.specs.Scenes.{command_at, script_of}
use Rattle.dri_base.specs.declared.colour.Pixel.{Pixel}
use Rattle.dri_base.specs.declared.colour.Rgb.{Rgb}
use Rattle.dri_base.specs.declared.journal.Entry.{Entry}
use Rattle.dri_base.specs.declared.journal.Entry.TheVariants.{Change, Gone, Run}
use Rattle.dri_base.specs.declared.scene.Scene.{Scene}
use Rattle.dri_core.specs.EntryTable.{after_entry}
use Rattle.dri_core.specs.Frames.{across, down}
use Rattle.dri_core.specs.Restacks.{back_restacked, front_restacked, next_moved, next_stack}
use Rattle.dri_core.specs.Solo.{drawn_at, is_swap}
use Rattle.dri_core.specs.Worlds.{World, clips_in}
use Rattle.dri_model.specs.Stacks.{without_owner}

-- front after client c ran command i: a swap shows back in the client's current clips
abbrev pub front_run : Scene → World → ℕ → ℕ → ℕ → ℕ → Rgb
front_run s w c i x y = if is_swap (command_at s c i) && clips_in s w c x y then (w.back x y).colour else w.front x y

-- back, with its depth, after it: drawn in the client's current clips with its own state and image at that place
abbrev pub back_run : Scene → World → ℕ → ℕ → ℕ → ℕ → Pixel
back_run s w c i x y = if clips_in s w c x y then drawn_at (script_of s c) i (across s w c x) (down s w c y) (w.back x y) else w.back x y

-- front after an entry; only a run, a change and a death change it
abbrev pub front_by : Scene → World → Entry → ℕ → ℕ → Rgb
front_by s w (Run c i) x y = front_run s w c i x y
front_by s w (Change i) x y = front_restacked s w (next_moved s w) (next_stack s w) x y
front_by s w (Gone c) x y = front_restacked s w None (without_owner c w.stack) x y
front_by s w _ x y = w.front x y

-- back, with its depth, after an entry
abbrev pub back_by : Scene → World → Entry → ℕ → ℕ → Pixel
back_by s w (Run c i) x y = back_run s w c i x y
back_by s w (Change i) x y = back_restacked s w (next_moved s w) (next_stack s w) x y
back_by s w (Gone c) x y = back_restacked s w None (without_owner c w.stack) x y
back_by s w _ x y = w.back x y

-- the entry makes just that of the planes
pub record IsPlaneStep (s : Scene) (w : World) (e : Entry) : Type 0 where
  pub front : (x y : ℕ) → (after_entry s w e).front x y ≡ front_by s w e x y
  pub back : (x y : ℕ) → (after_entry s w e).back x y ≡ back_by s w e x y
