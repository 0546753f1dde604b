-- When a copy is owed over a scene's entries, and how many flips and copies are counted.
use Rattle.std.specs.Prelude.{ℕ, ◌+◌, Bool, true, false, not, ◌&&◌, ◌||◌, if◌then◌else◌, List, [], ◌∷◌, Option, None, is_some}
use Rattle.dri_base.specs.Scenes.{command_at}
use Rattle.dri_base.specs.declared.journal.Entry.{Entry}
use Rattle.dri_base.specs.declared.journal.Entry.TheVariants as Entry_is
use Rattle.dri_base.specs.declared.scene.Scene.{Scene}
use Rattle.dri_base.specs.declared.scene.Window.{Window}
use Rattle.dri_core.specs.EntryTable.{after_entry}
use Rattle.dri_core.specs.Restacks.{next_moved, next_stack}
use Rattle.dri_core.specs.Solo.{is_clear, is_swap}
use Rattle.dri_core.specs.Worlds.{World, clips_in, opening}
use Rattle.dri_flip.specs.Places.{has_all, has_some}
use Rattle.dri_model.specs.Stacks.{carried_from, repaint, without_owner}
use Rattle.dri_replay.specs.Makings.{uses_clips}

-- whether a copy is owed, and the flips and copies counted so far
pub record Owing : Type 0 where
  pub owed : Bool
  pub flips : ℕ
  pub copies : ℕ

-- nothing is owed, and nothing was counted
abbrev pub nothing_owed : Owing
nothing_owed = record { owed = false; flips = 0; copies = 0 }

-- a new stack, in which a window may be moved, carries a pixel to this place or paints it
abbrev pub alters : Scene → World → Option ℕ → List Window → ℕ → ℕ → Bool
alters s w moved new x y = is_some (carried_from s.width s.height w.stack new moved x y) || is_some (repaint s.width s.height s.root w.stack new moved x y)

-- the entry touches: it runs a clear, a triangle or a swap with a clip set that isn't empty, or it carries or paints a pixel
abbrev pub touches : Scene → World → Entry → Bool
touches s w (Entry_is.Run c i) = uses_clips (command_at s c i) && has_some s.width s.height (clips_in s w c)
touches s w (Entry_is.Change i) = has_some s.width s.height (alters s w (next_moved s w) (next_stack s w))
touches s w (Entry_is.Gone c) = has_some s.width s.height (alters s w None (without_owner c w.stack))
touches s w _ = false

-- the entry runs a clear over the whole screen
abbrev pub clears_all : Scene → World → Entry → Bool
clears_all s w (Entry_is.Run c i) = is_clear (command_at s c i) && has_all s.width s.height (clips_in s w c)
clears_all s w _ = false

-- the entry runs a swap over the whole screen
abbrev pub swaps_all : Scene → World → Entry → Bool
swaps_all s w (Entry_is.Run c i) = is_swap (command_at s c i) && has_all s.width s.height (clips_in s w c)
swaps_all s w _ = false

-- after a touch nothing is owed; one that finds a copy owed counts it, unless it clears the whole screen
abbrev pub paid : Bool → Owing → Owing
paid whole o = record o { owed = false; copies = if o.owed && not whole then o.copies + 1 else o.copies }

-- after what may be a touch
abbrev pub paid_where : Bool → Bool → Owing → Owing
paid_where touch whole o = if touch then paid whole o else o

-- after what may be a flip, which is counted and leaves a copy owed
abbrev pub flipped_where : Bool → Owing → Owing
flipped_where flip o = if flip then record o { owed = true; flips = o.flips + 1 } else o

-- after an entry
abbrev pub owing_after : Scene → World → Entry → Owing → Owing
owing_after s w e o = flipped_where (swaps_all s w e) (paid_where (touches s w e) (clears_all s w e) o)

-- after these entries
abbrev pub owing_from : Scene → World → Owing → List Entry → Owing
owing_from s w o [] = o
owing_from s w o (e ∷ es) = owing_from s (after_entry s w e) (owing_after s w e o) es

-- what a journal owes, and the flips and copies that it counts
abbrev pub owing : Scene → List Entry → Owing
owing s journal = owing_from s (opening s) nothing_owed journal
