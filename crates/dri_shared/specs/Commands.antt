-- A client's next command, and its next entry.
use Rattle.std.specs.Prelude.{◌≡◌, ℕ, Bool, true, false, Option, Some, None}
use Rattle.dri_base.specs.declared.command.Command.{Command}
use Rattle.dri_base.specs.declared.command.Command.TheVariants.{Set, Yield}
use Rattle.dri_base.specs.declared.journal.Entry.{Entry}
use Rattle.dri_base.specs.declared.journal.Entry.TheVariants.{Run}
use Rattle.dri_base.specs.Scenes.{command_at}
use Rattle.dri_base.specs.declared.scene.Scene.{Scene}
use Rattle.dri_core.specs.EntryTable.{AtTriangle}
use Rattle.dri_core.specs.Privates.{textured_with}
use Rattle.dri_core.specs.Worlds.{World}

-- the next command of client c
abbrev pub next_command : Scene → World → ℕ → Option Command
next_command s w c = command_at s c (w.client c).place

-- the entry of its run
abbrev pub next_run : World → ℕ → Entry
next_run w c = Run c (w.client c).place

-- the command is a setting
abbrev pub is_setting : Option Command → Bool
is_setting (Some (Set setting)) = true
is_setting command = false

-- the command is a yield
abbrev pub is_yield : Option Command → Bool
is_yield (Some Yield) = true
is_yield command = false

-- client c is in, its next command is a triangle that is textured with texture t, and t isn't placed
pub record WantsPlace (s : Scene) (w : World) (c t : ℕ) : Type 0 where
  pub at : AtTriangle s w c
  pub textured : textured_with (w.client c).state ≡ Some t
  pub unplaced : (w.client c).placed t ≡ None
