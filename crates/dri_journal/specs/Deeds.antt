-- What an entry does to the planes.
use Rattle.std.specs.Prelude.{◌≡◌, ℕ, List, [], Bool, true, false, if◌then◌else◌, Option, Some, None, filter, is_some, slice_get}
use Rattle.std.specs.List.{range_with_len}
use Rattle.dri_base.specs.declared.command.Change.{Change}
use Rattle.dri_base.specs.declared.command.Command.{Command}
use Rattle.dri_base.specs.declared.command.Command.TheVariants as Command_is
use Rattle.dri_base.specs.declared.journal.Entry.{Entry}
use Rattle.dri_base.specs.declared.journal.Entry.TheVariants as Entry_is
use Rattle.dri_base.specs.declared.scene.Scene.{Scene}
use Rattle.dri_base.specs.declared.scene.Window.{Window}
use Rattle.dri_base.specs.Scenes.{command_at, named_by}
use Rattle.dri_clips.specs.Paints.{ArePaints, IsCarried, is_whole, moves_whole}
use Rattle.dri_clips.specs.declared.touched.Touched.{Touched}
use Rattle.dri_core.specs.Restacks.{next_moved, next_stack, touched_by}
use Rattle.dri_core.specs.Worlds.{World}
use Rattle.dri_journal.specs.declared.deed.Deed.{Deed}
use Rattle.dri_journal.specs.declared.deed.Deed.TheVariants as Deed_is
use Rattle.dri_model.specs.Stacks.{refusal, without_owner}

-- what the run of a command does, where there is one
abbrev pub deed_by : Option Command → Deed
deed_by (Some (Command_is.Clear colour depth)) = Deed_is.Clear colour depth
deed_by (Some (Command_is.Triangle t)) = Deed_is.Triangle t
deed_by (Some Command_is.Swap) = Deed_is.Swap
deed_by _ = Deed_is.Nothing

-- what was touched, as a deed
abbrev pub deed_told : Option Touched → Deed
deed_told None = Deed_is.Nothing
deed_told (Some touched) = Deed_is.Touched touched

-- the windows that were touched
abbrev pub windows_in : Option Touched → List ℕ
windows_in None = []
windows_in (Some touched) = touched.windows

-- the window that a change moved whole, if it did: the one that it names
abbrev pub whole_window : Change → Option Touched → Option ℕ
whole_window change None = None
whole_window change (Some touched) = if is_whole touched then Some (named_by change) else None

-- what a new stack touches, where it moves this window: by rising number the windows that get a new stamp, what is carried, whether all of the window is, and the paints of front
pub record IsTouchedBy (s : Scene) (w : World) (moved : Option ℕ) (new : List Window) (touched : Touched) : Type 0 where
  pub windows : touched.windows ≡ filter (touched_by s w new) (range_with_len 0 65)
  pub carry : IsCarried s.width s.height w.stack new moved touched.carry
  pub whole : is_whole touched ≡ moves_whole s.width s.height w.stack new moved
  pub paints : ArePaints s.width s.height s.root w.stack new moved touched.paints

-- the board refuses the change, where there is one
abbrev pub is_refused : List Window → Option Change → Bool
is_refused ws None = false
is_refused ws (Some change) = is_some (refusal change ws)

-- the board refuses the next change
abbrev pub refuses_next : Scene → World → Bool
refuses_next s w = is_refused w.stack (slice_get s.changes w.made)

-- a new stack is told by what it touches, unless it is that of a change that is refused
abbrev pub TellsStack : Scene → World → Option ℕ → List Window → Bool → Deed → Type 0
TellsStack s w moved new refused (Deed_is.Touched touched) = (refused ≡ false) × IsTouchedBy s w moved new touched
TellsStack s w moved new refused Deed_is.Nothing = refused ≡ true
TellsStack s w moved new refused _ = ⊥

-- what an entry does to the planes
abbrev pub Does : Scene → World → Entry → Deed → Type 0
Does s w (Entry_is.Run c i) deed = deed ≡ deed_by (command_at s c i)
Does s w (Entry_is.Change i) deed = TellsStack s w (next_moved s w) (next_stack s w) (refuses_next s w) deed
Does s w (Entry_is.Gone c) deed = TellsStack s w None (without_owner c w.stack) false deed
Does s w _ deed = deed ≡ Deed_is.Nothing
