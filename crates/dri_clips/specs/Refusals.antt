-- How the board tells its refusals, and what a change makes of its window.
use Rattle.std.specs.Prelude.{ℕ, true, false, ◌≡◌, Option, Some}
use Rattle.dri_base.specs.declared.scene.Window.{Window}
use Rattle.dri_base.specs.declared.command.Change.{Change}
use Rattle.dri_base.specs.declared.command.Change.TheVariants.{Map, Unmap, Move, Resize, Raise, Lower}
use Rattle.dri_model.specs.Stacks.{Refusal}
use Rattle.dri_clips.specs.declared.change.ChangeFault.{ChangeFault}
use Rattle.dri_clips.specs.declared.change.ChangeFault.TheVariants as Fault_is

-- the fault that tells a refusal
abbrev pub fault_of : Refusal → ChangeFault
fault_of Refusal.NoWindow = Fault_is.NoWindow
fault_of Refusal.OutOfRange = Fault_is.OutOfRange
fault_of Refusal.AlreadyMapped = Fault_is.AlreadyMapped
fault_of Refusal.NotMapped = Fault_is.NotMapped

-- there is a refusal, and the fault tells it
pub record IsRefused (refusal : Option Refusal) (fault : ChangeFault) : Type 0 where
  pub why : Refusal
  pub is : refusal ≡ Some why
  pub told : fault ≡ fault_of why

-- the window after a change of it
abbrev pub altered_by : Change → Window → Window
altered_by (Map n) w = record w { mapped = true }
altered_by (Unmap n) w = record w { mapped = false }
altered_by (Move n x y) w = record w { x = x; y = y }
altered_by (Resize n width height) w = record w { width = width; height = height }
altered_by (Raise n) w = w
altered_by (Lower n) w = w

-- the place of the changed window afterwards, where it was at this place and the lowest place is the last
abbrev pub destination : Change → ℕ → ℕ → ℕ
destination (Raise n) at last = 0
destination (Lower n) at last = last
destination change at last = at
