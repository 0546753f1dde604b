-- What a replay by a card that flips answers.
use Rattle.std.specs.Prelude.{◌≡◌, List, Result, Ok, Err}
use Rattle.dri_base.specs.Planes.{plane}
use Rattle.dri_base.specs.declared.journal.Entry.{Entry}
use Rattle.dri_base.specs.declared.scene.Scene.{Scene}
use Rattle.dri_core.specs.FirstBad.{IsFirstBad}
use Rattle.dri_core.specs.Runs.{HoldRun, after}
use Rattle.dri_flip.specs.Owings.{owing}
use Rattle.dri_replay.specs.declared.fault.ReplayFault.{ReplayFault}
use Rattle.dri_replay.specs.declared.fault.ReplayFault.TheVariants as faults
use Rattle.dri_flip.specs.declared.shown.Shown.{Shown}

-- what is shown of a hold-run: the screen's front after it, and the flips and copies that are counted
pub record IsShown (s : Scene) (journal : List Entry) (shown : Shown) : Type 0 where
  pub run : HoldRun s journal
  pub width : shown.picture.width ≡ s.width
  pub height : shown.picture.height ≡ s.height
  pub pixels : shown.picture.pixels ≡ plane s.width s.height (after s journal).front
  pub flips : shown.flips ≡ (owing s journal).flips
  pub copies : shown.copies ≡ (owing s journal).copies

-- a replay shows a hold-run, or names the first entry that isn't legal, unless memory ran out
abbrev pub Replays : Scene → List Entry → Result Shown ReplayFault → Type 0
Replays s journal (Ok shown) = IsShown s journal shown
Replays s journal (Err (faults.NotARun entry)) = IsFirstBad s journal entry
Replays s journal (Err faults.OutOfMemory) = Unit {0}
