-- What the history of a place answers.
use Rattle.std.specs.Prelude.{ℕ, List, Result, Ok, Err}
use Rattle.dri_base.specs.declared.journal.Entry.{Entry}
use Rattle.dri_base.specs.declared.scene.Scene.{Scene}
use Rattle.dri_core.specs.FirstBad.{IsFirstBad}
use Rattle.dri_core.specs.Runs.{HoldRun}
use Rattle.dri_core.specs.Worlds.{opening}
use Rattle.dri_history.specs.Touches.{AreTouches}
use Rattle.dri_history.specs.declared.touch.Touch.{Touch}
use Rattle.dri_replay.specs.declared.fault.ReplayFault.{ReplayFault}
use Rattle.dri_replay.specs.declared.fault.ReplayFault.TheVariants as faults

-- the touches of a place by a hold-run, or the first entry that isn't legal, unless memory ran out
abbrev pub HasHistory : Scene → List Entry → ℕ → ℕ → Result (List Touch) ReplayFault → Type 0
HasHistory s journal x y (Ok touches) = HoldRun s journal × AreTouches s (opening s) 1 journal x y touches
HasHistory s journal x y (Err (faults.NotARun entry)) = IsFirstBad s journal entry
HasHistory s journal x y (Err faults.OutOfMemory) = Unit {0}
