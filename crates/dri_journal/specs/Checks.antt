-- What a check of a journal answers.
use Rattle.std.specs.Prelude.{◌≡◌, ◌↔◌, true, List, length, Result, Ok, Err}
use Rattle.dri_base.specs.declared.journal.Entry.{Entry}
use Rattle.dri_base.specs.declared.scene.Scene.{Scene}
use Rattle.dri_core.specs.FirstBad.{IsFirstBad}
use Rattle.dri_core.specs.Frames.{Counts, FrameRan, FrameStood}
use Rattle.dri_core.specs.Runs.{HoldRun, Whole}
use Rattle.dri_journal.specs.declared.answer.CheckFault.{CheckFault}
use Rattle.dri_journal.specs.declared.answer.CheckFault.TheVariants as faults
use Rattle.dri_journal.specs.declared.answer.Report.{Report}
use Rattle.dri_meaning.specs.Reports.{is_whole, tally}

-- the report of a hold-run: its entries, the frames that it ran and those of them that stood as they are tallied, and whether it is whole
pub record IsReport (s : Scene) (journal : List Entry) (report : Report) : Type 0 where
  pub run : HoldRun s journal
  pub entries : report.entries ≡ length journal
  pub frames : report.frames ≡ (tally s journal).frames
  pub stood : report.stood ≡ (tally s journal).stood
  pub whole : report.whole ≡ is_whole s journal

-- what a report means: so many frames ran that begin with a clear, so many of them stood, and whether nothing is left to do
pub record Tells (s : Scene) (journal : List Entry) (report : Report) : Type 0 where
  pub frames : Counts (FrameRan s journal) report.frames
  pub stood : Counts (FrameStood s journal) report.stood
  pub whole : (report.whole ≡ true) ↔ Whole s journal

-- a check of a journal answers the report of a hold-run, or the first entry that isn't legal, unless memory ran out
abbrev pub Judges : Scene → List Entry → Result Report CheckFault → Type 0
Judges s journal (Ok report) = IsReport s journal report
Judges s journal (Err (faults.NotARun entry)) = IsFirstBad s journal entry
Judges s journal (Err faults.OutOfMemory) = Unit {0}
