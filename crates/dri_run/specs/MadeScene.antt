-- What making a scene for load gives.
use Rattle.std.specs.Prelude.{◌≡◌, ℕ, List, ◌++◌, codes}
use Rattle.std.specs.Fmt.{decimal}
use Rattle.dri_base.specs.declared.journal.Event.{Event}
use Rattle.dri_core.specs.Cores.{journal_of}
use Rattle.dri_journal.specs.Checks.{IsReport, Tells}
use Rattle.dri_journal.specs.declared.answer.Report.{Report}
use Rattle.dri_scene.specs.Generator.{generator}
use Rattle.dri_scene.specs.Texts.{scene_text}
use Rattle.dri_run.specs.ScheduledRun.{IsRunOf}

-- the line of the frames that ran and of those that stood
abbrev pub frames_line : Report → List ℕ
frames_line r = codes "frames " ++ (decimal r.frames ++ (codes " stood " ++ (decimal r.stood ++ codes "\n")))

-- the report of the scene of n clients: of the journal of its run by its schedule, which is empty, and then by rounds
pub record IsMadeReport (n : ℕ) (report : Report) : Type 0 where
  pub events : List Event
  pub run : IsRunOf (generator n) events
  pub is : IsReport (generator n) (journal_of events) report
  pub tells : Tells (generator n) (journal_of events) report

-- the picture gains the text of the scene of n clients, and the notes how many frames run in it, and how many of them stand
pub record GivesMade (n : ℕ) (image text : List ℕ) : Type 0 where
  pub report : Report
  pub is : IsMadeReport n report
  pub picture : image ≡ scene_text (generator n)
  pub notes : text ≡ frames_line report
