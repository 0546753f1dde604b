-- What the check of a recording gives.
use Rattle.std.specs.Prelude.{◌≡◌, ℕ, List, [], ◌++◌, Bool, true, false, codes}
use Rattle.std.specs.Fmt.{decimal}
use Rattle.dri_journal.specs.Checks.{IsReport, Tells}
use Rattle.dri_journal.specs.declared.answer.Report.{Report}
use Rattle.dri_run.specs.declared.recording.Recording.{Recording}

-- nothing is left to do, or something
abbrev pub whole_word : Bool → List ℕ
whole_word true = codes "whole"
whole_word false = codes "part"

-- the line of a report
abbrev pub report_line : Report → List ℕ
report_line r = codes "entries " ++ (decimal r.entries ++ (codes " frames " ++ (decimal r.frames ++ (codes " stood " ++ (decimal r.stood ++ (codes " " ++ (whole_word r.whole ++ codes "\n")))))))

-- the recording's journal is a hold-run of its scene: the picture gains the line of its report, and the notes nothing
pub record GivesReport (recording : Recording) (image text : List ℕ) : Type 0 where
  pub report : Report
  pub is : IsReport recording.scene recording.journal report
  pub tells : Tells recording.scene recording.journal report
  pub picture : image ≡ report_line report
  pub notes : text ≡ []
