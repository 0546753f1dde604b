-- What the screen shows after some entries of a recording's journal.
use Rattle.std.specs.Prelude.{◌≡◌, ℕ, ◌<◌, ◌≤◌, List, [], length, take}
use Rattle.dri_core.specs.FirstBad.{IsFirstBad}
use Rattle.dri_core.specs.Runs.{HoldRun}
use Rattle.dri_run.specs.Recordings.{screen_after}
use Rattle.dri_run.specs.declared.recording.Recording.{Recording}
use Rattle.dri_run.specs.declared.status.Status.TheVariants as answers
use Rattle.dri_lab_run.specs.declared.status.LabStatus.{LabStatus}
use Rattle.dri_lab_run.specs.declared.status.LabStatus.TheVariants as lab

-- the recording's scene with the first n entries of its journal
abbrev pub first_entries : ℕ → Recording → Recording
first_entries n recording = record recording { journal = take n recording.journal }

-- the journal has n entries or more, and the first n are a hold-run of the scene: the picture is the screen after them, and the notes gain nothing
pub record GivesAfter (n : ℕ) (recording : Recording) (image text : List ℕ) : Type 0 where
  pub there : n ≤ length recording.journal
  pub run : HoldRun recording.scene (take n recording.journal)
  pub picture : image ≡ screen_after (first_entries n recording)
  pub notes : text ≡ []

-- the journal has fewer than n entries, and is told to have as many as it has; or this entry of the first n isn't legal after those before it
abbrev pub RefusesAfter : ℕ → Recording → LabStatus → Type 0
RefusesAfter n recording (lab.NoEntry entries) = (entries ≡ length recording.journal) × (entries < n)
RefusesAfter n recording (lab.Common (answers.NotARun entry)) = (n ≤ length recording.journal) × IsFirstBad recording.scene (take n recording.journal) entry
RefusesAfter n recording _ = ⊥
