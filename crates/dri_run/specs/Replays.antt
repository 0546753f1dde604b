-- What the words answer that read a recording and replay its journal.
use Rattle.std.specs.Prelude.{◌≡◌, ℕ, ◌≤◌, List, length, Result, Ok, Err}
use Rattle.std.specs.declared.option.Option.{Option}
use Rattle.dri_base.specs.Ranges.{InRange}
use Rattle.dri_core.specs.FirstBad.{IsFirstBad}
use Rattle.dri_core.specs.Runs.{HoldRun}
use Rattle.dri_replay.specs.declared.fault.ReplayFault.{ReplayFault}
use Rattle.dri_replay.specs.declared.fault.ReplayFault.TheVariants as faults
use Rattle.dri_run.specs.CheckedRun.{GivesReport}
use Rattle.dri_run.specs.FlippedRun.{GivesFlipped}
use Rattle.dri_run.specs.Gains.{GainsNothing, Sunk}
use Rattle.dri_run.specs.Outcome.{Runs, SaysOf}
use Rattle.dri_run.specs.Readings.{HasNone, IsReadWithin, IsRefusalOf, IsTextOf, most_behind}
use Rattle.dri_run.specs.Recordings.{recording_of, recordings}
use Rattle.dri_run.specs.RingedRun.{GivesRinged}
use Rattle.dri_run.specs.SixteenRun.{GivesSixteen}
use Rattle.dri_run.specs.declared.form.Replaying.{Replaying}
use Rattle.dri_run.specs.declared.form.Replaying.TheVariants.{Check, Flip, Ring, Sixteen}
use Rattle.dri_run.specs.declared.recording.Recording.{Recording}
use Rattle.dri_run.specs.declared.status.Status.{Status}
use Rattle.dri_run.specs.declared.status.Status.TheVariants as answers
use Rattle.dri_run.specs.declared.writing.Output.{Output}

-- the status for a journal that wasn't replayed
abbrev pub unreplayed : ReplayFault → Status
unreplayed (faults.NotARun entry) = answers.NotARun entry
unreplayed faults.OutOfMemory = answers.OutOfMemory

-- what picture and notes gain of a recording
abbrev pub GivesReplay : Replaying → Recording → List ℕ → List ℕ → Type 0
GivesReplay Check recording image text = GivesReport recording image text
GivesReplay Flip recording image text = GivesFlipped recording image text
GivesReplay (Ring room) recording image text = GivesRinged room recording image text
GivesReplay Sixteen recording image text = GivesSixteen recording image text

-- what is written of a recording; or its first entry that isn't legal
abbrev pub IsReplay : Replaying → Result Output Status → Recording → Type 0
IsReplay word (Ok output) recording = GivesReplay word recording output.picture output.notes
IsReplay word (Err (answers.NotARun entry)) recording = IsFirstBad recording.scene recording.journal entry
IsReplay word (Err answers.OutOfMemory) recording = Unit {0}
IsReplay word (Err _) recording = ⊥

-- what comes of a recording: it was replayed and written; or an entry isn't legal, and nothing was written
abbrev pub RunsReplay : Replaying → Status → Recording → Sunk → Sunk → Type 0
RunsReplay word (answers.NotARun entry) recording picture notes = IsFirstBad recording.scene recording.journal entry × GainsNothing picture × GainsNothing notes
RunsReplay word status recording picture notes = Runs (GivesReplay word) status recording picture notes

-- the bytes are a recording whose journal is a hold-run of its scene
pub record IsRunOfBytes (bytes : List ℕ) : Type 0 where
  pub recording : Recording
  pub spelled : recording_of bytes ≡ Ok recording
  pub in_range : InRange recording.scene
  pub run : HoldRun recording.scene recording.journal

-- the bytes are a recording whose journal is no hold-run of its scene: this entry is the first that isn't legal
pub record IsBadEntryOf (entry : ℕ) (bytes : List ℕ) : Type 0 where
  pub recording : Recording
  pub spelled : recording_of bytes ≡ Ok recording
  pub bad : IsFirstBad recording.scene recording.journal entry

-- why the bytes that were given give nothing
abbrev pub HasNoReplay : Status → List ℕ → Option (List ℕ) → Type 0
HasNoReplay (answers.NotARun entry) given left = IsReadWithin most_behind given left × IsBadEntryOf entry given
HasNoReplay status given left = HasNone recordings status given left

-- an answer to the bytes that were given: their recording was replayed and written; else nothing was
abbrev pub SaysReplay : Replaying → Status → List ℕ → Option (List ℕ) → Sunk → Sunk → Type 0
SaysReplay word status given left picture notes = SaysOf (IsTextOf recordings) HasNoReplay (GivesReplay word) status given left picture notes

-- the answer to all the bytes of a source where nothing fails: their journal is a hold-run, or isn't, or they are refused
abbrev pub IsReplayAnswer : Status → List ℕ → Type 0
IsReplayAnswer answers.Done bytes = (length bytes ≤ most_behind) × IsRunOfBytes bytes
IsReplayAnswer (answers.NotARun entry) bytes = (length bytes ≤ most_behind) × IsBadEntryOf entry bytes
IsReplayAnswer status bytes = IsRefusalOf recordings status bytes
