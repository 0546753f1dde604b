-- What each answer of the laboratory's top call says. `Gives` says what may be given of what was read: the picture's bytes, and
-- those of the notes. `Refuses` says by which status what was read is refused.
use Rattle.std.specs.Prelude.{◌≡◌, ℕ, ◌≤◌, List, length, Result, Ok, Err}
use Rattle.std.specs.declared.option.Option.{Option}
use Rattle.dri_base.specs.Ranges.{InRange}
use Rattle.dri_run.specs.Gains.{Gains, GainsNothing, Sunk}
use Rattle.dri_run.specs.Outcome.{Ran, RanText}
use Rattle.dri_run.specs.Readings.{HasNone, IsReadWithin, IsRefusalOf, IsTextOf, Kind}
use Rattle.dri_run.specs.declared.status.Status.TheVariants as answers
use Rattle.dri_run.specs.declared.writing.Output.{Output}
use Rattle.dri_lab_run.specs.Notices.{line_of}
use Rattle.dri_lab_run.specs.declared.status.LabStatus.{LabStatus}
use Rattle.dri_lab_run.specs.declared.status.LabStatus.TheVariants as lab

-- what is made of what was read: what is given, or the status that refuses it, unless memory ran out
abbrev pub Makes : {A : Type 0} → (A → List ℕ → List ℕ → Type 0) → (A → LabStatus → Type 0) → Result Output LabStatus → A → Type 0
Makes Gives Refuses (Ok output) input = Gives input output.picture output.notes
Makes Gives Refuses (Err (lab.Common (answers.NotARun entry))) input = Refuses input (lab.Common (answers.NotARun entry))
Makes Gives Refuses (Err (lab.Common answers.OutOfMemory)) input = Unit {0}
Makes Gives Refuses (Err (lab.Common _)) input = ⊥
Makes Gives Refuses (Err status) input = Refuses input status

-- what comes of what was read: picture and notes were written, or one of their sinks failed; or it was refused, and nothing was written
abbrev pub Runs : {A : Type 0} → (A → List ℕ → List ℕ → Type 0) → (A → LabStatus → Type 0) → LabStatus → A → Sunk → Sunk → Type 0
Runs Gives Refuses (lab.Common answers.Done) input picture notes = Ran Gives answers.Done input picture notes
Runs Gives Refuses (lab.Common answers.WriteFault) input picture notes = Ran Gives answers.WriteFault input picture notes
Runs Gives Refuses (lab.Common answers.OutOfMemory) input picture notes = GainsNothing picture × GainsNothing notes
Runs Gives Refuses (lab.Common (answers.NotARun entry)) input picture notes = Refuses input (lab.Common (answers.NotARun entry)) × GainsNothing picture × GainsNothing notes
Runs Gives Refuses (lab.Common _) input picture notes = ⊥
Runs Gives Refuses status input picture notes = Refuses input status × GainsNothing picture × GainsNothing notes

-- the bytes spell something that gives these bytes
pub record IsGiven {A : Type 0} (kind : Kind A) (Gives : A → List ℕ → List ℕ → Type 0) (bytes : List ℕ) : Type 0 where
  pub input : A
  pub spelled : kind.spelled bytes ≡ Ok input
  pub in_range : InRange (kind.scene input)
  pub image : List ℕ
  pub text : List ℕ
  pub given : Gives input image text

-- the bytes spell something that this status refuses
pub record IsRefused {A : Type 0} (kind : Kind A) (Refuses : A → LabStatus → Type 0) (status : LabStatus) (bytes : List ℕ) : Type 0 where
  pub input : A
  pub spelled : kind.spelled bytes ≡ Ok input
  pub in_range : InRange (kind.scene input)
  pub refused : Refuses input status

-- why the bytes that were given give nothing
abbrev pub Fails : {A : Type 0} → Kind A → (A → LabStatus → Type 0) → LabStatus → List ℕ → Option (List ℕ) → Type 0
Fails kind Refuses (lab.Common (answers.NotARun entry)) given left = IsReadWithin kind.most given left × IsRefused kind Refuses (lab.Common (answers.NotARun entry)) given
Fails kind Refuses (lab.Common status) given left = HasNone kind status given left
Fails kind Refuses status given left = IsReadWithin kind.most given left × IsRefused kind Refuses status given

-- an answer to the bytes that were given: what they spell gave something, and it was written; else nothing was
abbrev pub Says : {A : Type 0} → Kind A → (A → List ℕ → List ℕ → Type 0) → (A → LabStatus → Type 0) → LabStatus → List ℕ → Option (List ℕ) → Sunk → Sunk → Type 0
Says kind Gives Refuses (lab.Common answers.Done) given left picture notes = RanText (IsTextOf kind) Gives answers.Done given left picture notes
Says kind Gives Refuses (lab.Common answers.WriteFault) given left picture notes = RanText (IsTextOf kind) Gives answers.WriteFault given left picture notes
Says kind Gives Refuses status given left picture notes = Fails kind Refuses status given left × GainsNothing picture × GainsNothing notes

-- the answer to all the bytes of a source where nothing fails
abbrev pub IsAnswer : {A : Type 0} → Kind A → (A → List ℕ → List ℕ → Type 0) → (A → LabStatus → Type 0) → LabStatus → List ℕ → Type 0
IsAnswer kind Gives Refuses (lab.Common answers.Done) bytes = (length bytes ≤ kind.most) × IsGiven kind Gives bytes
IsAnswer kind Gives Refuses (lab.Common (answers.NotARun entry)) bytes = (length bytes ≤ kind.most) × IsRefused kind Refuses (lab.Common (answers.NotARun entry)) bytes
IsAnswer kind Gives Refuses (lab.Common status) bytes = IsRefusalOf kind status bytes
IsAnswer kind Gives Refuses status bytes = (length bytes ≤ kind.most) × IsRefused kind Refuses status bytes

-- the line of the status was written last, where it has one
abbrev pub Tells : LabStatus → Sunk → Type 0
Tells (lab.Common answers.Done) notes = GainsNothing notes
Tells status notes = Gains notes (line_of status)

-- what the top call says: of the words and the bytes first, and then by the status's line
pub record Answers (Said : LabStatus → List ℕ → Option (List ℕ) → Sunk → Sunk → Type 0) (status : LabStatus) (given : List ℕ) (left : Option (List ℕ)) (picture notes : Sunk) : Type 0 where
  -- what the notes held before the line, and their count of faults then
  pub held_then : Option (List ℕ)
  pub count_then : ℕ
  pub said : Said status given left picture (record notes { holds = held_then; now = count_then })
  pub told : Tells status (record notes { held = held_then; before = count_then })
  pub earlier : notes.before ≤ count_then
  pub later : count_then ≤ notes.now
