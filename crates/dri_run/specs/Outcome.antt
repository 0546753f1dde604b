-- What each answer of a top call says. `Gives` says what may be given of what was read: the picture's bytes, and those of the notes.
use Rattle.std.specs.Prelude.{ℕ, ◌≤◌, List, length}
use Rattle.std.specs.declared.option.Option.{Option}
use Rattle.dri_run.specs.Gains.{Gains, GainsNothing, Sunk, Written}
use Rattle.dri_run.specs.Notices.{line_of}
use Rattle.dri_run.specs.Readings.{HasNone, IsTextOf, Kind}
use Rattle.dri_run.specs.declared.status.Status.{Status}
use Rattle.dri_run.specs.declared.status.Status.TheVariants as answers

-- what was read ran, and picture and notes were written, or one of their sinks failed
pub record Ran {A : Type 0} (Gives : A → List ℕ → List ℕ → Type 0) (status : Status) (input : A) (picture notes : Sunk) : Type 0 where
  pub image : List ℕ
  pub text : List ℕ
  pub given : Gives input image text
  pub written : Written status picture notes image text

-- what comes of what was read, as a scene in range
abbrev pub Runs : {A : Type 0} → (A → List ℕ → List ℕ → Type 0) → Status → A → Sunk → Sunk → Type 0
Runs Gives answers.Done input picture notes = Ran Gives answers.Done input picture notes
Runs Gives answers.WriteFault input picture notes = Ran Gives answers.WriteFault input picture notes
Runs Gives answers.OutOfMemory input picture notes = GainsNothing picture × GainsNothing notes
Runs Gives _ input picture notes = ⊥

-- the bytes spell one thing, as the text of one scene, and it ran
pub record RanText {A : Type 0} (IsText : A → List ℕ → Option (List ℕ) → Type 0) (Gives : A → List ℕ → List ℕ → Type 0) (status : Status) (given : List ℕ) (left : Option (List ℕ)) (picture notes : Sunk) : Type 0 where
  pub input : A
  pub text : IsText input given left
  pub ran : Ran Gives status input picture notes

-- an answer to the bytes that were given: what they spell ran; else nothing was written, and Fails says why
abbrev pub SaysOf : {A : Type 0} → (A → List ℕ → Option (List ℕ) → Type 0) → (Status → List ℕ → Option (List ℕ) → Type 0) → (A → List ℕ → List ℕ → Type 0) → Status → List ℕ → Option (List ℕ) → Sunk → Sunk → Type 0
SaysOf IsText Fails Gives answers.Done given left picture notes = RanText IsText Gives answers.Done given left picture notes
SaysOf IsText Fails Gives answers.WriteFault given left picture notes = RanText IsText Gives answers.WriteFault given left picture notes
SaysOf IsText Fails Gives status given left picture notes = Fails status given left × GainsNothing picture × GainsNothing notes

-- an answer to the bytes that were given: what they spell ran, as a scene; else nothing was written
abbrev pub Says : {A : Type 0} → Kind A → (A → List ℕ → List ℕ → Type 0) → Status → List ℕ → Option (List ℕ) → Sunk → Sunk → Type 0
Says kind Gives status given left picture notes = SaysOf (IsTextOf kind) (HasNone kind) Gives status given left picture notes

-- the line of the status was written last, where it has one
abbrev pub Tells : Status → Sunk → Type 0
Tells answers.Done notes = GainsNothing notes
Tells status notes = Gains notes (line_of status)

-- what a call says: of the words and the bytes first, and then by the status's line
pub record Answers (Said : Status → List ℕ → Option (List ℕ) → Sunk → Sunk → Type 0) (status : Status) (given : List ℕ) (left : Option (List ℕ)) (picture notes : Sunk) : Type 0 where
  -- what the notes held before the line, and their count of faults then
  pub held_then : Option (List ℕ)
  pub count_then : ℕ
  pub said : Said status given left picture (record notes { holds = held_then; now = count_then })
  pub told : Tells status (record notes { held = held_then; before = count_then })
  pub earlier : notes.before ≤ count_then
  pub later : count_then ≤ notes.now

-- two sinks take, without a fault, whatever what was read gives, as a run of a scene
abbrev pub AreTaken : {A : Type 0} → (A → List ℕ → List ℕ → Type 0) → (ℕ → Type 0) → (ℕ → Type 0) → A → Type 0
AreTaken Gives picture notes input = (image text : List ℕ) → Gives input image text → picture (length image) × notes (length text)
