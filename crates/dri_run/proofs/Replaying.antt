-- What comes of a recording that is replayed, and what that says of the bytes.
use Rattle.std.proofs.Common.{◌≡◌, ℕ, ◌≤◌, ◌⊎◌, List, Option, Ok, Err, length, refl, inl, inr}
use Rattle.dri_base.specs.Ranges.{InRange}
use Rattle.dri_core.specs.Runs.{HoldRun}
use Rattle.dri_io.specs.Causes.{Rose}
use Rattle.dri_run.specs.Gains.{GainsNothing, Sunk}
use Rattle.dri_run.specs.Readings.{HasNone, IsDecided, IsRefusalOf, IsTextOf, most_behind}
use Rattle.dri_run.specs.Recordings.{recordings}
use Rattle.dri_run.specs.Replays.{GivesReplay, IsReplayAnswer, IsRunOfBytes, RunsReplay, SaysReplay}
use Rattle.dri_run.specs.declared.form.Replaying.{Replaying}
use Rattle.dri_run.specs.declared.form.Replaying.TheVariants.{Check, Flip, Ring, Sixteen}
use Rattle.dri_run.specs.declared.recording.Recording.{Recording}
use Rattle.dri_run.specs.declared.status.Status.{Status}
use Rattle.dri_run.specs.declared.status.Status.TheVariants as answers

-- what has no recording is refused, where nothing was written
pub says_refused : (word : Replaying) (status : Status) (given : List ℕ) (left : Option (List ℕ)) (picture notes : Sunk) → HasNone recordings status given left → GainsNothing picture → GainsNothing notes → SaysReplay word status given left picture notes
says_refused word (answers.NotARun entry) given left picture notes none still quiet = absurd none
says_refused word answers.Done given left picture notes none still quiet = absurd none
says_refused word answers.Usage given left picture notes none still quiet = absurd none
says_refused word (answers.Refused line reason) given left picture notes none still quiet = (none, still, quiet)
says_refused word answers.TooLong given left picture notes none still quiet = (none, still, quiet)
says_refused word answers.ReadFault given left picture notes none still quiet = (none, still, quiet)
says_refused word answers.WriteFault given left picture notes none still quiet = absurd none
says_refused word answers.OutOfMemory given left picture notes none still quiet = (none, still, quiet)

-- and it is the answer
refusal_answers : (status : Status) (bytes : List ℕ) → IsRefusalOf recordings status bytes → IsReplayAnswer status bytes
refusal_answers (answers.NotARun entry) bytes none = absurd none
refusal_answers answers.Done bytes none = absurd none
refusal_answers answers.Usage bytes none = none
refusal_answers (answers.Refused line reason) bytes none = none
refusal_answers answers.TooLong bytes none = none
refusal_answers answers.ReadFault bytes none = none
refusal_answers answers.WriteFault bytes none = none
refusal_answers answers.OutOfMemory bytes none = none

pub refused : (status : Status) (bytes : List ℕ) → IsDecided recordings (Err status) bytes → IsReplayAnswer status bytes ⊎ (status ≡ answers.OutOfMemory)
refused status bytes decided = elim decided as (λ _. IsReplayAnswer status bytes ⊎ (status ≡ answers.OutOfMemory)) [
  | inl refusal ↦ inl (refusal_answers status bytes refusal)
  | inr short ↦ inr short
]

-- what comes of the recording of the bytes answers them
pub says_replayed : (word : Replaying) (status : Status) (recording : Recording) (given : List ℕ) (left : Option (List ℕ)) (picture notes : Sunk) → IsTextOf recordings recording given left → RunsReplay word status recording picture notes → SaysReplay word status given left picture notes
says_replayed word (answers.NotARun entry) recording given left picture notes text bad =
    ((text.read, record { recording = recording; spelled = text.spelled; bad = bad.0 }), bad.1, bad.2)
says_replayed word answers.Done recording given left picture notes text ran = record { input = recording; text = text; ran = ran }
says_replayed word answers.WriteFault recording given left picture notes text ran = record { input = recording; text = text; ran = ran }
says_replayed word answers.OutOfMemory recording given left picture notes text nothing = (tt, nothing.0, nothing.1)
says_replayed word answers.Usage recording given left picture notes text wrong = absurd wrong
says_replayed word (answers.Refused line reason) recording given left picture notes text wrong = absurd wrong
says_replayed word answers.TooLong recording given left picture notes text wrong = absurd wrong
says_replayed word answers.ReadFault recording given left picture notes text wrong = absurd wrong

-- what a word gives, it gives of a hold-run
given_run : (word : Replaying) (recording : Recording) (image text : List ℕ) → GivesReplay word recording image text → HoldRun recording.scene recording.journal
given_run Check recording image text gives = gives.is.run
given_run Flip recording image text gives = gives.run
given_run (Ring room) recording image text gives = gives.run
given_run Sixteen recording image text gives = gives.run

-- a recording that was replayed is a hold-run
hold_run : (word : Replaying) (recording : Recording) (bytes image text : List ℕ) → InRange recording.scene → IsDecided recordings (Ok recording) bytes → GivesReplay word recording image text → (length bytes ≤ most_behind) × IsRunOfBytes bytes
hold_run word recording bytes image text in_range decided gives =
    (decided.0, record { recording = recording; spelled = decided.1; in_range = in_range; run = given_run word recording image text gives })

-- where no sink failed, what comes of the recording is the answer
pub replayed_decides : (word : Replaying) (status : Status) (recording : Recording) (bytes : List ℕ) (picture notes : Sunk) → InRange recording.scene → IsDecided recordings (Ok recording) bytes → RunsReplay word status recording picture notes →
    (status ≡ answers.WriteFault → ⊥) → IsReplayAnswer status bytes ⊎ (status ≡ answers.OutOfMemory)
replayed_decides word (answers.NotARun entry) recording bytes picture notes in_range decided bad whole = inl (decided.0, record { recording = recording; spelled = decided.1; bad = bad.0 })
replayed_decides word answers.Done recording bytes picture notes in_range decided ran whole = inl (hold_run word recording bytes ran.image ran.text in_range decided ran.given)
replayed_decides word answers.WriteFault recording bytes picture notes in_range decided ran whole = absurd (whole refl)
replayed_decides word answers.OutOfMemory recording bytes picture notes in_range decided nothing whole = inr refl
replayed_decides word answers.Usage recording bytes picture notes in_range decided wrong whole = absurd wrong
replayed_decides word (answers.Refused line reason) recording bytes picture notes in_range decided wrong whole = absurd wrong
replayed_decides word answers.TooLong recording bytes picture notes in_range decided wrong whole = absurd wrong
replayed_decides word answers.ReadFault recording bytes picture notes in_range decided wrong whole = absurd wrong

-- and where no count rose, none did
pub none_failed : (word : Replaying) (status : Status) (recording : Recording) (picture notes : Sunk) → RunsReplay word status recording picture notes → (Rose picture.before picture.now → ⊥) → (Rose notes.before notes.now → ⊥) → status ≡ answers.WriteFault → ⊥
none_failed word answers.WriteFault recording picture notes ran calm quiet is = elim ran.written as (λ _. ⊥) [
  | inl failed ↦ calm failed.0.rose
  | inr failed ↦ quiet failed.1.rose
]
none_failed word (answers.NotARun entry) recording picture notes ran calm quiet is = absurd (cc)
none_failed word answers.Done recording picture notes ran calm quiet is = absurd (cc)
none_failed word answers.OutOfMemory recording picture notes ran calm quiet is = absurd (cc)
none_failed word answers.Usage recording picture notes wrong calm quiet is = wrong
none_failed word (answers.Refused line reason) recording picture notes wrong calm quiet is = wrong
none_failed word answers.TooLong recording picture notes wrong calm quiet is = wrong
none_failed word answers.ReadFault recording picture notes wrong calm quiet is = wrong
