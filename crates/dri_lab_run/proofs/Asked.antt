-- What comes of what was read, and what that says of the bytes.
use Rattle.std.proofs.Common.{◌≡◌, ℕ, ◌⊎◌, List, Option, Ok, Err, refl, ap, inl, inr}
use Rattle.dri_base.specs.Ranges.{InRange}
use Rattle.dri_io.specs.Causes.{Rose}
use Rattle.dri_run.specs.Gains.{GainsNothing, Sunk}
use Rattle.dri_run.specs.Readings.{HasNone, IsDecided, IsRefusalOf, IsTextOf, Kind}
use Rattle.dri_run.specs.declared.status.Status.{Status}
use Rattle.dri_run.specs.declared.status.Status.TheVariants as answers
use Rattle.dri_lab_run.specs.Outcome.{IsAnswer, Runs, Says}
use Rattle.dri_lab_run.specs.declared.status.LabStatus.{LabStatus}
use Rattle.dri_lab_run.specs.declared.status.LabStatus.TheVariants as lab

-- what spells nothing is refused, where nothing was written
pub says_refused : {A : Type 0} (kind : Kind A) (Gives : A → List ℕ → List ℕ → Type 0) (Refuses : A → LabStatus → Type 0) (status : Status) (given : List ℕ) (left : Option (List ℕ)) (picture notes : Sunk) → HasNone kind status given left → GainsNothing picture → GainsNothing notes →
    Says kind Gives Refuses (lab.Common status) given left picture notes
says_refused kind Gives Refuses (answers.NotARun entry) given left picture notes none still quiet = absurd none
says_refused kind Gives Refuses answers.Done given left picture notes none still quiet = absurd none
says_refused kind Gives Refuses answers.Usage given left picture notes none still quiet = absurd none
says_refused kind Gives Refuses (answers.Refused line reason) given left picture notes none still quiet = (none, still, quiet)
says_refused kind Gives Refuses answers.TooLong given left picture notes none still quiet = (none, still, quiet)
says_refused kind Gives Refuses answers.ReadFault given left picture notes none still quiet = (none, still, quiet)
says_refused kind Gives Refuses answers.WriteFault given left picture notes none still quiet = absurd none
says_refused kind Gives Refuses answers.OutOfMemory given left picture notes none still quiet = (none, still, quiet)

-- and it is the answer
refusal_answers : {A : Type 0} (kind : Kind A) (Gives : A → List ℕ → List ℕ → Type 0) (Refuses : A → LabStatus → Type 0) (status : Status) (bytes : List ℕ) → IsRefusalOf kind status bytes → IsAnswer kind Gives Refuses (lab.Common status) bytes
refusal_answers kind Gives Refuses (answers.NotARun entry) bytes none = absurd none
refusal_answers kind Gives Refuses answers.Done bytes none = absurd none
refusal_answers kind Gives Refuses answers.Usage bytes none = none
refusal_answers kind Gives Refuses (answers.Refused line reason) bytes none = none
refusal_answers kind Gives Refuses answers.TooLong bytes none = none
refusal_answers kind Gives Refuses answers.ReadFault bytes none = none
refusal_answers kind Gives Refuses answers.WriteFault bytes none = none
refusal_answers kind Gives Refuses answers.OutOfMemory bytes none = none

pub refused : {A : Type 0} (kind : Kind A) (Gives : A → List ℕ → List ℕ → Type 0) (Refuses : A → LabStatus → Type 0) (status : Status) (bytes : List ℕ) → IsDecided kind (Err status) bytes →
    IsAnswer kind Gives Refuses (lab.Common status) bytes ⊎ (lab.Common status ≡ lab.Common answers.OutOfMemory)
refused kind Gives Refuses status bytes decided = elim decided as (λ _. IsAnswer kind Gives Refuses (lab.Common status) bytes ⊎ (lab.Common status ≡ lab.Common answers.OutOfMemory)) [
  | inl refusal ↦ inl (refusal_answers kind Gives Refuses status bytes refusal)
  | inr short ↦ inr (ap lab.Common short)
]

-- what comes of what the bytes spell answers them
pub says_ran : {A : Type 0} (kind : Kind A) (Gives : A → List ℕ → List ℕ → Type 0) (Refuses : A → LabStatus → Type 0) (status : LabStatus) (input : A) (given : List ℕ) (left : Option (List ℕ)) (picture notes : Sunk) → IsTextOf kind input given left → Runs Gives Refuses status input picture notes →
    Says kind Gives Refuses status given left picture notes
says_ran kind Gives Refuses (lab.Common answers.Done) input given left picture notes text ran = record { input = input; text = text; ran = ran }
says_ran kind Gives Refuses (lab.Common answers.WriteFault) input given left picture notes text ran = record { input = input; text = text; ran = ran }
says_ran kind Gives Refuses (lab.Common answers.OutOfMemory) input given left picture notes text nothing = (tt, nothing.0, nothing.1)
says_ran kind Gives Refuses (lab.Common (answers.NotARun entry)) input given left picture notes text bad =
    ((text.read, record { input = input; spelled = text.spelled; in_range = text.in_range; refused = bad.0 }), bad.1, bad.2)
says_ran kind Gives Refuses (lab.Common answers.Usage) input given left picture notes text wrong = absurd wrong
says_ran kind Gives Refuses (lab.Common (answers.Refused line reason)) input given left picture notes text wrong = absurd wrong
says_ran kind Gives Refuses (lab.Common answers.TooLong) input given left picture notes text wrong = absurd wrong
says_ran kind Gives Refuses (lab.Common answers.ReadFault) input given left picture notes text wrong = absurd wrong
says_ran kind Gives Refuses (lab.NoEntry entries) input given left picture notes text bad =
    ((text.read, record { input = input; spelled = text.spelled; in_range = text.in_range; refused = bad.0 }), bad.1, bad.2)
says_ran kind Gives Refuses (lab.NoPlace width height) input given left picture notes text bad =
    ((text.read, record { input = input; spelled = text.spelled; in_range = text.in_range; refused = bad.0 }), bad.1, bad.2)
says_ran kind Gives Refuses lab.TooMany input given left picture notes text bad =
    ((text.read, record { input = input; spelled = text.spelled; in_range = text.in_range; refused = bad.0 }), bad.1, bad.2)

-- where no sink failed, what comes of what was read is the answer
pub ran_decides : {A : Type 0} (kind : Kind A) (Gives : A → List ℕ → List ℕ → Type 0) (Refuses : A → LabStatus → Type 0) (status : LabStatus) (input : A) (bytes : List ℕ) (picture notes : Sunk) → InRange (kind.scene input) → IsDecided kind (Ok input) bytes →
    Runs Gives Refuses status input picture notes → (status ≡ lab.Common answers.WriteFault → ⊥) → IsAnswer kind Gives Refuses status bytes ⊎ (status ≡ lab.Common answers.OutOfMemory)
ran_decides kind Gives Refuses (lab.Common answers.Done) input bytes picture notes good decided ran whole =
    inl (decided.0, record { input = input; spelled = decided.1; in_range = good; image = ran.image; text = ran.text; given = ran.given })
ran_decides kind Gives Refuses (lab.Common answers.WriteFault) input bytes picture notes good decided ran whole = absurd (whole refl)
ran_decides kind Gives Refuses (lab.Common answers.OutOfMemory) input bytes picture notes good decided nothing whole = inr refl
ran_decides kind Gives Refuses (lab.Common (answers.NotARun entry)) input bytes picture notes good decided bad whole =
    inl (decided.0, record { input = input; spelled = decided.1; in_range = good; refused = bad.0 })
ran_decides kind Gives Refuses (lab.Common answers.Usage) input bytes picture notes good decided wrong whole = absurd wrong
ran_decides kind Gives Refuses (lab.Common (answers.Refused line reason)) input bytes picture notes good decided wrong whole = absurd wrong
ran_decides kind Gives Refuses (lab.Common answers.TooLong) input bytes picture notes good decided wrong whole = absurd wrong
ran_decides kind Gives Refuses (lab.Common answers.ReadFault) input bytes picture notes good decided wrong whole = absurd wrong
ran_decides kind Gives Refuses (lab.NoEntry entries) input bytes picture notes good decided bad whole =
    inl (decided.0, record { input = input; spelled = decided.1; in_range = good; refused = bad.0 })
ran_decides kind Gives Refuses (lab.NoPlace width height) input bytes picture notes good decided bad whole =
    inl (decided.0, record { input = input; spelled = decided.1; in_range = good; refused = bad.0 })
ran_decides kind Gives Refuses lab.TooMany input bytes picture notes good decided bad whole =
    inl (decided.0, record { input = input; spelled = decided.1; in_range = good; refused = bad.0 })

-- and where no count rose, none did
pub none_failed : {A : Type 0} (Gives : A → List ℕ → List ℕ → Type 0) (Refuses : A → LabStatus → Type 0) (status : LabStatus) (input : A) (picture notes : Sunk) → Runs Gives Refuses status input picture notes → (Rose picture.before picture.now → ⊥) → (Rose notes.before notes.now → ⊥) →
    status ≡ lab.Common answers.WriteFault → ⊥
none_failed Gives Refuses (lab.Common answers.WriteFault) input picture notes ran calm quiet is = elim ran.written as (λ _. ⊥) [
  | inl failed ↦ calm failed.0.rose
  | inr failed ↦ quiet failed.1.rose
]
none_failed Gives Refuses (lab.Common (answers.NotARun entry)) input picture notes ran calm quiet is = absurd (cc)
none_failed Gives Refuses (lab.Common answers.Done) input picture notes ran calm quiet is = absurd (cc)
none_failed Gives Refuses (lab.Common answers.OutOfMemory) input picture notes ran calm quiet is = absurd (cc)
none_failed Gives Refuses (lab.Common answers.Usage) input picture notes wrong calm quiet is = wrong
none_failed Gives Refuses (lab.Common (answers.Refused line reason)) input picture notes wrong calm quiet is = wrong
none_failed Gives Refuses (lab.Common answers.TooLong) input picture notes wrong calm quiet is = wrong
none_failed Gives Refuses (lab.Common answers.ReadFault) input picture notes wrong calm quiet is = wrong
none_failed Gives Refuses (lab.NoEntry entries) input picture notes ran calm quiet is = absurd (cc)
none_failed Gives Refuses (lab.NoPlace width height) input picture notes ran calm quiet is = absurd (cc)
none_failed Gives Refuses lab.TooMany input picture notes ran calm quiet is = absurd (cc)
