-- A reading of a text and a run of what it spells make an answer.
use Rattle.std.proofs.Common.{◌≡◌, ℕ, ◌⊎◌, List, Option, Ok, refl, sym, ◌∙◌, inl, inr}
use Rattle.dri_io.specs.Causes.{Rose}
use Rattle.dri_run.specs.Gains.{Sunk}
use Rattle.dri_run.proofs.Texts.{read_answer}
use Rattle.dri_run.specs.Outcome.{AreTaken, Runs, SaysOf}
use Rattle.dri_run.specs.Readings.{IsDecided, Kind, answer_to}
use Rattle.dri_run.specs.declared.status.Status.{Status}
use Rattle.dri_run.specs.declared.status.Status.TheVariants as answers

-- what comes of what the text spells answers the text
pub says_ran : {A : Type 0} (IsText : A → List ℕ → Option (List ℕ) → Type 0) (HasNone : Status → List ℕ → Option (List ℕ) → Type 0) (Gives : A → List ℕ → List ℕ → Type 0) (status : Status) (input : A) (given : List ℕ) (left : Option (List ℕ)) (picture notes : Sunk) →
    HasNone answers.OutOfMemory given left → IsText input given left → Runs Gives status input picture notes → SaysOf IsText HasNone Gives status given left picture notes
says_ran IsText HasNone Gives answers.Done input given left picture notes short text ran = record { input = input; text = text; ran = ran }
says_ran IsText HasNone Gives answers.WriteFault input given left picture notes short text ran = record { input = input; text = text; ran = ran }
says_ran IsText HasNone Gives answers.OutOfMemory input given left picture notes short text nothing = (short, nothing.0, nothing.1)
says_ran IsText HasNone Gives answers.Usage input given left picture notes short text wrong = absurd wrong
says_ran IsText HasNone Gives (answers.Refused line reason) input given left picture notes short text wrong = absurd wrong
says_ran IsText HasNone Gives answers.TooLong input given left picture notes short text wrong = absurd wrong
says_ran IsText HasNone Gives answers.ReadFault input given left picture notes short text wrong = absurd wrong
says_ran IsText HasNone Gives (answers.NotARun entry) input given left picture notes short text wrong = absurd wrong

-- where the sinks take what was read gives, the text decides the answer
pub taken_ran : {A : Type 0} (kind : Kind A) (Gives : A → List ℕ → List ℕ → Type 0) (status : Status) (input : A) (bytes : List ℕ) (picture notes : ℕ → Type 0) → IsDecided kind (Ok input) bytes →
    (AreTaken Gives picture notes input → (status ≡ answers.Done) ⊎ (status ≡ answers.OutOfMemory)) → ((x : A) → kind.spelled bytes ≡ Ok x → AreTaken Gives picture notes x) → (status ≡ answer_to kind bytes) ⊎ (status ≡ answers.OutOfMemory)
taken_ran kind Gives status input bytes picture notes decided ran taken = elim (ran (taken input decided.1)) as (λ _. (status ≡ answer_to kind bytes) ⊎ (status ≡ answers.OutOfMemory)) [
  | inl done ↦ inl (done ∙ sym (read_answer kind input bytes decided))
  | inr short ↦ inr short
]

-- where no count rose, what was read was written, and `Done` is the answer
pub written_decides : {A : Type 0} (Gives : A → List ℕ → List ℕ → Type 0) (Answer : Status → Type 0) (status : Status) (input : A) (picture notes : Sunk) → Answer answers.Done → Runs Gives status input picture notes →
    (Rose picture.before picture.now → ⊥) → (Rose notes.before notes.now → ⊥) → Answer status ⊎ (status ≡ answers.OutOfMemory)
written_decides Gives Answer answers.Done input picture notes done ran calm quiet = inl done
written_decides Gives Answer answers.WriteFault input picture notes done ran calm quiet = elim ran.written as (λ _. Answer answers.WriteFault ⊎ (answers.WriteFault ≡ answers.OutOfMemory)) [
  | inl failed ↦ absurd (calm failed.0.rose)
  | inr failed ↦ absurd (quiet failed.1.rose)
]
written_decides Gives Answer answers.OutOfMemory input picture notes done ran calm quiet = inr refl
written_decides Gives Answer answers.Usage input picture notes done wrong calm quiet = absurd wrong
written_decides Gives Answer (answers.Refused line reason) input picture notes done wrong calm quiet = absurd wrong
written_decides Gives Answer answers.TooLong input picture notes done wrong calm quiet = absurd wrong
written_decides Gives Answer answers.ReadFault input picture notes done wrong calm quiet = absurd wrong
written_decides Gives Answer (answers.NotARun entry) input picture notes done wrong calm quiet = absurd wrong
