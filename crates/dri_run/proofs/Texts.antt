-- What was read is the answer to the bytes.
use Rattle.std.proofs.Common.{◌≡◌, ℕ, ◌≤◌, ◌⊎◌, Bool, List, length, Ok, Err, sym, ap, ◌∙◌, subst, inl, inr}
use Rattle.std.proofs.lemmas.Bool.{le-ltb, lt-ltb}
use Rattle.std.specs.Prelude.{if◌then◌else◌}
use Rattle.dri_run.specs.Readings.{AreDecided, IsDecided, IsRefusalOf, Kind, answer_to, answer_to_text}
use Rattle.dri_run.specs.declared.status.Status.{Status}
use Rattle.dri_run.specs.declared.status.Status.TheVariants as answers

-- bytes that weren't read whole
pub unread : {A : Type 0} (kind : Kind A) (status : Status) (bytes : List ℕ) → AreDecided kind.most (Err status) bytes → IsDecided kind (Err status) bytes
unread kind status bytes decided = elim decided as (λ _. IsRefusalOf kind status bytes ⊎ (status ≡ answers.OutOfMemory)) [
  | inl long ↦ inl (subst (λ s. IsRefusalOf kind s bytes) (sym long.0) long.1)
  | inr short ↦ inr short
]

-- the answer to bytes that aren't too many
within_answer : {A : Type 0} (kind : Kind A) (bytes : List ℕ) → length bytes ≤ kind.most → answer_to kind bytes ≡ answer_to_text (kind.spelled bytes)
within_answer kind bytes within = ap (λ (long : Bool). if long then answers.TooLong else answer_to_text (kind.spelled bytes)) (le-ltb kind.most (length bytes) within)

-- what was read whole is answered
pub read_answer : {A : Type 0} (kind : Kind A) (x : A) (bytes : List ℕ) → IsDecided kind (Ok x) bytes → answer_to kind bytes ≡ answers.Done
read_answer kind x bytes decided = within_answer kind bytes decided.0 ∙ ap answer_to_text decided.1

-- a refusal is the answer
refusal_answers : {A : Type 0} (kind : Kind A) (status : Status) (bytes : List ℕ) → IsRefusalOf kind status bytes → status ≡ answer_to kind bytes
refusal_answers kind answers.TooLong bytes long = sym (ap (λ (more : Bool). if more then answers.TooLong else answer_to_text (kind.spelled bytes)) (lt-ltb kind.most (length bytes) long))
refusal_answers kind (answers.Refused line reason) bytes refused = sym (within_answer kind bytes refused.0 ∙ ap answer_to_text refused.1)
refusal_answers kind answers.Done bytes wrong = absurd wrong
refusal_answers kind answers.Usage bytes wrong = absurd wrong
refusal_answers kind answers.ReadFault bytes wrong = absurd wrong
refusal_answers kind answers.WriteFault bytes wrong = absurd wrong
refusal_answers kind answers.OutOfMemory bytes wrong = absurd wrong
refusal_answers kind (answers.NotARun entry) bytes wrong = absurd wrong

pub refused_answer : {A : Type 0} (kind : Kind A) (status : Status) (bytes : List ℕ) → IsDecided kind (Err status) bytes → (status ≡ answer_to kind bytes) ⊎ (status ≡ answers.OutOfMemory)
refused_answer kind status bytes decided = elim decided as (λ _. (status ≡ answer_to kind bytes) ⊎ (status ≡ answers.OutOfMemory)) [
  | inl refusal ↦ inl (refusal_answers kind status bytes refusal)
  | inr short ↦ inr short
]
