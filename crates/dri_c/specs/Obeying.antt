-- What the program's words give over bytes in memory.
use Rattle.std.specs.Prelude.{◌≡◌, ℕ, ◌⊎◌, List, [], Some}
use Rattle.std.specs.Io.KnownBytes.{Consumes}
use Rattle.std.specs.declared.option.Option.{Option}
use Rattle.dri_c.specs.Told.{IsTold}
use Rattle.dri_c.specs.declared.answer.Answer.{Answer}
use Rattle.dri_run.specs.Answering.{IsAnswerTo, SaysTo}
use Rattle.dri_run.specs.Forms.{form_of_words}
use Rattle.dri_run.specs.Gains.{Sunk}
use Rattle.dri_run.specs.Outcome.{Answers}
use Rattle.dri_run.specs.declared.form.Form.{Form}
use Rattle.dri_run.specs.declared.status.Status.{Status}
use Rattle.dri_run.specs.declared.status.Status.TheVariants as answers

-- a sink that held nothing, took these bytes, and never failed
abbrev pub taking : List ℕ → Sunk
taking bytes = record { held = Some []; holds = Some bytes; before = 0; now = 0 }

-- the program's answer to a form of words over these bytes, where nothing fails: its status, and what it writes as picture and notes
pub record Obeys (form : Option Form) (bytes : List ℕ) (status : Status) (image text : List ℕ) : Type 0 where
  -- what was read, and what was left
  pub given : List ℕ
  pub left : Option (List ℕ)
  pub read : Consumes (Some bytes) left given
  pub says : Answers (SaysTo form) status given left (taking image) (taking text)
  -- the bytes decide the status
  pub decided : (asked : Form) → form ≡ Some asked → IsAnswerTo asked bytes status

-- memory was wanting, and nothing is written
pub record WantsMemory (status : Status) (image text : List ℕ) : Type 0 where
  pub wanting : status ≡ answers.OutOfMemory
  pub no_image : image ≡ []
  pub no_text : text ≡ []

-- C is told what the program answers to these words over these bytes, want of memory aside
pub record Gives (words : List (List ℕ)) (bytes picture picture' notes notes' : List ℕ) (answer : Answer) : Type 0 where
  pub status : Status
  pub image : List ℕ
  pub text : List ℕ
  pub obeyed : Obeys (form_of_words words) bytes status image text ⊎ WantsMemory status image text
  pub told : IsTold status image text picture picture' notes notes' answer
