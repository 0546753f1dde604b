-- How a call ended, as C is told it.
use Rattle.std.specs.Prelude.{ℕ, ◌≡◌, List, length, ◌&&◌, if◌then◌else◌}
use Rattle.dri_c.specs.Buffers.{filled, gained, has_room}
use Rattle.dri_c.specs.declared.answer.Answer.{Answer}
use Rattle.dri_run.specs.Notices.{code_of}
use Rattle.dri_run.specs.declared.status.Status.{Status}
use Rattle.dri_run.specs.declared.status.Status.TheVariants as answers
use Rattle.dri_words.specs.declared.reason.Reason.{Reason}
use Rattle.dri_words.specs.declared.reason.Reason.TheVariants as reasons

-- the number of a reason
abbrev pub reason_number : Reason → ℕ
reason_number reasons.Shape = 1
reason_number reasons.Range = 2
reason_number reasons.Unknown = 3
reason_number reasons.Twice = 4
reason_number reasons.Order = 5
reason_number reasons.Limit = 6
reason_number reasons.Heap = 7
reason_number reasons.Ended = 8
reason_number reasons.Frame = 9

-- the refused line, or 0
abbrev pub line_in : Status → ℕ
line_in (answers.Refused line reason) = line
line_in _ = 0

-- the number of the reason of a refused line, or 0
abbrev pub reason_in : Status → ℕ
reason_in (answers.Refused line reason) = reason_number reason
reason_in _ = 0

-- the first entry that isn't legal, or 0
abbrev pub entry_in : Status → ℕ
entry_in (answers.NotARun entry) = entry
entry_in _ = 0

-- what was done wasn't written whole where a buffer has no room for it; every other status stays
abbrev pub status_in : Status → List ℕ → List ℕ → List ℕ → List ℕ → Status
status_in answers.Done image text picture notes = if has_room image picture && has_room text notes then answers.Done else answers.WriteFault
status_in status image text picture notes = status

-- the answer of a status, and of an image and a text that were to be put into two buffers
abbrev pub answer_of : Status → List ℕ → List ℕ → List ℕ → List ℕ → Answer
answer_of status image text picture notes = record {
  status = code_of (status_in status image text picture notes);
  line = line_in status;
  reason = reason_in status;
  entry = entry_in status;
  picture_written = gained image picture;
  notes_written = gained text notes;
  picture_needed = length image;
  notes_needed = length text;
}

-- C is told a status, an image and a text: each buffer that has room gains its bytes, and the answer has the numbers
pub record IsTold (status : Status) (image text picture picture' notes notes' : List ℕ) (answer : Answer) : Type 0 where
  pub shown : picture' ≡ filled image picture
  pub noted : notes' ≡ filled text notes
  pub numbers : answer ≡ answer_of status image text picture notes
