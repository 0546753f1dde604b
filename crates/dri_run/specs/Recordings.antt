-- A recording: the text of a scene and, behind its done line, the text of a journal. Bytes and lines count over both.
use Rattle.std.specs.Prelude.{ℕ, ◌+◌, List, Result, Ok, Err}
use Rattle.dri_base.specs.Planes.{plane}
use Rattle.dri_base.specs.declared.scene.Scene.{Scene}
use Rattle.dri_core.specs.Runs.{after}
use Rattle.dri_journal.specs.Readings.{journal_of_text}
use Rattle.dri_journal.specs.declared.fault.JournalFault.{JournalFault}
use Rattle.dri_journal.specs.declared.fault.JournalFault.TheVariants as faults
use Rattle.dri_ppm.specs.Ppm.{ppm}
use Rattle.dri_words.specs.Lines.{◌>>=◌}
use Rattle.dri_words.specs.declared.lines.Refusal.{Refusal}
use Rattle.dri_run.specs.Readings.{Kind, most_behind, with_scene}
use Rattle.dri_run.specs.declared.recording.Recording.{Recording}
use Rattle.dri_run.specs.declared.status.Status.{Status}
use Rattle.dri_run.specs.declared.status.Status.TheVariants as answers

-- what stands behind so many lines: its own lines count on from there
abbrev pub behind : {A : Type 0} → ℕ → Result A Refusal → Result A Refusal
behind lines (Ok x) = Ok x
behind lines (Err refusal) = Err record { line = lines + refusal.line; reason = refusal.reason }

-- a scene, and the journal that the text behind it spells
abbrev pub with_journal : Scene → ℕ → List ℕ → Result Recording Refusal
with_journal scene lines text = behind lines (journal_of_text text) >>= λ journal. Ok record { scene = scene; journal = journal }

-- the recording that the bytes spell, or the first line that is refused
unfoldable pub recording_of : List ℕ → Result Recording Refusal
recording_of bytes = with_scene with_journal bytes

-- the status for a text that has no journal and stands behind so many lines
abbrev pub refusal_behind : ℕ → JournalFault → Status
refusal_behind lines (faults.Refused line reason) = answers.Refused (lines + line) reason
refusal_behind lines faults.OutOfMemory = answers.OutOfMemory

-- recordings, as texts
abbrev pub recordings : Kind Recording
recordings = record { most = most_behind; spelled = recording_of; scene = λ recording. recording.scene }

-- what the screen shows after a recording, in the P6 form
abbrev pub screen_after : Recording → List ℕ
screen_after r = ppm r.scene.width r.scene.height (plane r.scene.width r.scene.height (after r.scene r.journal).front)
