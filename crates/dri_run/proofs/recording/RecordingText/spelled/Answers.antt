-- The journal stands behind the scene's part.
use Rattle.dri_run.proofs.Behind.{part_fits}
use Rattle.dri_run.proofs.Recorded.{both_read, journal_refused, line_fits, scene_refused}
use Rattle.std.proofs.Common.{subst, sym}
use Rattle.dri_run.specs.Readings.{Spells}
use Rattle.dri_run.specs.Recordings.{recording_of}
use Rattle.std.specs.Prelude.{Err}
use Rattle.dri_run.proofs.recording.RecordingText.spelled.Goals as goal

pub returns-in-Err-clause-value : goal.returns-in-Err-clause-value
returns-in-Err-clause-value c = subst (λ status. Spells (Err status) (recording_of c.args.bytes.now)) (sym c.refusal.ensures) (scene_refused c.args.bytes.now c.in-Err.fault c.in-Err.ensures.value)

pub split_at-requires : goal.split_at-requires
split_at-requires c = (part_fits c.args.bytes.now _ _ c.in-Ok.ensures.value).within

pub refusal_behind-requires : goal.refusal_behind-requires
refusal_behind-requires c = line_fits c.args.bytes.now c.split_at.result.1.now c.in-Ok.begun c.in-Err-read_journal.fault c.requires c.in-Ok.ensures.value c.split_at.ensures.back c.in-Err-read_journal.ensures.gives

pub returns-in-Ok-read_journal-clause-value : goal.returns-in-Ok-read_journal-clause-value
returns-in-Ok-read_journal-clause-value c = both_read c.args.bytes.now c.split_at.result.1.now c.in-Ok.begun c.in-Ok-read_journal.journal c.in-Ok.ensures.value c.split_at.ensures.back c.in-Ok-read_journal.ensures.gives

pub returns-in-Err-read_journal-clause-value : goal.returns-in-Err-read_journal-clause-value
returns-in-Err-read_journal-clause-value c =
    subst (λ status. Spells (Err status) (recording_of c.args.bytes.now)) (sym c.refusal_behind.ensures)
    (journal_refused c.args.bytes.now c.split_at.result.1.now c.in-Ok.begun c.in-Err-read_journal.fault c.in-Ok.ensures.value c.split_at.ensures.back c.in-Err-read_journal.ensures.gives)
