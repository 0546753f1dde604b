-- The scene of the text ran.
use Rattle.std.proofs.Common.{◌≡◌, inr, sym}
use Rattle.dri_run.specs.Readings.{HasNone, IsTextOf, answer_to, scenes}
use Rattle.dri_run.proofs.Texts.{read_answer, refused_answer}
use Rattle.dri_run.specs.ThreadedRun.{GivesInThreads}
use Rattle.dri_run.proofs.Sayings.{says_ran, taken_ran, written_decides}
use Rattle.dri_run.proofs.top_threads.obey.Goals as goal

pub returns-in-Ok-clause-says : goal.returns-in-Ok-clause-says
returns-in-Ok-clause-says g c =
    let read = c.in-Ok.ensures.reads in
    (read.0, read.1, says_ran (IsTextOf scenes) (HasNone scenes) GivesInThreads c.run.result c.in-Ok.scene read.0 _ _ _ tt read.2 c.run.ensures.ran)

pub returns-in-Ok-clause-taken : goal.returns-in-Ok-clause-taken
returns-in-Ok-clause-taken g c = λ bytes left sure taken.
    taken_ran scenes GivesInThreads c.run.result c.in-Ok.scene bytes (g.P.Sink.takes c.args.picture.now) (g.N.Sink.takes c.args.notes.now) (c.in-Ok.ensures.decided bytes left sure) c.run.ensures.taken taken

pub returns-in-Ok-clause-decided : goal.returns-in-Ok-clause-decided
returns-in-Ok-clause-decided g c = λ bytes left calm still quiet.
    let done = read_answer scenes c.in-Ok.scene bytes (c.in-Ok.ensures.decided bytes left (inr calm)) in
    written_decides GivesInThreads (λ status. status ≡ answer_to scenes bytes) c.run.result c.in-Ok.scene _ _ (sym done) c.run.ensures.ran still quiet

pub returns-in-Err-clause-decided : goal.returns-in-Err-clause-decided
returns-in-Err-clause-decided g c = λ bytes left calm still quiet. refused_answer scenes c.in-Err.status bytes (c.in-Err.ensures.decided bytes left (inr calm))

pub returns-in-Err-clause-taken : goal.returns-in-Err-clause-taken
returns-in-Err-clause-taken g c = λ bytes left sure taken. refused_answer scenes c.in-Err.status bytes (c.in-Err.ensures.decided bytes left sure)
