-- What the text spells ran.
use Rattle.std.proofs.Common.{◌≡◌, inr, sym}
use Rattle.dri_run.specs.Readings.{HasNone, IsTextOf, answer_to}
use Rattle.dri_run.proofs.Sayings.{says_ran, taken_ran, written_decides}
use Rattle.dri_run.proofs.Texts.{read_answer, refused_answer}
use Rattle.dri_run.proofs.obeying.obey.Goals as goal

pub returns-in-Ok-clause-says : goal.returns-in-Ok-clause-says
returns-in-Ok-clause-says g c =
    let kind = g.W.Input.Text.kind in
    let read = c.in-Ok.ensures.reads in
    (read.0, read.1, says_ran (IsTextOf kind) (HasNone kind) (g.W.Running.gives c.args.way.now) c.run.result c.in-Ok.text read.0 _ _ _ tt read.2 c.run.ensures.ran)

pub returns-in-Ok-clause-decided : goal.returns-in-Ok-clause-decided
returns-in-Ok-clause-decided g c = λ bytes left calm still quiet.
    let kind = g.W.Input.Text.kind in
    let done = read_answer kind c.in-Ok.text bytes (c.in-Ok.ensures.decided bytes left (inr calm)) in
    written_decides (g.W.Running.gives c.args.way.now) (λ status. status ≡ answer_to kind bytes) c.run.result c.in-Ok.text _ _ (sym done) c.run.ensures.ran still quiet

pub returns-in-Ok-clause-taken : goal.returns-in-Ok-clause-taken
returns-in-Ok-clause-taken g c = λ bytes left sure taken.
    taken_ran g.W.Input.Text.kind (g.W.Running.gives c.args.way.now) c.run.result c.in-Ok.text bytes (g.P.Sink.takes c.args.picture.now) (g.N.Sink.takes c.args.notes.now) (c.in-Ok.ensures.decided bytes left sure) c.run.ensures.taken taken

pub returns-in-Err-clause-decided : goal.returns-in-Err-clause-decided
returns-in-Err-clause-decided g c = λ bytes left calm still quiet. refused_answer g.W.Input.Text.kind c.in-Err.status bytes (c.in-Err.ensures.decided bytes left (inr calm))

pub returns-in-Err-clause-taken : goal.returns-in-Err-clause-taken
returns-in-Err-clause-taken g c = λ bytes left sure taken. refused_answer g.W.Input.Text.kind c.in-Err.status bytes (c.in-Err.ensures.decided bytes left sure)
