-- What the bytes spell was answered.
use Rattle.std.proofs.Common.{inr}
use Rattle.std.proofs.KnownBytes.{Keeps-refl}
use Rattle.dri_lab_run.proofs.Asked.{none_failed, ran_decides, refused, says_ran, says_refused}
use Rattle.dri_lab_run.proofs.looking.obey.Goals as goal

pub returns-in-Ok-clause-says : goal.returns-in-Ok-clause-says
returns-in-Ok-clause-says g c =
    let read = c.in-Ok.ensures.reads in
    (read.0, read.1, says_ran g.W.Input.Text.kind (g.W.Asking.gives c.args.asked.now) (g.W.Asking.refuses c.args.asked.now) c.run.result c.in-Ok.text read.0 _ _ _ read.2 c.run.ensures.ran)

pub returns-in-Ok-clause-decided : goal.returns-in-Ok-clause-decided
returns-in-Ok-clause-decided g c = λ bytes left calm still quiet.
    let gives = g.W.Asking.gives c.args.asked.now in
    let refuses = g.W.Asking.refuses c.args.asked.now in
    ran_decides g.W.Input.Text.kind gives refuses c.run.result c.in-Ok.text bytes _ _ c.in-Ok.ensures.reads.2.in_range (c.in-Ok.ensures.decided bytes left (inr calm)) c.run.ensures.ran
    (none_failed gives refuses c.run.result c.in-Ok.text _ _ c.run.ensures.ran still quiet)

pub returns-in-Ok-clause-taken : goal.returns-in-Ok-clause-taken
returns-in-Ok-clause-taken g c = λ bytes left sure taken.
    let decided = c.in-Ok.ensures.decided bytes left sure in
    ran_decides g.W.Input.Text.kind (g.W.Asking.gives c.args.asked.now) (g.W.Asking.refuses c.args.asked.now) c.run.result c.in-Ok.text bytes _ _ c.in-Ok.ensures.reads.2.in_range decided c.run.ensures.ran
    (c.run.ensures.taken (taken c.in-Ok.text decided.1))

pub returns-in-Err-clause-says : goal.returns-in-Err-clause-says
returns-in-Err-clause-says g c =
    let read = c.in-Err.ensures.reads in
    (read.0, read.1, says_refused g.W.Input.Text.kind (g.W.Asking.gives c.args.asked.now) (g.W.Asking.refuses c.args.asked.now) c.in-Err.status read.0 _ _ _ read.2 (Keeps-refl _) (Keeps-refl _))

pub returns-in-Err-clause-decided : goal.returns-in-Err-clause-decided
returns-in-Err-clause-decided g c = λ bytes left calm still quiet.
    refused g.W.Input.Text.kind (g.W.Asking.gives c.args.asked.now) (g.W.Asking.refuses c.args.asked.now) c.in-Err.status bytes (c.in-Err.ensures.decided bytes left (inr calm))

pub returns-in-Err-clause-taken : goal.returns-in-Err-clause-taken
returns-in-Err-clause-taken g c = λ bytes left sure taken.
    refused g.W.Input.Text.kind (g.W.Asking.gives c.args.asked.now) (g.W.Asking.refuses c.args.asked.now) c.in-Err.status bytes (c.in-Err.ensures.decided bytes left sure)
