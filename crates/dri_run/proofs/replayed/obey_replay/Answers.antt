-- The recording of the bytes was replayed.
use Rattle.std.proofs.Common.{inr}
use Rattle.std.proofs.KnownBytes.{Keeps-refl}
use Rattle.dri_run.proofs.Replaying.{none_failed, refused, replayed_decides, says_refused, says_replayed}
use Rattle.dri_run.proofs.replayed.obey_replay.Goals as goal

pub returns-in-Ok-clause-says : goal.returns-in-Ok-clause-says
returns-in-Ok-clause-says g c =
    let read = c.in-Ok.ensures.reads in
    (read.0, read.1, says_replayed c.args.word c.replay.result c.in-Ok.recording read.0 _ _ _ read.2 c.replay.ensures.ran)

pub returns-in-Ok-clause-decided : goal.returns-in-Ok-clause-decided
returns-in-Ok-clause-decided g c = λ bytes left calm still quiet.
    replayed_decides c.args.word c.replay.result c.in-Ok.recording bytes _ _ c.in-Ok.ensures.reads.2.in_range (c.in-Ok.ensures.decided bytes left (inr calm)) c.replay.ensures.ran
    (none_failed c.args.word c.replay.result c.in-Ok.recording _ _ c.replay.ensures.ran still quiet)

pub returns-in-Ok-clause-taken : goal.returns-in-Ok-clause-taken
returns-in-Ok-clause-taken g c = λ bytes left sure taken.
    let decided = c.in-Ok.ensures.decided bytes left sure in
    replayed_decides c.args.word c.replay.result c.in-Ok.recording bytes _ _ c.in-Ok.ensures.reads.2.in_range decided c.replay.ensures.ran
    (c.replay.ensures.taken (taken c.in-Ok.recording decided.1))

pub returns-in-Err-clause-decided : goal.returns-in-Err-clause-decided
returns-in-Err-clause-decided g c = λ bytes left calm still quiet. refused c.in-Err.status bytes (c.in-Err.ensures.decided bytes left (inr calm))

pub returns-in-Err-clause-taken : goal.returns-in-Err-clause-taken
returns-in-Err-clause-taken g c = λ bytes left sure taken. refused c.in-Err.status bytes (c.in-Err.ensures.decided bytes left sure)

pub returns-in-Err-clause-says : goal.returns-in-Err-clause-says
returns-in-Err-clause-says g c =
    let read = c.in-Err.ensures.reads in
    (read.0, read.1, says_refused c.args.word c.in-Err.status read.0 _ _ _ read.2 (Keeps-refl _) (Keeps-refl _))
