-- Bytes that weren't read whole spell nothing.
use Rattle.std.proofs.Common.{Err, subst}
use Rattle.dri_run.specs.Readings.{AreDecided}
use Rattle.dri_run.proofs.Texts.{unread}
use Rattle.dri_run.proofs.reading.read.Goals as goal

pub returns-in-Err-clause-decided : goal.returns-in-Err-clause-decided
returns-in-Err-clause-decided g c = λ bytes left sure.
    unread g.T.Text.kind c.in-Err.status bytes (subst (λ most. AreDecided most (Err c.in-Err.status) bytes) c.most.ensures (c.in-Err.ensures.decided bytes left sure))
