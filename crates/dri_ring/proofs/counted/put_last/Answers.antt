-- A job is put; on a full ring a step makes room for it.
use Rattle.std.proofs.Common.{refl}
use Rattle.dri_ring.proofs.Putting.{settled_full, waiting_put}
use Rattle.dri_ring.proofs.counted.put_last.Goals as goal

pub returns-in-Err-clause-settled : goal.returns-in-Err-clause-settled
returns-in-Err-clause-settled c =
    settled_full c.args.engine.now c.put.new.self c.step.new.self c.in-Err.ensures.stays c.step.ensures.left c.step.ensures.others c.len.ensures.room.0 (c.in-Err.ensures.full.0 refl)
    c.put-in-Err.new.self c.args.job c.in-Err.full.job c.put-in-Err.result c.put-in-Err.ensures.full.0 c.in-Err.ensures.back.0 c.step.ensures.settled c.put-in-Err.ensures.settled

pub returns-in-Err-clause-waiting : goal.returns-in-Err-clause-waiting
returns-in-Err-clause-waiting c =
    waiting_put c.args.engine.now c.put.new.self c.step.new.self c.in-Err.ensures.stays c.step.ensures.left c.step.ensures.others c.len.ensures.room.0 (c.in-Err.ensures.full.0 refl)
    c.put-in-Err.new.self c.in-Err.full.job c.put-in-Err.result c.put-in-Err.ensures.full.0 c.put-in-Err.ensures.last
