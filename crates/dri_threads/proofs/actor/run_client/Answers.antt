use Rattle.std.proofs.Common.{refl}
use Rattle.dri_threads.proofs.Standing.{next_again}
use Rattle.dri_threads.proofs.Working.{same_again}
use Rattle.dri_threads.proofs.actor.run_client.Goals as goal

pub loop-preserved : goal.loop-preserved
loop-preserved g c = (tt, tt, next_again _ _ _ c.loop.invariant.2 c.in_ok-pass.ensures.next, c.in_ok-pass.ensures.stands, same_again _ _ _ c.loop.invariant.4 c.in_ok-pass.ensures.same, refl)
