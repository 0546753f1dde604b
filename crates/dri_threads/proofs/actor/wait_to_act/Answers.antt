use Rattle.dri_threads.proofs.Found.{seat_found}
use Rattle.dri_threads.proofs.Standing.{hold_found, may_kernel}
use Rattle.dri_threads.proofs.actor.wait_to_act.Goals as goal

pub act_in-requires-clause-found : goal.act_in-requires-clause-found
act_in-requires-clause-found g c = let h = c.lock-hold.ensures.hold in hold_found _ _ _ _ c.requires.stands.context h.kept h.seen h.base

pub act_in-requires-clause-seated : goal.act_in-requires-clause-seated
act_in-requires-clause-seated g c = let h = c.lock-hold.ensures.hold in seat_found _ _ _ _ c.requires.stands h.base h.begins h.own

pub act_in-requires-clause-may : goal.act_in-requires-clause-may
act_in-requires-clause-may g c = may_kernel _ _ _ _ _ c.found-found.ensures c.requires.stands.context c.lock-hold.ensures.found c.lock-hold.ensures.other
