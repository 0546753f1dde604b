use Rattle.std.proofs.Common.{◌∙◌}
use Rattle.dri_threads.proofs.Found.{seat_found}
use Rattle.dri_threads.proofs.Standing.{hold_found, stands_looked}
use Rattle.dri_threads.proofs.actor.hold_to_act.Goals as goal

pub act_in-requires-clause-found : goal.act_in-requires-clause-found
act_in-requires-clause-found g c = let h = c.in-Ok.ensures.hold in hold_found _ _ _ _ c.requires.stands.context h.kept h.seen h.base

pub act_in-requires-clause-seated : goal.act_in-requires-clause-seated
act_in-requires-clause-seated g c = let h = c.in-Ok.ensures.hold in seat_found _ _ _ _ c.requires.stands h.base h.begins h.own

pub act_in-requires-clause-may : goal.act_in-requires-clause-may
act_in-requires-clause-may g c = c.in-Ok.ensures.closer ∙ c.requires.stands.context

pub wait_to_act-requires-clause-stands : goal.wait_to_act-requires-clause-stands
wait_to_act-requires-clause-stands g c = stands_looked _ _ _ _ _ c.in-Err.ensures.late c.requires.stands
