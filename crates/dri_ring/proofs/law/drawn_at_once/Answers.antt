use Rattle.dri_ring.proofs.Orders.{drawn_at_once}
use Rattle.dri_ring.proofs.law.drawn_at_once.Goals as goal

pub returns : goal.returns
returns c = drawn_at_once
