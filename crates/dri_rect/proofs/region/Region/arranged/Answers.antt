use Rattle.dri_rect.proofs.Arrangement.{in_order, no_overlap, all_proper, all_in_range}
use Rattle.dri_rect.proofs.region.Region.arranged.Goals as goal

pub returns-clause-order : goal.returns-clause-order
returns-clause-order c = rw (← c.self.view_is) (in_order _ c.self.invariant.region.canonical.banded)

pub returns-clause-proper : goal.returns-clause-proper
returns-clause-proper c = rw (← c.self.view_is) (all_proper _ c.self.invariant.region.canonical.banded)

pub returns-clause-apart : goal.returns-clause-apart
returns-clause-apart c = rw (← c.self.view_is) (no_overlap _ c.self.invariant.region.canonical.banded)

pub returns-clause-range : goal.returns-clause-range
returns-clause-range c = rw (← c.self.view_is) (all_in_range _ c.self.invariant.region.canonical.banded c.self.invariant.region.range)
