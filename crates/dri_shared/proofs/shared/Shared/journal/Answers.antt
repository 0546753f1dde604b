-- The laws of hold-runs.
use Rattle.dri_core.proofs.RunLaws.{confined, own, solo_left}
use Rattle.dri_shared.proofs.shared.Shared.journal.Goals as goal

pub returns-clause-in_range : goal.returns-clause-in_range
returns-clause-in_range c = rw (← c.self.view_is) c.self.invariant.scene

pub returns-clause-confined : goal.returns-clause-confined
returns-clause-confined c = rw (← c.self.view_is) (confined _ _ c.self.invariant.scene c.self.invariant.run)

pub returns-clause-own : goal.returns-clause-own
returns-clause-own c = rw (← c.self.view_is) (own _ _ c.self.invariant.scene c.self.invariant.run)

pub returns-clause-solo : goal.returns-clause-solo
returns-clause-solo c = rw (← c.self.view_is) (solo_left _ _ c.self.invariant.scene c.self.invariant.run)
