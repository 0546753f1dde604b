use Rattle.std.specs.Arc.{arc_value}
use Rattle.dri_core.proofs.RunLaws.{confined_events, own_events, solo_left_events}
use Rattle.dri_world.proofs.world.World.events.Goals as goal

pub returns-clause-in_range : goal.returns-clause-in_range
returns-clause-in_range c = rw (← c.self.view_is) c.self.invariant.good

pub returns-clause-confined : goal.returns-clause-confined
returns-clause-confined c = rw (← c.self.view_is) (confined_events (arc_value c.self.inside.scene) c.self.inside.events.items c.self.invariant.good c.self.invariant.run)

pub returns-clause-own : goal.returns-clause-own
returns-clause-own c = rw (← c.self.view_is) (own_events (arc_value c.self.inside.scene) c.self.inside.events.items c.self.invariant.good c.self.invariant.run)

pub returns-clause-solo : goal.returns-clause-solo
returns-clause-solo c = rw (← c.self.view_is) (solo_left_events (arc_value c.self.inside.scene) c.self.inside.events.items c.self.invariant.good c.self.invariant.run)
