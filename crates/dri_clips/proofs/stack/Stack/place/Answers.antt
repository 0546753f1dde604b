use Rattle.dri_clips.proofs.Placing.{place_there, place_absent}
use Rattle.dri_clips.proofs.stack.Stack.place.Goals as goal

pub returns-clause-there : goal.returns-clause-there
returns-clause-there c = rw (← c.self.view_is) (place_there c.args.number _ _ c.get_index_of.result c.self.invariant c.get_index_of.ensures.index)

pub returns-clause-absent : goal.returns-clause-absent
returns-clause-absent c = rw (← c.self.view_is) (place_absent c.args.number _ c.get_index_of.result c.self.invariant c.get_index_of.ensures.found)
