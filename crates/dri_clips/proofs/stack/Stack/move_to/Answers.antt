use Rattle.dri_clips.proofs.Placing.{moved_keys, moved_values}
use Rattle.dri_clips.proofs.stack.Stack.move_to.Goals as goal

pub invariant_of-self : goal.invariant_of-self
invariant_of-self c = moved_keys _ _ c.args.from c.args.to c.self.invariant c.move_index.ensures.entries

pub returns : goal.returns
returns c = rw (← c.self.view_is) (moved_values _ _ c.args.from c.args.to c.move_index.ensures.entries)
