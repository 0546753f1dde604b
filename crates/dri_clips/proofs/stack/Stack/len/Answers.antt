use Rattle.dri_clips.proofs.Placing.{apart_keys}
use Rattle.dri_clips.proofs.stack.Stack.len.Goals as goal

pub returns-clause-apart : goal.returns-clause-apart
returns-clause-apart c = rw (← c.self.view_is) (apart_keys _ _ c.self.invariant c.len.ensures.unique)
