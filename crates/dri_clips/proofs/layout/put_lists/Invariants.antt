use Rattle.dri_clips.proofs.Lists.{IsPutting}
use Rattle.dri_clips.proofs.layout.put_lists.Given as goal

abbrev pub invariant-loop-list : goal.invariant-loop-list
invariant-loop-list l = IsPutting l.fn.clips.items l.clips.items l.fn.lists.items l.lists.items

abbrev pub decreases-loop-list : goal.decreases-loop-list
decreases-loop-list l = l.lists.len
