use Rattle.std.specs.Prelude.{◌≡◌, None, replicate}
use Rattle.dri_clips.proofs.mending.no_lists.Given as goal

abbrev pub invariant-loop-number : goal.invariant-loop-number
invariant-loop-number l = l.lists.items ≡ replicate l._number None
