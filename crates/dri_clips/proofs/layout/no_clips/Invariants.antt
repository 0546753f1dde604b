use Rattle.std.specs.Prelude.{◌≡◌, [], replicate}
use Rattle.dri_clips.proofs.layout.no_clips.Given as goal

abbrev pub invariant-loop-number : goal.invariant-loop-number
invariant-loop-number g l = l.clips.items ≡ replicate l._number []
