use Rattle.std.specs.Prelude.{ℕ, ◌≡◌, ◌<◌, slice_get}
use Rattle.dri_clips.proofs.regions.same_region.Given as goal

abbrev pub invariant-loop-i : goal.invariant-loop-i
invariant-loop-i l = (k : ℕ) → k < l.i → slice_get l.a k ≡ slice_get l.b k
