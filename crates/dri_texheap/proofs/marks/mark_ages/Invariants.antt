use Rattle.std.proofs.Common.{◌≡◌, get_or, ℕ}
use Rattle.std.specs.Prelude.{if◌then◌else◌}
use Rattle.dri_texheap.specs.RegionStates.{is_within}
use Rattle.dri_texheap.proofs.marks.mark_ages.Given as goal

abbrev pub invariant-loop-j : goal.invariant-loop-j
invariant-loop-j l = (i : ℕ) → get_or l.ages i 0 ≡ (if is_within l.first l.j i then l.age else get_or l.fn.ages i 0)
