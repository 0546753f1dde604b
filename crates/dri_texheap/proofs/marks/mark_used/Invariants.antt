use Rattle.std.proofs.Common.{◌≡◌, get_or, ℕ, false}
use Rattle.std.specs.Prelude.{◌||◌}
use Rattle.dri_texheap.specs.RegionStates.{is_within}
use Rattle.dri_texheap.proofs.marks.mark_used.Given as goal

abbrev pub invariant-loop-j : goal.invariant-loop-j
invariant-loop-j l = (i : ℕ) → get_or l.used i false ≡ (is_within l.first l.j i || get_or l.fn.used i false)
