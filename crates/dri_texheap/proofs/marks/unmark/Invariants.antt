use Rattle.std.proofs.Common.{◌≡◌, get_or, ℕ, false, ◌<◌, ◌≤◌}
use Rattle.std.specs.Prelude.{◌&&◌, ◌||◌, not}
use Rattle.dri_texheap.specs.RegionStates.{is_within}
use Rattle.dri_texheap.specs.Search.{is_old}
use Rattle.dri_texheap.proofs.marks.unmark.Given as goal

abbrev pub invariant-loop-i : goal.invariant-loop-i
invariant-loop-i l = record {
  done : (n : ℕ) → n < l.i → get_or l.shared n false ≡ (get_or l.fn.shared n false && not (is_within l.first l.k n || is_old l.used l.ages l.bound n));
  later : (n : ℕ) → l.i ≤ n → get_or l.shared n false ≡ get_or l.fn.shared n false;
}
