use Rattle.std.proofs.Common.{◌≡◌, ◌<◌, ◌≤◌, ℕ, None, get_or}
use Rattle.dri_model.specs.Heaps.{is_newer}
use Rattle.dri_model.specs.Shares.{lose_levels}
use Rattle.dri_texheap.specs.RegionStates.{heap_of}
use Rattle.dri_texheap.proofs.placed.lose_levels.Given as goal

abbrev pub invariant-loop-k : goal.invariant-loop-k
invariant-loop-k l = record {
  done : (n : ℕ) → n < l.k → get_or l.levels n None ≡ lose_levels (is_newer (heap_of l.regions) l.local) (λ j. get_or l.fn.levels j None) n;
  later : (n : ℕ) → l.k ≤ n → get_or l.levels n None ≡ get_or l.fn.levels n None;
}
