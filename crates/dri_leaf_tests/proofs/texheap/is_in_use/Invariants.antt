use Rattle.std.proofs.Common.{◌≡◌, ◌+◌, ◌<◌, ◌≤◌, ℕ, true}
use Rattle.dri_texheap.specs.RegionStates.{heap_of}
use Rattle.dri_leaf_tests.proofs.texheap.is_in_use.Given as goal

abbrev pub invariant-loop-j : goal.invariant-loop-j
invariant-loop-j l = (k : ℕ) → l.fn.run.first ≤ k → k < l.fn.run.first + l.j → (heap_of l.fn.regions).used k ≡ true
