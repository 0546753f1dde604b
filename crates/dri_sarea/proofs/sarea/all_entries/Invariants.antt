use Rattle.std.proofs.Common.{◌≡◌, ◌<◌, ◌≤◌, ℕ, get_or, length}
use Rattle.dri_base.specs.Limits.{word_end}
use Rattle.dri_texheap.specs.RegionStates.{heap_of}
use Rattle.dri_texheap.specs.Ring.{entry}
use Rattle.dri_sarea.specs.Areas.{no_region}
use Rattle.dri_sarea.proofs.sarea.all_entries.Given as goal

abbrev pub invariant-loop-i : goal.invariant-loop-i
invariant-loop-i l = record {
  size : length l.list.items ≡ 65;
  set : (k : ℕ) → k < l.i → get_or l.list.items k no_region ≡ entry l.regions.count (heap_of l.regions) k;
  left : (k : ℕ) → l.i ≤ k → get_or l.list.items k no_region ≡ no_region;
  small : (k : ℕ) → (get_or l.list.items k no_region).age < word_end;
}
