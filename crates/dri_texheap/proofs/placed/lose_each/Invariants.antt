use Rattle.std.proofs.Common.{◌≡◌, ℕ, None, get_or}
use Rattle.std.specs.Prelude.{nat_lt, if◌then◌else◌}
use Rattle.dri_model.specs.Heaps.{is_newer, lose}
use Rattle.dri_texheap.specs.RegionStates.{heap_of}
use Rattle.dri_texheap.proofs.placed.lose_each.Given as goal

abbrev pub invariant-loop-slot : goal.invariant-loop-slot
invariant-loop-slot l = (k : ℕ) → get_or l.spots k None ≡ (if nat_lt k l.slot-index then lose (is_newer (heap_of l.regions) l.local) (get_or l.fn.spots k None) else get_or l.fn.spots k None)
