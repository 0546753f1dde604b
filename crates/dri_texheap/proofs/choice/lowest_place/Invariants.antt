use Rattle.dri_texheap.specs.RegionStates.{heap_from}
use Rattle.dri_texheap.proofs.Passing.{IsPassed}
use Rattle.dri_texheap.proofs.choice.lowest_place.Given as goal

abbrev pub invariant-loop-i : goal.invariant-loop-i
invariant-loop-i l = IsPassed (heap_from 0 l.used l.ages) l.bound l.k l.i l.first
