use Rattle.std.proofs.Common.{◌≡◌}
use Rattle.dri_texheap.specs.RegionStates.{heap_from}
use Rattle.dri_texheap.specs.Search.{least_age}
use Rattle.dri_texheap.proofs.choice.least_age.Given as goal

abbrev pub invariant-loop-i : goal.invariant-loop-i
invariant-loop-i l = l.best ≡ least_age (heap_from 0 l.used l.ages) l.bound l.i
