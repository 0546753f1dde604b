use Rattle.dri_texheap.specs.RegionStates.{heap_from}
use Rattle.std.proofs.Common.{[]}
use Rattle.dri_texheap.specs.Ring.{Nearest}
use Rattle.dri_texheap.proofs.links.nearest.Given as goal

abbrev pub invariant-loop-next : goal.invariant-loop-next
invariant-loop-next l = Nearest l.count (heap_from 0 [] l.ages) l.direction l.i l.next l.best
