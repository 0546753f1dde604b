use Rattle.std.proofs.Common.{◌-◌, ◌+◌, ◌≤◌}
use Rattle.dri_texheap.specs.RegionStates.{heap_from}
use Rattle.dri_texheap.specs.Search.{IsSought}
use Rattle.dri_texheap.proofs.choice.choose.Given as goal

abbrev pub invariant-loop-first : goal.invariant-loop-first
invariant-loop-first l = record { sought : IsSought l.count (heap_from 0 l.used l.ages) l.k l.bound; high : l.bound ≤ l.age + 1 }

abbrev pub decreases-loop-first : goal.decreases-loop-first
decreases-loop-first l = l.age + 1 - l.bound
