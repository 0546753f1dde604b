use Rattle.std.proofs.Common.{arith}
use Rattle.dri_model.specs.Heaps.{is_newer}
use Rattle.dri_texheap.specs.RegionStates.{heap_of}
use Rattle.dri_texheap.proofs.Losing.{inside_at}
use Rattle.dri_texheap.proofs.placed.lose_each.Goals as goal

pub lose-requires : goal.lose-requires
lose-requires c = inside_at c.args.regions.now.count (is_newer (heap_of c.args.regions.now) c.args.local) c.args.spots.now c.loop-slot.spots c.loop-slot.slot-index c.slot-item.result c.requires c.loop-slot.invariant (omega (arith, c.loop-slot-test.true, c.loop-slot.auto.spots))
