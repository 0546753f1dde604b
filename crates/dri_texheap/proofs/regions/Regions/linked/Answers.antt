use Rattle.dri_texheap.specs.RegionStates.{heap_of}
use Rattle.dri_texheap.proofs.Linked.{one_list}
use Rattle.dri_texheap.proofs.regions.Regions.linked.Goals as goal

pub returns : goal.returns
returns c = one_list c.args.self.now.count (heap_of c.args.self.now)
