use Rattle.dri_texheap.proofs.Heaped.{new_regions, new_heap}
use Rattle.dri_texheap.proofs.regions.Regions.new.Goals as goal

pub invariant_of-result : goal.invariant_of-result
invariant_of-result c = new_regions c.args.count c.requires.some c.requires.most

pub returns-clause-heap : goal.returns-clause-heap
returns-clause-heap c = new_heap c.args.count
