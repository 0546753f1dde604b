use Rattle.dri_texheap.proofs.Heaped.{allocates}
use Rattle.dri_texheap.proofs.regions.Regions.allocate.Goals as goal

pub returns-clause-place : goal.returns-clause-place
returns-clause-place c = rw (← c.self.view_is) c.choose-bound.ensures.chosen.place

pub returns-clause-heap : goal.returns-clause-heap
returns-clause-heap c = rw (← c.self.view_is) (allocates c.self.inside.count c.self.inside.age c.make_room-self-inside.result c.args.k c.choose-bound.result.0 c.choose-bound.result.1
    c.self.inside.used c.make_room-self-inside.new.used c.mark_used.new.used c.self.inside.shared c.unmark.new.shared c.self.inside.ages c.make_room-self-inside.new.ages c.mark_ages.new.ages
    c.self.invariant.unused c.choose-bound.ensures.chosen c.unmark.ensures c.make_room-self-inside.ensures.used c.make_room-self-inside.ensures.ages c.make_room-self-inside.ensures.age c.mark_ages.ensures c.mark_used.ensures)
