use Rattle.std.proofs.Common.{[], sym, subst}
use Rattle.dri_texheap.specs.RegionStates.{heap_from}
use Rattle.dri_texheap.specs.Ring.{Nearest}
use Rattle.dri_texheap.proofs.Ordering.{nearest_new}
use Rattle.dri_texheap.proofs.links.nearer.Goals as goal

pub returns-then-goes : goal.returns-then-goes
returns-then-goes c = nearest_new c.args.count (heap_from 0 [] c.args.ages.now) c.args.direction c.args.i c.args.next c.in-Some.other
    (subst (Nearest c.args.count (heap_from 0 [] c.args.ages.now) c.args.direction c.args.i c.args.next) c.in-Some.is c.requires.best) (sym c.if-not-follows.ensures) (sym c.if-goes.ensures)
