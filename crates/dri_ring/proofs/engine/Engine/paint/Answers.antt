-- The card keeps its sides, and shows what is painted.
use Rattle.std.proofs.Common.{ap, length}
use Rattle.std.specs.Arc.{arc_value}
use Rattle.dri_card.specs.Contents.{Contents}
use Rattle.dri_card.specs.Drawing.{painted}
use Rattle.dri_ring.specs.Rings.{read}
use Rattle.dri_draw.proofs.Drawn.{holds_shown}
use Rattle.dri_ring.proofs.Ran.{plane_sides, still_there}
use Rattle.dri_ring.proofs.engine.Engine.paint.Goals as goal

pub invariant_of-self : goal.invariant_of-self
invariant_of-self c =
    let i = c.self.inside in let e = c.self.invariant in let p = read i.card.front i.card.back i.card.depth in
    record {
      scene = e.scene;
      card = still_there (arc_value i.scene) i.card c.paint_on.new.card (record { front = painted c.args.rect c.args.colour p.front; back = p.back }) e.card c.paint_on.ensures.sides
          (ap (λ (v : Contents). length v.memory) c.paint_on.ensures.others)
          (record { shown = c.paint_on.ensures.shown p.front e.card.whole.shown; held = holds_shown i.card c.paint_on.new.card p.back c.paint_on.ensures.others e.card.whole.held });
      room = e.room;
      few = e.few;
      kept = e.kept;
      ready = e.ready;
    }

pub returns-clause-screen : goal.returns-clause-screen
returns-clause-screen c = let s = arc_value c.self.inside.scene in
    plane_sides c.paint_on.new.card s.width s.height (c.paint_on.ensures.sides s.width s.height c.self.invariant.card.sides)
