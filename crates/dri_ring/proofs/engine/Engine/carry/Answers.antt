-- The card keeps its sides, and shows what is carried.
use Rattle.std.proofs.Common.{ap, length, rules, w32}
use Rattle.std.proofs.lemmas.Int.{to_z-of_z}
use Rattle.std.specs.Arc.{arc_value}
use mir.Val.{SFits}
use Rattle.dri_card.specs.Contents.{Contents}
use Rattle.dri_card.specs.Drawing.{carried_by}
use Rattle.dri_ring.specs.Rings.{read}
use Rattle.dri_ring.proofs.Ran.{plane_sides, still_there}
use Rattle.dri_ring.proofs.engine.Engine.carry.Goals as goal

pub invariant_of-self : goal.invariant_of-self
invariant_of-self c =
    let i = c.self.inside in let e = c.self.invariant in let p = read i.card.front i.card.back i.card.depth in
    let across : SFits w32 c.args.dx = search rules in let down : SFits w32 c.args.dy = search rules in
    record {
      scene = e.scene;
      card = still_there (arc_value i.scene) i.card c.carry_on.new.card (record { front = carried_by c.args.rects.now c.args.dx c.args.dy p.front; back = carried_by c.args.rects.now c.args.dx c.args.dy p.back }) e.card c.carry_on.ensures.sides
          (ap (λ (v : Contents). length v.memory) c.carry_on.ensures.others)
          (record { shown = (rw (to_z-of_z w32 c.args.dx across, to_z-of_z w32 c.args.dy down) at c.carry_on.ensures.shown) p.front e.card.whole.shown; held = (rw (to_z-of_z w32 c.args.dx across, to_z-of_z w32 c.args.dy down) at c.carry_on.ensures.held) p.back e.card.whole.held });
      room = e.room;
      few = e.few;
      kept = e.kept;
      ready = e.ready;
    }

pub returns-clause-screen : goal.returns-clause-screen
returns-clause-screen c = let s = arc_value c.self.inside.scene in
    plane_sides c.carry_on.new.card s.width s.height (c.carry_on.ensures.sides s.width s.height c.self.invariant.card.sides)
