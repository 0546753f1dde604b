-- One triangle more.
use Rattle.dri_card16.specs.Calls.{after_triangles16}
use Rattle.std.proofs.Common.{take, arith}
use Rattle.dri_card.proofs.CardPlanes.{drawn_twice}
use Rattle.dri_card16.proofs.Drawn16.{centres_all, centres_more, triangles_more}
use Rattle.dri_card16.proofs.card.Card16.draw_all.Goals as goal

pub loop-i-preserved : goal.loop-i-preserved
loop-i-preserved g c =
    let old = c.args.self.now in
    let ts = c.args.triangles.now in
    let seen = c.loop-i.invariant in
    record {
      drawn = λ f holds. triangles_more old c.loop-i.self c.draw.new.self c.args.origin ts c.loop-i.i c.triangle.result f seen.others c.triangle.ensures
          (c.draw.ensures.drawn (after_triangles16 old c.args.origin (take c.loop-i.i ts) f) (seen.drawn f holds));
      others = drawn_twice old c.loop-i.self c.draw.new.self seen.others c.draw.ensures.others;
      sides = λ width height sides. c.draw.ensures.sides width height (seen.sides width height sides);
      bound =
          let more = centres_more old c.loop-i.self c.args.origin ts c.loop-i.i c.triangle.result seen.others c.triangle.ensures in
          let one = c.draw.ensures.bound in
          let before = seen.bound in
          omega (arith, more, one, before);
    }

pub returns-clause-bound : goal.returns-clause-bound
returns-clause-bound g c =
    let all = centres_all c.args.self.now c.args.origin c.args.triangles.now c.loop-i.i (omega arith) in
    let cost = c.loop-i.invariant.bound in
    omega (arith, all, cost)
