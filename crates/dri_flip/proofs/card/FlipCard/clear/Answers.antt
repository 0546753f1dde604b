-- The rectangles are cleared once what is owed is made, or need not be.
use Rattle.std.proofs.Common.{◌∙◌, sym, refl, arith}
use Rattle.dri_flip.specs.Calls.{fill, touch}
use Rattle.dri_flip.proofs.Meant.{drawn_alone, held_inside, held_outside, owed_inside, sides_after}
use Rattle.dri_flip.proofs.Owed.{cleared_none, fill_steps, none_steps, owed_none, owed_still, part_steps}
use Rattle.dri_flip.proofs.card.FlipCard.clear.Goals as goal

pub returns-then-covered_by-clause-owed : goal.returns-then-covered_by-clause-owed
returns-then-covered_by-clause-owed g c =
    c.clear_whole.ensures.owed ∙ sym (owed_none c.args.self.now (touch c.args.self.now c.args.rects.now) (c.covered_by.ensures.touch c.if-covered_by.true))

pub returns-then-covered_by-clause-cost : goal.returns-then-covered_by-clause-cost
returns-then-covered_by-clause-cost g c =
    let old = c.args.self.now in
    let none = fill_steps old (touch old c.args.rects.now) (fill old c.args.rects.now) (sym c.covered_by.ensures.fill ∙ c.if-covered_by.true) in
    let cost = c.clear_whole.ensures.cost in
    omega (arith, none, cost)

pub returns-then-touched_by-clause-held : goal.returns-then-touched_by-clause-held
returns-then-touched_by-clause-held g c = λ f holds.
    let old = c.args.self.now in
    let mid = c.pay.new.self in
    let new = c.clear_all.new.target in
    held_outside c.self.inside old mid c.self.view_is c.pay.ensures.paid c.self.inside.front new.back new.depth _ (c.clear_all.ensures.pairs f (held_inside c.self.inside old mid c.self.view_is c.pay.ensures.paid f holds))

pub returns-then-touched_by-clause-others : goal.returns-then-touched_by-clause-others
returns-then-touched_by-clause-others g c = drawn_alone c.self.inside c.args.self.now c.pay.new.self c.self.view_is c.pay.ensures.paid c.clear_all.new.target.back c.clear_all.new.target.depth

pub returns-then-touched_by-clause-owed : goal.returns-then-touched_by-clause-owed
returns-then-touched_by-clause-owed g c =
    let old = c.args.self.now in
    owed_inside c.self.inside old c.pay.new.self c.self.view_is c.pay.ensures.paid ∙ sym (owed_none old (touch old c.args.rects.now) (sym c.touched_by.ensures.touch ∙ c.if-touched_by.true))

pub returns-then-touched_by-clause-cost : goal.returns-then-touched_by-clause-cost
returns-then-touched_by-clause-cost g c =
    let old = c.args.self.now in
    let copy = part_steps old (touch old c.args.rects.now) (fill old c.args.rects.now) (sym c.touched_by.ensures.touch ∙ c.if-touched_by.true) (sym c.covered_by.ensures.fill ∙ c.if-covered_by.false) in
    let paid = c.pay.ensures.cost in
    let cost = c.clear_all.ensures.cost in
    omega (arith, copy, paid, cost)

pub returns-else-touched_by-clause-held : goal.returns-else-touched_by-clause-held
returns-else-touched_by-clause-held g c = λ f holds. cleared_none c.args.self.now c.args.rects.now c.args.colour c.args.depth f (c.touched_by.ensures.none c.if-touched_by.false) holds

pub returns-else-touched_by-clause-owed : goal.returns-else-touched_by-clause-owed
returns-else-touched_by-clause-owed g c = sym (owed_still c.args.self.now (touch c.args.self.now c.args.rects.now) (sym c.touched_by.ensures.touch ∙ c.if-touched_by.false))

pub returns-else-touched_by-clause-cost : goal.returns-else-touched_by-clause-cost
returns-else-touched_by-clause-cost g c =
    let old = c.args.self.now in
    let none = none_steps old (touch old c.args.rects.now) (fill old c.args.rects.now) (sym c.touched_by.ensures.touch ∙ c.if-touched_by.false) in
    let empty = c.touched_by.ensures.none c.if-touched_by.false in
    omega (arith, none, empty)

pub returns-then-touched_by-clause-sides : goal.returns-then-touched_by-clause-sides
returns-then-touched_by-clause-sides g c =
    let new = c.clear_all.new.target in
    sides_after c.self.inside c.args.self.now c.pay.new.self c.self.inside.front new.back new.depth c.self.view_is c.pay.ensures.paid c.self.invariant refl refl c.clear_all.ensures.width c.clear_all.ensures.height new.same_width new.same_height

pub invariant_of-self : goal.invariant_of-self
invariant_of-self g c =
    let fits = c.self.invariant in
    let new = c.clear_all.new.target in
    record {
      wide = fits.wide;
      high = fits.high;
      back_width = c.clear_all.ensures.width ∙ fits.back_width;
      back_height = c.clear_all.ensures.height ∙ fits.back_height;
      depth_width = new.same_width ∙ (c.clear_all.ensures.width ∙ fits.back_width);
      depth_height = new.same_height ∙ (c.clear_all.ensures.height ∙ fits.back_height);
      room = fits.room;
    }
