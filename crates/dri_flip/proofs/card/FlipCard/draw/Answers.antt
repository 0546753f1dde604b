-- The triangle is drawn once what is owed is made.
use Rattle.std.proofs.Common.{◌∙◌, sym, refl, arith, option_copied}
use Rattle.dri_base.specs.Fragments.{rules_of}
use Rattle.dri_base.specs.Texels.{given_image}
use Rattle.dri_flip.specs.Calls.{touch}
use Rattle.dri_flip.proofs.Drawn.{bound_image, drawn_alike}
use Rattle.dri_flip.proofs.Meant.{drawn_alone, held_inside, held_outside, owed_inside, sides_after}
use Rattle.dri_flip.proofs.Owed.{all_steps, drawn_none, no_steps, owed_none, owed_still}
use Rattle.dri_flip.proofs.card.FlipCard.draw.Goals as goal
use Rattle.dri_model.specs.Words.{rules_in}

pub returns-then-touched_by-clause-held : goal.returns-then-touched_by-clause-held
returns-then-touched_by-clause-held g c = λ f holds.
    let old = c.args.self.now in
    let mid = c.pay.new.self in
    let new = c.draw_all.new.target in
    let fits = c.self.invariant in
    let regs = c.registers_of-registers in
    held_outside c.self.inside old mid c.self.view_is c.pay.ensures.paid c.self.inside.front new.back new.depth _
    (drawn_alike new.back new.depth c.args.rects.now c.args.origin (rules_in regs.result) (rules_of c.args.state.now) _ (option_copied c.args.image) c.args.triangle.now f new.same_width new.same_height
    (omega (arith, c.draw_all.ensures.width, fits.back_width, fits.wide)) (omega (arith, c.draw_all.ensures.height, fits.back_height, fits.high)) c.requires.x c.requires.y regs.ensures.alike
    (bound_image (option_copied c.args.image) regs.result.bound c.bytes_of.result.now regs.ensures.image c.bytes_of.ensures)
    (c.draw_all.ensures.pairs f (held_inside c.self.inside old mid c.self.view_is c.pay.ensures.paid f holds)))

pub returns-then-touched_by-clause-others : goal.returns-then-touched_by-clause-others
returns-then-touched_by-clause-others g c = drawn_alone c.self.inside c.args.self.now c.pay.new.self c.self.view_is c.pay.ensures.paid c.draw_all.new.target.back c.draw_all.new.target.depth

pub returns-then-touched_by-clause-owed : goal.returns-then-touched_by-clause-owed
returns-then-touched_by-clause-owed g c =
    let old = c.args.self.now in
    owed_inside c.self.inside old c.pay.new.self c.self.view_is c.pay.ensures.paid ∙ sym (owed_none old (touch old c.args.rects.now) (sym c.touched_by.ensures.touch ∙ c.if-touched_by.true))

pub returns-then-touched_by-clause-cost : goal.returns-then-touched_by-clause-cost
returns-then-touched_by-clause-cost g c =
    let old = c.args.self.now in
    let copy = all_steps old (touch old c.args.rects.now) (sym c.touched_by.ensures.touch ∙ c.if-touched_by.true) in
    let paid = c.pay.ensures.cost in
    let cost = c.draw_all.ensures.cost in
    omega (arith, copy, paid, cost)

pub returns-else-touched_by-clause-held : goal.returns-else-touched_by-clause-held
returns-else-touched_by-clause-held g c = λ f holds. drawn_none c.args.self.now c.args.rects.now c.args.origin (rules_of c.args.state.now) (given_image (option_copied c.args.image)) c.args.triangle.now f (c.touched_by.ensures.none c.if-touched_by.false) holds

pub returns-else-touched_by-clause-owed : goal.returns-else-touched_by-clause-owed
returns-else-touched_by-clause-owed g c = sym (owed_still c.args.self.now (touch c.args.self.now c.args.rects.now) (sym c.touched_by.ensures.touch ∙ c.if-touched_by.false))

pub returns-then-touched_by-clause-sides : goal.returns-then-touched_by-clause-sides
returns-then-touched_by-clause-sides g c =
    let new = c.draw_all.new.target in
    sides_after c.self.inside c.args.self.now c.pay.new.self c.self.inside.front new.back new.depth c.self.view_is c.pay.ensures.paid c.self.invariant refl refl c.draw_all.ensures.width c.draw_all.ensures.height new.same_width new.same_height

pub invariant_of-self : goal.invariant_of-self
invariant_of-self g c =
    let fits = c.self.invariant in
    let new = c.draw_all.new.target in
    record {
      wide = fits.wide;
      high = fits.high;
      back_width = c.draw_all.ensures.width ∙ fits.back_width;
      back_height = c.draw_all.ensures.height ∙ fits.back_height;
      depth_width = new.same_width ∙ (c.draw_all.ensures.width ∙ fits.back_width);
      depth_height = new.same_height ∙ (c.draw_all.ensures.height ∙ fits.back_height);
      room = fits.room;
    }

pub returns-else-touched_by-clause-cost : goal.returns-else-touched_by-clause-cost
returns-else-touched_by-clause-cost g c =
    let old = c.args.self.now in
    let none = no_steps old (touch old c.args.rects.now) (sym c.touched_by.ensures.touch ∙ c.if-touched_by.false) in
    omega (arith, none)
