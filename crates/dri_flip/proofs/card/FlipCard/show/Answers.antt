-- The pixels are copied once what is owed is made.
use Rattle.std.proofs.Common.{◌∙◌, sym, ap, arith}
use Rattle.dri_base.specs.declared.colour.Rgb.{Rgb}
use Rattle.dri_plane.specs.Grids.{Grid}
use Rattle.dri_flip.specs.Calls.{touch}
use Rattle.dri_flip.proofs.Meant.{front_alone, front_inside, held_inside, keep_shown, owed_inside, shown_inside}
use Rattle.dri_flip.proofs.Owed.{all_steps, no_steps, owed_none, owed_still, swapped_none}
use Rattle.dri_flip.proofs.card.FlipCard.show.Goals as goal

pub copy_all-requires-clause-inside : goal.copy_all-requires-clause-inside
copy_all-requires-clause-inside g c = rw (front_inside c.self.inside c.args.self.now c.pay.new.self c.self.view_is c.pay.ensures.paid) c.requires.inside

pub returns-then-touched_by-clause-shown : goal.returns-then-touched_by-clause-shown
returns-then-touched_by-clause-shown g c = λ f shown holds shows.
    let old = c.args.self.now in
    let mid = c.pay.new.self in
    let view = c.self.view_is in
    let paid = c.pay.ensures.paid in
    c.copy_all.ensures.shown f shown (held_inside c.self.inside old mid view paid f holds).colours (shown_inside c.self.inside old mid view paid shown shows)

pub returns-then-touched_by-clause-others : goal.returns-then-touched_by-clause-others
returns-then-touched_by-clause-others g c = front_alone c.self.inside c.args.self.now c.pay.new.self c.self.view_is c.pay.ensures.paid c.copy_all.new.front

pub returns-then-touched_by-clause-sides : goal.returns-then-touched_by-clause-sides
returns-then-touched_by-clause-sides g c =
    let old = c.args.self.now in
    let mid = c.pay.new.self in
    let front = front_inside c.self.inside old mid c.self.view_is c.pay.ensures.paid in
    keep_shown old _ (front_alone c.self.inside old mid c.self.view_is c.pay.ensures.paid c.copy_all.new.front)
    (c.copy_all.ensures.new_width ∙ ap (λ (p : Grid Rgb). p.width) front) (c.copy_all.ensures.new_height ∙ ap (λ (p : Grid Rgb). p.height) front)

pub returns-then-touched_by-clause-owed : goal.returns-then-touched_by-clause-owed
returns-then-touched_by-clause-owed g c =
    let old = c.args.self.now in
    owed_inside c.self.inside old c.pay.new.self c.self.view_is c.pay.ensures.paid ∙ sym (owed_none old (touch old c.args.rects.now) (sym c.touched_by.ensures.touch ∙ c.if-touched_by.true))

pub returns-then-touched_by-clause-cost : goal.returns-then-touched_by-clause-cost
returns-then-touched_by-clause-cost g c =
    let old = c.args.self.now in
    let copy = all_steps old (touch old c.args.rects.now) (sym c.touched_by.ensures.touch ∙ c.if-touched_by.true) in
    let paid = c.pay.ensures.cost in
    let cost = c.copy_all.ensures.cost in
    omega (arith, copy, paid, cost)

pub returns-else-touched_by-clause-shown : goal.returns-else-touched_by-clause-shown
returns-else-touched_by-clause-shown g c = λ f shown holds shows. swapped_none c.args.self.now c.args.rects.now f shown (c.touched_by.ensures.none c.if-touched_by.false) shows

pub returns-else-touched_by-clause-owed : goal.returns-else-touched_by-clause-owed
returns-else-touched_by-clause-owed g c = sym (owed_still c.args.self.now (touch c.args.self.now c.args.rects.now) (sym c.touched_by.ensures.touch ∙ c.if-touched_by.false))

pub returns-else-touched_by-clause-cost : goal.returns-else-touched_by-clause-cost
returns-else-touched_by-clause-cost g c =
    let old = c.args.self.now in
    let none = no_steps old (touch old c.args.rects.now) (sym c.touched_by.ensures.touch ∙ c.if-touched_by.false) in
    let empty = c.touched_by.ensures.none c.if-touched_by.false in
    omega (arith, none, empty)
