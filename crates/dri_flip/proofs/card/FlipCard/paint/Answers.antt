-- The pixels are painted once what is owed is made.
use Rattle.std.proofs.Common.{◌∙◌, [], ◌∷◌, sym, ap, arith, if◌then◌else◌}
use Rattle.dri_base.specs.Planes.{in_rect}
use Rattle.dri_card.proofs.CardPlanes.{shows_change}
use Rattle.dri_base.specs.declared.colour.Rgb.{Rgb}
use Rattle.dri_plane.specs.Grids.{Grid}
use Rattle.dri_flip.specs.Calls.{touch}
use Rattle.dri_flip.proofs.Meant.{front_alone, front_inside, keep_shown, owed_inside, shown_inside}
use Rattle.dri_flip.proofs.Owed.{all_steps, no_steps, one_count, owed_none, owed_still, unpainted}
use Rattle.dri_flip.proofs.card.FlipCard.paint.Goals as goal

pub returns-then-touched_by-clause-shown : goal.returns-then-touched_by-clause-shown
returns-then-touched_by-clause-shown g c = λ shown shows.
    shows_change c.self.inside.front c.fill.new.self (λ h x y. if in_rect c.args.rect x y then c.args.colour else h x y) shown c.fill.ensures.width c.fill.ensures.height c.fill.ensures.pixels
    (shown_inside c.self.inside c.args.self.now c.pay.new.self c.self.view_is c.pay.ensures.paid shown shows)

pub returns-then-touched_by-clause-others : goal.returns-then-touched_by-clause-others
returns-then-touched_by-clause-others g c = front_alone c.self.inside c.args.self.now c.pay.new.self c.self.view_is c.pay.ensures.paid c.fill.new.self

pub returns-then-touched_by-clause-sides : goal.returns-then-touched_by-clause-sides
returns-then-touched_by-clause-sides g c =
    let front = front_inside c.self.inside c.args.self.now c.pay.new.self c.self.view_is c.pay.ensures.paid in
    keep_shown c.args.self.now _ (front_alone c.self.inside c.args.self.now c.pay.new.self c.self.view_is c.pay.ensures.paid c.fill.new.self)
    (c.fill.ensures.width ∙ ap (λ (p : Grid Rgb). p.width) front) (c.fill.ensures.height ∙ ap (λ (p : Grid Rgb). p.height) front)

pub returns-then-touched_by-clause-owed : goal.returns-then-touched_by-clause-owed
returns-then-touched_by-clause-owed g c =
    let old = c.args.self.now in
    owed_inside c.self.inside old c.pay.new.self c.self.view_is c.pay.ensures.paid ∙ sym (owed_none old (touch old (c.args.rect ∷ [])) (sym c.touched_by.ensures.touch ∙ c.if-touched_by.true))

pub returns-then-touched_by-clause-cost : goal.returns-then-touched_by-clause-cost
returns-then-touched_by-clause-cost g c =
    let old = c.args.self.now in
    let copy = all_steps old (touch old (c.args.rect ∷ [])) (sym c.touched_by.ensures.touch ∙ c.if-touched_by.true) in
    let paid = c.pay.ensures.cost in
    let cost = c.fill.ensures.cost in
    omega (arith, copy, paid, cost)

pub returns-else-touched_by-clause-shown : goal.returns-else-touched_by-clause-shown
returns-else-touched_by-clause-shown g c = λ shown shows. unpainted c.args.self.now c.args.rect c.args.colour shown (c.touched_by.ensures.none c.if-touched_by.false) shows

pub returns-else-touched_by-clause-owed : goal.returns-else-touched_by-clause-owed
returns-else-touched_by-clause-owed g c = sym (owed_still c.args.self.now (touch c.args.self.now (c.args.rect ∷ [])) (sym c.touched_by.ensures.touch ∙ c.if-touched_by.false))

pub returns-else-touched_by-clause-cost : goal.returns-else-touched_by-clause-cost
returns-else-touched_by-clause-cost g c =
    let old = c.args.self.now in
    let none = no_steps old (touch old (c.args.rect ∷ [])) (sym c.touched_by.ensures.touch ∙ c.if-touched_by.false) in
    let empty = one_count c.args.rect (c.touched_by.ensures.none c.if-touched_by.false) in
    omega (arith, none, empty)
