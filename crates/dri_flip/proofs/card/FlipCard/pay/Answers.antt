-- The copy that is owed is made.
use Rattle.std.proofs.Common.{◌≡◌, ◌∙◌, sym, arith}
use Rattle.dri_base.specs.declared.shape.ClipRect.{ClipRect}
use Rattle.dri_flip.proofs.Meant.{paid_meaning, paid_steps, unpaid_meaning, unpaid_steps}
use Rattle.dri_flip.proofs.Pixels.{black, copied}
use Rattle.dri_flip.proofs.card.FlipCard.pay.Goals as goal

pub returns-then-self-clause-paid : goal.returns-then-self-clause-paid
returns-then-self-clause-paid g c =
    let from = c.self.inside.front in
    let old = c.self.inside.target.back in
    let fits = c.self.invariant in
    let whole : ◌≡◌ {A = ClipRect} (record { x1 = 0; y1 = 0; x2 = c.width.result; y2 = c.height.result }) (record { x1 = 0; y1 = 0; x2 = old.width; y2 = old.height }) =
    λ i. record { x1 = 0; y1 = 0; x2 = (c.width.ensures.value ∙ sym fits.back_width) i; y2 = (c.height.ensures.value ∙ sym fits.back_height) i } in
    paid_meaning c.self.inside c.args.self.now c.copy_from.new.self c.self.view_is c.if-self.true
    (copied from old c.copy_from.new.self _ black c.own_pixels.ensures c.own_pixels-then-self.ensures (sym fits.back_width) (sym fits.back_height) c.copy_from.ensures.width c.copy_from.ensures.height whole c.copy_from.ensures.pixels)

pub returns-then-self-clause-cost : goal.returns-then-self-clause-cost
returns-then-self-clause-cost g c =
    let whole : ◌≡◌ {A = ClipRect} (record { x1 = 0; y1 = 0; x2 = c.width.result; y2 = c.height.result }) (record { x1 = 0; y1 = 0; x2 = c.self.inside.front.width; y2 = c.self.inside.front.height }) =
    λ i. record { x1 = 0; y1 = 0; x2 = c.width.ensures.value i; y2 = c.height.ensures.value i } in
    let copy = paid_steps c.self.inside c.args.self.now _ c.self.view_is c.if-self.true whole in
    let cost = c.copy_from.ensures.cost in
    omega (arith, copy, cost)

pub returns-else-self-clause-paid : goal.returns-else-self-clause-paid
returns-else-self-clause-paid g c = sym c.self.view_is ∙ unpaid_meaning c.self.inside c.args.self.now c.self.view_is c.if-self.false

pub returns-else-self-clause-cost : goal.returns-else-self-clause-cost
returns-else-self-clause-cost g c = let none = unpaid_steps c.self.inside c.args.self.now c.self.view_is c.if-self.false in omega (arith, none)
