-- Back is copied to front.
use Rattle.std.proofs.Common.{sym, subst}
use Rattle.dri_card.specs.Contents.{Holds, Shows}
use Rattle.dri_card.proofs.CardPlanes.{shows_change}
use Rattle.dri_card.proofs.card.Card.swap.Goals as goal
use Rattle.std.proofs.Common.{if◌then◌else◌}
use Rattle.dri_base.specs.Planes.{in_rect}

pub returns-clause-ok : goal.returns-clause-ok
returns-clause-ok g c =
    λ f shown holds shows.
    let here = subst (λ v. Holds v f) (sym c.self.view_is) holds in
    let there = subst (λ v. Shows v shown) (sym c.self.view_is) shows in
    shows_change c.self.inside.front c.copy_from.new.self (λ h x y. if in_rect c.args.rect x y then (f x y).colour else h x y) shown c.copy_from.ensures.width c.copy_from.ensures.height
    (c.copy_from.ensures.pixels (λ x y. (f x y).colour) here.colours) there
