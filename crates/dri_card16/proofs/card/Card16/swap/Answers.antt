-- The words of back are copied to front, and so is what they show.
use Rattle.std.proofs.Common.{if◌then◌else◌, subst, sym}
use Rattle.dri_base.specs.Planes.{in_rect}
use Rattle.dri_card.specs.Contents.{Holds, Shows}
use Rattle.dri_card.proofs.CardPlanes.{shows_change}
use Rattle.dri_card16.specs.Widened.{seen}
use Rattle.dri_card16.proofs.Seen.{words_copied}
use Rattle.dri_card16.proofs.card.Card16.swap.Goals as goal

pub returns-clause-ok : goal.returns-clause-ok
returns-clause-ok g c =
    λ f shown holds shows.
    let front = c.self.inside.front in
    let back = c.self.inside.target.back in
    let new = c.copy_from.new.self in
    let sides = c.self.invariant.fit.sides in
    let here = subst (λ v. Holds v f) (sym c.self.view_is) holds in
    let there = subst (λ v. Shows v shown) (sym c.self.view_is) shows in
    shows_change (seen front) (seen new) (λ h x y. if in_rect c.args.rect x y then (f x y).colour else h x y) shown c.copy_from.ensures.width c.copy_from.ensures.height
    (words_copied back front new (in_rect c.args.rect) (λ x y. (f x y).colour) sides.back_width sides.back_height c.copy_from.ensures.pixels here.colours) there
