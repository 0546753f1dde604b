-- The triangle is drawn in the clip.
use Rattle.std.proofs.Common.{sym, subst}
use Rattle.dri_model.specs.Words.{card_image, rules_in}
use Rattle.dri_card.specs.Contents.{HoldPairs, Holds}
use Rattle.dri_card.specs.Drawing.{after_triangle}
use Rattle.dri_walk.specs.Drawings.{after_drawing}
use Rattle.dri_walk.specs.Samplings.{byte_in}
use Rattle.dri_card.proofs.card.Card.draw.Goals as goal

pub returns-clause-drawn : goal.returns-clause-drawn
returns-clause-drawn g c =
    λ f holds.
    let r = c.self.inside.registers in
    let t = c.args.triangle.now in
    let new = c.draw_triangle.new.surface in
    let here = subst (λ v. Holds v f) (sym c.self.view_is) holds in
    subst (λ v. HoldPairs new.back new.depth (after_triangle v c.args.origin t f)) c.self.view_is
    (subst (λ m. HoldPairs new.back new.depth (after_drawing (λ p. p) (rules_in r) (card_image (byte_in m) r.bound) t c.self.inside.clip c.args.origin f)) c.as_slice.ensures.value (c.draw_triangle.ensures.pairs f here))
