-- The triangle, or the line that it is, is drawn in the clip.
use Rattle.std.proofs.Common.{sym, subst}
use Rattle.dri_model.specs.Words.{card_image, rules_in}
use Rattle.dri_card.specs.Contents.{HoldPairs, Holds}
use Rattle.dri_card16.specs.Calls.{after_drawing16, after_triangle16}
use Rattle.dri_card16.specs.Widened.{seen}
use Rattle.dri_walk.specs.Samplings.{byte_in}
use Rattle.dri_card16.proofs.card.Card16.draw.Goals as goal

pub returns-clause-drawn : goal.returns-clause-drawn
returns-clause-drawn g c =
    λ f holds.
    let r = c.self.inside.registers in
    let t = c.args.triangle.now in
    let new = c.draw16.new.target in
    let here = subst (λ v. Holds v f) (sym c.self.view_is) holds in
    subst (λ v. HoldPairs (seen new.back) new.depth (after_triangle16 v c.args.origin t f)) c.self.view_is
    (subst (λ m. HoldPairs (seen new.back) new.depth (after_drawing16 (rules_in r) (card_image (byte_in m) r.bound) t c.self.inside.clip c.args.origin f)) c.as_slice.ensures.value (c.draw16.ensures.pairs f here))
