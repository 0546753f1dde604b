-- The texture that is bound has the image that is bound.
use Rattle.std.proofs.Common.{◌≡◌, ◌∙◌, w32, to_z, of_z, ap, subst, option_copied}
use Rattle.std.proofs.lemmas.Int.{to_z-of_z}
use Rattle.dri_base.specs.Fragments.{fragment, rules_of}
use Rattle.dri_base.specs.Texels.{given_image, texture_bound}
use Rattle.dri_meaning.proofs.solo.triangle_drawn.Goals as goal

pub returns : goal.returns
returns c =
    let ex = to_z-of_z w32 c.args.x c.ranges.x in
    let ey = to_z-of_z w32 c.args.y c.ranges.y in
    let rules = rules_of c.args.state.now in
    let given = given_image (option_copied c.texture_bound-texture.result) in
    let found = subst (λ ts. option_copied c.texture_bound-texture.result ≡ texture_bound ts c.args.state.now.bound) c.as_slice.ensures c.texture_bound-texture.ensures.found in
    let drawn = subst (λ z. c.triangle_at.result ≡ fragment rules given c.args.triangle.now c.args.x z c.args.under) ey
    (subst (λ z. c.triangle_at.result ≡ fragment rules given c.args.triangle.now z (to_z w32 (of_z w32 c.args.y)) c.args.under) ex c.triangle_at.ensures) in
    drawn ∙ ap (λ o. fragment rules (given_image o) c.args.triangle.now c.args.x c.args.y c.args.under) found
