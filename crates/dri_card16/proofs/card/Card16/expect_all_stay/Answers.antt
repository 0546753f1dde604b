-- The sides of the screen are those of front.
use Rattle.std.proofs.Common.{◌≡◌, ◌∙◌, ap, w32}
use Rattle.std.proofs.lemmas.Int.{to_z-of_z}
use Rattle.dri_card16.proofs.card.Card16.expect_all_stay.Goals as goal

pub returns-clause-stay : goal.returns-clause-stay
returns-clause-stay c =
    let same_dx = to_z-of_z w32 c.args.dx c.ranges.dx in
    let same_dy = to_z-of_z w32 c.args.dy c.ranges.dy in
    let wide : c.width.result ≡ c.args.self.now.front.width = c.width.ensures.value ∙ ap (λ v. v.front.width) c.self.view_is in
    let high : c.height.result ≡ c.args.self.now.front.height = c.height.ensures.value ∙ ap (λ v. v.front.height) c.self.view_is in
    rw (same_dx, same_dy, wide, high) at c.expect_all_stay.ensures.stay
