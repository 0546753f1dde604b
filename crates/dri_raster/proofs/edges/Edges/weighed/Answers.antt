-- The three numbers are the distances.
use Rattle.std.proofs.Common.{◌≡◌, ℕ, w64, arith, ℤ, pos, ◌+ℤ◌, ◌*ℤ◌, FitsSigned, ap, ◌∙◌}
use Rattle.std.proofs.lemmas.Int.{to_z-of_z, ints}
use Rattle.dri_raster.proofs.edges.Edges.weighed.Goals as goal

sum_same : (a b c x y z : ℤ) (i j k : ℕ) → a ≡ x → b ≡ y → c ≡ z → ((a *ℤ pos i) +ℤ (b *ℤ pos j)) +ℤ (c *ℤ pos k) ≡ ((x *ℤ pos i) +ℤ (y *ℤ pos j)) +ℤ (z *ℤ pos k)
sum_same a b c x y z i j k p q r =
    ap (λ d. ((d *ℤ pos i) +ℤ (b *ℤ pos j)) +ℤ (c *ℤ pos k)) p
    ∙ ap (λ d. ((x *ℤ pos i) +ℤ (d *ℤ pos j)) +ℤ (c *ℤ pos k)) q
    ∙ ap (λ d. ((x *ℤ pos i) +ℤ (y *ℤ pos j)) +ℤ (d *ℤ pos k)) r

pub returns-clause-value : goal.returns-clause-value
returns-clause-value c =
    let x_fits = c.ranges.x in
    let y_fits = c.ranges.y in
    let ab_fits : FitsSigned w64 c.distance-3.result = omega (arith, ints) in
    let bc_fits : FitsSigned w64 c.distance.result = omega (arith, ints) in
    let ca_fits : FitsSigned w64 c.distance-2.result = omega (arith, ints) in
    let sum_fits : FitsSigned w64 c.weighed.result = omega (arith, ints) in
    let ab_is = simp to_z-of_z at c.distance-3.ensures.value in
    let bc_is = simp to_z-of_z at c.distance.ensures.value in
    let ca_is = simp to_z-of_z at c.distance-2.ensures.value in
    let sum_is = simp to_z-of_z at c.weighed.ensures.value in
    simp to_z-of_z (sum_is ∙ sum_same _ _ _ _ _ _ _ _ _ bc_is ca_is ab_is)
