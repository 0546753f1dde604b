-- The edges' sum is the weighed sum, which isn't negative.
use Rattle.std.proofs.Common.{◌≡◌, ℕ, ℤ, pos, ◌≤ℤ◌, unsigned_abs, w64, FitsSigned, ap, ◌∙◌, arith}
use Rattle.std.proofs.lemmas.Int.{to_z-of_z, ints}
use Rattle.dri_base.specs.declared.shape.Triangle.{Triangle}
use Rattle.dri_base.specs.Coverage.{centre, covers, turned, weighed}
use Rattle.dri_raster.specs.Channels.{value_of}
use Rattle.dri_raster.proofs.Quantities.{weighed_is}
use Rattle.dri_raster.proofs.Reach.{covered_column, covered_row}
use Rattle.dri_raster.proofs.Running.{weighed_above}
use Rattle.dri_raster.proofs.setup.Setup.sum_at.Goals as goal

pub weighed-sum-requires-clause-x : goal.weighed-sum-requires-clause-x
weighed-sum-requires-clause-x c =
    let fits = c.ranges.x in
    simp to_z-of_z (covered_column c.self.inside.triangle c.args.x c.args.y c.self.invariant.in_range (ap (λ t. covers t c.args.x c.args.y) c.self.view_is ∙ c.requires))

pub weighed-sum-requires-clause-y : goal.weighed-sum-requires-clause-y
weighed-sum-requires-clause-y c =
    let fits = c.ranges.y in
    simp to_z-of_z (covered_row c.self.inside.triangle c.args.x c.args.y c.self.invariant.in_range (ap (λ t. covers t c.args.x c.args.y) c.self.view_is ∙ c.requires))

not_negative : (n : ℕ) (s w : ℤ) → n ≡ unsigned_abs s → s ≡ w → pos 0 ≤ℤ w → pos n ≡ w
not_negative n s w h k above = omega (arith, ints)

pub returns-clause-value : goal.returns-clause-value
returns-clause-value c =
    let s = c.self.inside in
    let value = value_of c.args.channel in
    let x_fits = c.ranges.x in
    let y_fits = c.ranges.y in
    let sum_is = simp to_z-of_z at c.weighed-sum.ensures.value in
    let sum_fits : FitsSigned w64 c.weighed-sum.result = omega (arith, ints) in
    let abs_is = simp to_z-of_z at c.unsigned_abs.ensures.value in
    not_negative _ _ _ abs_is (sum_is ∙ weighed_is s value c.args.x c.args.y c.self.invariant ∙ ap (λ (t : Triangle). weighed (turned t) value (centre c.args.x c.args.y)) c.self.view_is) (weighed_above c.args.self.now value c.args.x c.args.y c.requires)
