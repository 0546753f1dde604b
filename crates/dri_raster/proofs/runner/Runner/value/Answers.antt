-- The quotient that is kept is the quantity.
use Rattle.std.proofs.Common.{◌≡◌, ℕ, ◌≤◌, ℤ, pos, ◌≤ℤ◌, nat_abs, w64, FitsSigned, ap, ◌∙◌, arith}
use Rattle.std.proofs.lemmas.Int.{to_z-of_z, ints}
use Rattle.dri_base.specs.Coverage.{quantity}
use Rattle.dri_raster.specs.Channels.{most, value_of}
use Rattle.dri_raster.specs.Standing.{Standing}
use Rattle.dri_raster.proofs.Running.{quotient_small, stands_at, value_bounded}
use Rattle.dri_raster.proofs.runner.Runner.value.Goals as goal

at_most : (q n m : ℕ) → q ≡ n → n ≤ m → q ≤ m
at_most q n m e h = omega arith

fits : (q : ℤ) → (pos 0 ≤ℤ q) × (q ≤ℤ pos 65535) → FitsSigned w64 q
fits q h = omega (arith, ints)

pub overflow_cast-result : goal.overflow_cast-result
overflow_cast-result c =
    let small = quotient_small c.self.inside c.self.invariant in
    (omega (arith, ints), omega (arith, ints))

pub returns-clause-value : goal.returns-clause-value
returns-clause-value c =
    let r = c.self.inside in
    let q_fits = fits r.quotient (quotient_small r c.self.invariant) in
    simp to_z-of_z (ap nat_abs (stands_at r c.self.invariant) ∙ ap (λ (v : Standing). quantity v.triangle (value_of v.channel) v.x v.y) c.self.view_is)

pub returns-clause-bounded : goal.returns-clause-bounded
returns-clause-bounded c =
    let r = c.self.inside in
    let q_fits = fits r.quotient (quotient_small r c.self.invariant) in
    let most_is = ap (λ (v : Standing). most v.channel) c.self.view_is in
    simp to_z-of_z (at_most _ _ _ (ap nat_abs (stands_at r c.self.invariant)) (rw (← most_is) (value_bounded r c.self.invariant)))
