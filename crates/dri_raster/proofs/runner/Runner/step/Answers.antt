-- The parts that are added are those of the next sum.
use Rattle.std.proofs.Common.{◌≤◌, ◌<◌, ◌+◌, ℕ, ℤ, pos, ◌+ℤ◌, ◌≤ℤ◌, w32, w64, Fits, FitsSigned, to_z, of_z, ap, ◌∙◌, arith}
use Rattle.std.proofs.lemmas.Int.{to_z-of_z, ints}
use Rattle.dri_base.specs.Coverage.{covers}
use Rattle.dri_raster.specs.Edges.{IsPixel, IsWithin}
use Rattle.dri_raster.specs.Standing.{Standing}
use Rattle.dri_raster.proofs.Reach.{covered_column}
use Rattle.dri_raster.proofs.Running.{quotient_small, runner_area, stepped, stepped_on}
use Rattle.dri_raster.proofs.runner.Runner.step.Goals as goal

column_fits : (x : ℤ) → IsPixel (x +ℤ pos 1) → FitsSigned w32 x
column_fits x h = omega (arith, ints)

next_column_fits : (x : ℤ) → IsPixel (x +ℤ pos 1) → FitsSigned w32 (x +ℤ pos 1)
next_column_fits x h = omega (arith, ints)

next_fits : (x : ℤ) → IsPixel (x +ℤ pos 1) → FitsSigned w32 (to_z w32 (of_z w32 x) +ℤ pos 1)
next_fits x h = omega (arith, ints)

quotient_fits : (q : ℤ) → (pos 0 ≤ℤ q) × (q ≤ℤ pos 65535) → FitsSigned w64 q
quotient_fits q h = omega (arith, ints)

slope_fits : (d : ℤ) → IsWithin 108086391056891905 d → FitsSigned w64 d
slope_fits d k = omega (arith, ints)

sum_fits : (q d : ℤ) → (pos 0 ≤ℤ q) × (q ≤ℤ pos 65535) → IsWithin 108086391056891905 d → FitsSigned w64 (q +ℤ d)
sum_fits q d h k = omega (arith, ints)

more_fits : (q d : ℤ) → (pos 0 ≤ℤ q) × (q ≤ℤ pos 65535) → IsWithin 108086391056891905 d → FitsSigned w64 ((q +ℤ d) +ℤ pos 1)
more_fits q d h k = omega (arith, ints)

remainders_fit : (a r dr : ℕ) → r < a → dr < a → a ≤ 8589672450 → Fits w64 (r + dr)
remainders_fit a r dr h k l = omega arith

pub overflow_add-self : goal.overflow_add-self
overflow_add-self c =
    let r = c.self.inside in
    let covered = ap (λ (v : Standing). covers v.triangle (v.x +ℤ pos 1) v.y) c.self.view_is ∙ c.requires in
    next_fits r.x (covered_column r.setup.now (r.x +ℤ pos 1) r.y c.self.invariant.in_range covered)

pub overflow_add-self-2 : goal.overflow_add-self-2
overflow_add-self-2 c =
    let r = c.self.inside in
    let small = quotient_small r c.self.invariant in
    let q_fits = quotient_fits r.quotient small in
    let d_fits = slope_fits r.quotient_slope c.self.invariant.quotient_slope in
    simp to_z-of_z (sum_fits r.quotient r.quotient_slope small c.self.invariant.quotient_slope)

pub overflow_add-self-3 : goal.overflow_add-self-3
overflow_add-self-3 c =
    remainders_fit _ _ _ c.self.invariant.remainder c.self.invariant.remainder_slope (runner_area c.self.inside c.self.invariant)

pub overflow_add-self-then-self : goal.overflow_add-self-then-self
overflow_add-self-then-self c =
    let r = c.self.inside in
    let small = quotient_small r c.self.invariant in
    let q_fits = quotient_fits r.quotient small in
    let d_fits = slope_fits r.quotient_slope c.self.invariant.quotient_slope in
    let added_fits = sum_fits r.quotient r.quotient_slope small c.self.invariant.quotient_slope in
    simp to_z-of_z (more_fits r.quotient r.quotient_slope small c.self.invariant.quotient_slope)

pub invariant_of-self : goal.invariant_of-self
invariant_of-self c =
    let r = c.self.inside in
    let covered = ap (λ (v : Standing). covers v.triangle (v.x +ℤ pos 1) v.y) c.self.view_is ∙ c.requires in
    let near = covered_column r.setup.now (r.x +ℤ pos 1) r.y c.self.invariant.in_range covered in
    let x_fits = column_fits r.x near in
    let next_x_fits = next_column_fits r.x near in
    let small = quotient_small r c.self.invariant in
    let q_fits = quotient_fits r.quotient small in
    let d_fits = slope_fits r.quotient_slope c.self.invariant.quotient_slope in
    let added_fits = sum_fits r.quotient r.quotient_slope small c.self.invariant.quotient_slope in
    let last_fits = more_fits r.quotient r.quotient_slope small c.self.invariant.quotient_slope in
    simp to_z-of_z (stepped_on r c.self.invariant covered (omega arith))

pub invariant_of-self-else-self : goal.invariant_of-self-else-self
invariant_of-self-else-self c =
    let r = c.self.inside in
    let covered = ap (λ (v : Standing). covers v.triangle (v.x +ℤ pos 1) v.y) c.self.view_is ∙ c.requires in
    let near = covered_column r.setup.now (r.x +ℤ pos 1) r.y c.self.invariant.in_range covered in
    let x_fits = column_fits r.x near in
    let next_x_fits = next_column_fits r.x near in
    let small = quotient_small r c.self.invariant in
    let q_fits = quotient_fits r.quotient small in
    let d_fits = slope_fits r.quotient_slope c.self.invariant.quotient_slope in
    let added_fits = sum_fits r.quotient r.quotient_slope small c.self.invariant.quotient_slope in
    simp to_z-of_z (stepped r c.self.invariant covered (omega arith))

pub returns-then-self : goal.returns-then-self
returns-then-self c =
    let r = c.self.inside in
    let covered = ap (λ (v : Standing). covers v.triangle (v.x +ℤ pos 1) v.y) c.self.view_is ∙ c.requires in
    let near = covered_column r.setup.now (r.x +ℤ pos 1) r.y c.self.invariant.in_range covered in
    let x_fits = column_fits r.x near in
    let next_x_fits = next_column_fits r.x near in
    simp to_z-of_z (ap (λ (v : Standing). record v { x = v.x +ℤ pos 1 }) c.self.view_is)

pub returns-else-self : goal.returns-else-self
returns-else-self c =
    let r = c.self.inside in
    let covered = ap (λ (v : Standing). covers v.triangle (v.x +ℤ pos 1) v.y) c.self.view_is ∙ c.requires in
    let near = covered_column r.setup.now (r.x +ℤ pos 1) r.y c.self.invariant.in_range covered in
    let x_fits = column_fits r.x near in
    let next_x_fits = next_column_fits r.x near in
    simp to_z-of_z (ap (λ (v : Standing). record v { x = v.x +ℤ pos 1 }) c.self.view_is)
