-- The quotients and the remainders of the sum and of its slope.
use Rattle.std.proofs.Common.{◌≡◌, ℕ, ◌/◌, ◌%◌, ◌≤◌, ◌<◌, ℤ, pos, unsigned_abs, w64, FitsSigned, to_z, ap, refl, arith}
use Rattle.std.proofs.lemmas.Int.{to_z-of_z, ints}
use Rattle.std.specs.Int.{int_div_euclid, int_rem_euclid}
use Rattle.dri_raster.specs.declared.runner.Runner.TheInside.{Inside}
use Rattle.dri_raster.specs.Edges.{IsWithin}
use Rattle.dri_raster.proofs.Running.{begins, placed_small, slope_quotient, slope_remainder}
use Rattle.dri_raster.proofs.runner.Runner.new.Goals as goal

small_fits : (n : ℕ) → n ≤ 65535 → FitsSigned w64 (pos n)
small_fits n h = omega (arith, ints)

small_is : (n : ℕ) → n ≤ 65535 → to_z w64 n ≡ pos n
small_is n h = omega (arith, ints)

area_is : (a : ℕ) → a ≤ 8589672450 → to_z w64 a ≡ pos a
area_is a h = omega (arith, ints)

slope_fits : (d : ℤ) → IsWithin 108086391056891904 d → FitsSigned w64 d
slope_fits d h = omega (arith, ints)

quotient_fits : (q p : ℤ) → q ≡ p → IsWithin 108086391056891905 p → FitsSigned w64 q
quotient_fits q p e h = omega (arith, ints)

remainder_fits : (z y : ℤ) (a : ℕ) → z ≡ y → unsigned_abs y < a → a ≤ 8589672450 → FitsSigned w64 z
remainder_fits z y a e h k = omega (arith, ints)

area_fits : (a : ℕ) → a ≤ 8589672450 → FitsSigned w64 (pos a)
area_fits a h = omega (arith, ints)

pub overflow_cast-result : goal.overflow_cast-result
overflow_cast-result c =
    let x_fits = c.ranges.x in
    let y_fits = c.ranges.y in
    small_fits _ (placed_small c.args.setup.now c.args.channel c.args.x c.args.y _ c.twice_area-area.result c.requires c.sum_at-sum.ensures.bounded (simp to_z-of_z at c.sum_at-sum.ensures.value) c.twice_area-area.ensures.value)

pub invariant_of-result : goal.invariant_of-result
invariant_of-result c =
    let x_fits = c.ranges.x in
    let y_fits = c.ranges.y in
    let a = c.twice_area-area.result in
    let s = c.sum_at-sum.result in
    let d = c.slope-slope.result in
    let some = c.twice_area-area.ensures.some in
    let sum_is = simp to_z-of_z at c.sum_at-sum.ensures.value in
    let small = placed_small c.args.setup.now c.args.channel c.args.x c.args.y s a c.requires c.sum_at-sum.ensures.bounded sum_is c.twice_area-area.ensures.value in
    let divisor_is = area_is a c.twice_area-area.ensures.small in
    let a_fits = area_fits a c.twice_area-area.ensures.small in
    let d_fits = slope_fits d c.slope-slope.ensures.small in
    let quotient_is : c.div_euclid.result ≡ int_div_euclid d (pos a) = simp (to_z-of_z, divisor_is) at c.div_euclid.ensures in
    let remainder_is : c.rem_euclid.result ≡ int_rem_euclid d (pos a) = simp (to_z-of_z, divisor_is) at c.rem_euclid.ensures.value in
    let q_fits = quotient_fits c.div_euclid.result _ quotient_is (slope_quotient d a some c.slope-slope.ensures.small) in
    let r_fits = remainder_fits c.rem_euclid.result _ a remainder_is (slope_remainder d a some) c.twice_area-area.ensures.small in
    let r : Inside = record {
      setup = c.args.setup;
      channel = c.args.channel;
      x = c.args.x;
      y = c.args.y;
      area = a;
      quotient = to_z w64 (s / a);
      remainder = s % a;
      quotient_slope = c.div_euclid.result;
      remainder_slope = unsigned_abs c.rem_euclid.result;
    } in
    simp to_z-of_z (begins r s d c.twice_area-area.ensures.in_range c.sum_at-sum.ensures.bounded c.requires c.twice_area-area.ensures.value some sum_is c.slope-slope.ensures.value c.slope-slope.ensures.small (small_is _ small) refl quotient_is (ap unsigned_abs remainder_is))
