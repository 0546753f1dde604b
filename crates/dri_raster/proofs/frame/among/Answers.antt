-- The least place bounds the first, and the greatest the last.
use Rattle.std.proofs.Common.{ℤ, pos, ◌+ℤ◌, ◌*ℤ◌, ◌≤ℤ◌, w32, FitsSigned, arith}
use Rattle.std.proofs.lemmas.Int.{to_z-of_z, ints}
use Rattle.dri_raster.proofs.frame.among.Goals as goal

at_most : (a b c : ℤ) → a ≤ℤ b → b ≤ℤ c → a ≤ℤ c
at_most a b c h k = omega (arith, ints)

pub returns-clause-first : goal.returns-clause-first
returns-clause-first c n =
    let a_fits = c.ranges.a in
    let b_fits = c.ranges.b in
    let c_fits = c.ranges.c in
    let least_fits : FitsSigned w32 c.least.result = omega (arith, ints, c.least.ensures.in_range) in
    let result_fits : FitsSigned w32 c.first-x1.result = omega (arith, ints, c.first-x1.ensures.near) in
    let first = (simp to_z-of_z at c.first-x1.ensures.first) n in
    let below = simp to_z-of_z at c.least.ensures.one in
    simp to_z-of_z (
      λ h. first.0 (h c.least.result (simp to_z-of_z at c.least.ensures.a) (simp to_z-of_z at c.least.ensures.b) (simp to_z-of_z at c.least.ensures.c)),
      λ low k to_a to_b to_c. at_most k c.least.result ((pos 16 *ℤ n) +ℤ pos 8) (below k to_a to_b to_c) (first.1 low),
    )

pub returns-clause-past : goal.returns-clause-past
returns-clause-past c n =
    let a_fits = c.ranges.a in
    let b_fits = c.ranges.b in
    let c_fits = c.ranges.c in
    let greatest_fits : FitsSigned w32 c.greatest.result = omega (arith, ints, c.greatest.ensures.in_range) in
    let result_fits : FitsSigned w32 c.past-x2.result = omega (arith, ints, c.past-x2.ensures.near) in
    let past = (simp to_z-of_z at c.past-x2.ensures.past) n in
    let above = simp to_z-of_z at c.greatest.ensures.one in
    simp to_z-of_z (
      λ h. past.0 (h c.greatest.result (simp to_z-of_z at c.greatest.ensures.a) (simp to_z-of_z at c.greatest.ensures.b) (simp to_z-of_z at c.greatest.ensures.c)),
      λ high k to_a to_b to_c. at_most ((pos 16 *ℤ n) +ℤ pos 8) c.greatest.result k (past.1 high) (above k to_a to_b to_c),
    )
