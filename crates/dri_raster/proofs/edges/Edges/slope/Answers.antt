-- The three numbers are the columns, and the sum is turned.
use Rattle.std.proofs.Common.{◌≡◌, w64, arith, ℤ, pos, ◌-ℤ◌, neg_ℤ, FitsSigned, to_z, of_z, ap, ◌∙◌}
use Rattle.std.proofs.lemmas.Int.{to_z-of_z, ints}
use Rattle.dri_raster.specs.Edges.{IsWithin}
use Rattle.dri_raster.proofs.edges.Edges.slope.Goals as goal

turned_fits : (s : ℤ) → IsWithin 108086391056891904 s → FitsSigned w64 (pos 0 -ℤ to_z w64 (of_z w64 s))
turned_fits s p = omega (arith, ints)

turned_is : (s : ℤ) → IsWithin 108086391056891904 s → to_z w64 (of_z w64 (pos 0 -ℤ to_z w64 (of_z w64 s))) ≡ neg_ℤ s
turned_is s p =
    let fits : FitsSigned w64 s = omega (arith, ints) in
    let back_fits : FitsSigned w64 (pos 0 -ℤ s) = omega (arith, ints) in
    simp to_z-of_z (omega (arith, ints))

turned_small : (s : ℤ) → IsWithin 108086391056891904 s → IsWithin 108086391056891904 (to_z w64 (of_z w64 (pos 0 -ℤ to_z w64 (of_z w64 s))))
turned_small s p =
    let is = turned_is s p in
    (omega (arith, ints), omega (arith, ints))

pub overflow_sub-result : goal.overflow_sub-result
overflow_sub-result c = turned_fits _ c.weighed.ensures.small

pub returns-clause-value : goal.returns-clause-value
returns-clause-value c =
    let e = c.args.self.now in
    let bc_fits : FitsSigned w64 e.bc.column = omega (arith, ints) in
    let ca_fits : FitsSigned w64 e.ca.column = omega (arith, ints) in
    let ab_fits : FitsSigned w64 e.ab.column = omega (arith, ints) in
    let sum_is = simp to_z-of_z at c.weighed.ensures.value in
    turned_is _ c.weighed.ensures.small ∙ ap neg_ℤ sum_is

pub returns-clause-small : goal.returns-clause-small
returns-clause-small c = turned_small _ c.weighed.ensures.small
