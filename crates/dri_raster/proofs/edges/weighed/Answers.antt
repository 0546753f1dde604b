-- The sum of three small numbers fits.
use Rattle.std.proofs.Common.{◌≡◌, ℕ, w64, arith, ℤ, pos, ◌+ℤ◌, ◌*ℤ◌, FitsSigned, to_z, of_z, ap, ◌∙◌}
use Rattle.std.proofs.lemmas.Int.{to_z-of_z, ints}
use Rattle.dri_raster.specs.Edges.{IsWithin}
use Rattle.dri_raster.proofs.edges.weighed.Goals as goal

product_same : (d : ℤ) (m n : ℕ) → m ≡ n → d *ℤ pos m ≡ d *ℤ pos n
product_same d m n q = ap (λ k. d *ℤ pos k) q

sum_same : (a b c x y z : ℤ) → a ≡ x → b ≡ y → c ≡ z → (a +ℤ b) +ℤ c ≡ (x +ℤ y) +ℤ z
sum_same a b c x y z p q r = omega (arith, ints)

two_fit : (a b : ℤ) → IsWithin 36028797018963968 a → IsWithin 36028797018963968 b → FitsSigned w64 (to_z w64 (of_z w64 a) +ℤ to_z w64 (of_z w64 b))
two_fit a b p q = omega (arith, ints)

three_fit : (a b c : ℤ) → IsWithin 36028797018963968 a → IsWithin 36028797018963968 b → IsWithin 36028797018963968 c → FitsSigned w64 ((a +ℤ b) +ℤ c)
three_fit a b c p q r = omega (arith, ints)

three_small : (a b c : ℤ) → IsWithin 36028797018963968 a → IsWithin 36028797018963968 b → IsWithin 36028797018963968 c → IsWithin 108086391056891904 ((a +ℤ b) +ℤ c)
three_small a b c p q r = (omega (arith, ints), omega (arith, ints))

pub overflow_add-result : goal.overflow_add-result
overflow_add-result c = two_fit _ _ c.weight-a.ensures.small c.weight-b.ensures.small

pub overflow_add-result-2 : goal.overflow_add-result-2
overflow_add-result-2 c =
    let a_fits : FitsSigned w64 c.weight-a.result = omega (arith, ints) in
    let b_fits : FitsSigned w64 c.weight-b.result = omega (arith, ints) in
    let c_fits : FitsSigned w64 c.weight-c.result = omega (arith, ints) in
    let two_fit : FitsSigned w64 (c.weight-a.result +ℤ c.weight-b.result) = omega (arith, ints) in
    simp to_z-of_z (three_fit _ _ _ c.weight-a.ensures.small c.weight-b.ensures.small c.weight-c.ensures.small)

pub returns-clause-value : goal.returns-clause-value
returns-clause-value c =
    let for_a_fits = c.ranges.for_a in
    let for_b_fits = c.ranges.for_b in
    let for_c_fits = c.ranges.for_c in
    let a_fits : FitsSigned w64 c.weight-a.result = omega (arith, ints) in
    let b_fits : FitsSigned w64 c.weight-b.result = omega (arith, ints) in
    let c_fits : FitsSigned w64 c.weight-c.result = omega (arith, ints) in
    let two_fit : FitsSigned w64 (c.weight-a.result +ℤ c.weight-b.result) = omega (arith, ints) in
    let all_fit = three_fit _ _ _ c.weight-a.ensures.small c.weight-b.ensures.small c.weight-c.ensures.small in
    let a_is = simp to_z-of_z at c.weight-a.ensures.value in
    let b_is = simp to_z-of_z at c.weight-b.ensures.value in
    let c_is = simp to_z-of_z at c.weight-c.ensures.value in
    simp to_z-of_z (sum_same _ _ _ _ _ _ (a_is ∙ product_same _ _ _ c.of.ensures.value) (b_is ∙ product_same _ _ _ c.of-2.ensures.value) (c_is ∙ product_same _ _ _ c.of-3.ensures.value))

pub returns-clause-small : goal.returns-clause-small
returns-clause-small c =
    let a_fits : FitsSigned w64 c.weight-a.result = omega (arith, ints) in
    let b_fits : FitsSigned w64 c.weight-b.result = omega (arith, ints) in
    let c_fits : FitsSigned w64 c.weight-c.result = omega (arith, ints) in
    let two_fit : FitsSigned w64 (c.weight-a.result +ℤ c.weight-b.result) = omega (arith, ints) in
    let all_fit = three_fit _ _ _ c.weight-a.ensures.small c.weight-b.ensures.small c.weight-c.ensures.small in
    simp to_z-of_z (three_small _ _ _ c.weight-a.ensures.small c.weight-b.ensures.small c.weight-c.ensures.small)
