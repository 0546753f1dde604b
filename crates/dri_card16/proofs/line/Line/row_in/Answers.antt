-- The line's height in a column.
use Rattle.std.proofs.Common.{◌≡◌, pos, ◌+ℤ◌, ◌-ℤ◌, ◌*ℤ◌, w64, FitsSigned, ap, ◌∙◌, arith}
use Rattle.std.proofs.lemmas.Int.{to_z-of_z, ints}
use Rattle.std.specs.Int.{int_div_euclid}
use Rattle.dri_card16.specs.Lines.{middle}
use Rattle.dri_card16.proofs.line.Line.row_in.Goals as goal

pub floor-requires-clause-number : goal.floor-requires-clause-number
floor-requires-clause-number c =
    let small = c.product.ensures.small in
    (omega (arith, ints, small.0), omega (arith, ints, small.1))

pub overflow_add-height : goal.overflow_add-height
overflow_add-height c =
    let small = c.floor.ensures.small in
    let place = c.requires.in_range.0.1 in
    omega (arith, ints, small.0, small.1, place.0, place.1, c.from-4.ensures)

pub pixel_of-requires : goal.pixel_of-requires
pixel_of-requires c =
    let small = c.floor.ensures.small in
    let place = c.requires.in_range.0.1 in
    record { height = (omega (arith, ints, small.0, small.1, place.0, place.1, c.from-4.ensures), omega (arith, ints, small.0, small.1, place.0, place.1, c.from-4.ensures)) }

pub returns-clause-value : goal.returns-clause-value
returns-clause-value c =
    let l = c.args.self.now in
    let n_fits = c.ranges.n in
    let m = middle c.args.n in
    let first_y = c.requires.in_range.0.1 in
    let last_y = c.requires.in_range.1.1 in
    let behind_small = c.behind.ensures.small in
    let ahead_small = c.ahead.ensures.small in
    let behind_is : c.from-behind.result ≡ m -ℤ l.first.x = omega (arith, ints, c.behind.ensures.value, c.from-behind.ensures) in
    let length_is : c.from-behind.result +ℤ c.from.result ≡ l.last.x -ℤ l.first.x = omega (arith, ints, behind_is, c.ahead.ensures.value, c.from.ensures) in
    let rise_is : c.from-2.result -ℤ c.from-3.result ≡ l.last.y -ℤ l.first.y = omega (arith, ints, first_y, last_y, c.from-2.ensures, c.from-3.ensures) in
    let low_is : c.from-4.result ≡ l.first.y = omega (arith, ints, first_y, c.from-4.ensures) in
    let f1 : FitsSigned w64 c.from-behind.result = omega (arith, ints, c.from-behind.ensures, behind_small) in
    let f2 : FitsSigned w64 c.from.result = omega (arith, ints, c.from.ensures, ahead_small) in
    let f3 : FitsSigned w64 (c.from-behind.result +ℤ c.from.result) = omega (arith, ints, c.from-behind.ensures, behind_small, c.from.ensures, ahead_small) in
    let f4 : FitsSigned w64 c.from-2.result = omega (arith, ints, c.from-2.ensures, last_y) in
    let f5 : FitsSigned w64 c.from-3.result = omega (arith, ints, c.from-3.ensures, first_y) in
    let f6 : FitsSigned w64 (c.from-2.result -ℤ c.from-3.result) = omega (arith, ints, rise_is, first_y, last_y) in
    let f7 : FitsSigned w64 c.product.result = omega (arith, ints, c.product.ensures.small) in
    let f8 : FitsSigned w64 c.floor.result = omega (arith, ints, c.floor.ensures.small) in
    let f9 : FitsSigned w64 c.from-4.result = omega (arith, ints, low_is, first_y) in
    let f10 : FitsSigned w64 (c.from-4.result +ℤ c.floor.result) = omega (arith, ints, c.floor.ensures.small, low_is, first_y) in
    let f11 : FitsSigned w64 c.pixel_of.result = omega (arith, ints, c.pixel_of.ensures.small) in
    let product_is = simp to_z-of_z at c.product.ensures.value in
    let floor_is = simp to_z-of_z at c.floor.ensures.value in
    let pixel_is = simp to_z-of_z at c.pixel_of.ensures.value in
    to_z-of_z w64 c.pixel_of.result f11
    ∙ pixel_is
    ∙ ap (λ z. int_div_euclid z (pos 16)) ((λ i. low_is i +ℤ floor_is i) ∙ (λ i. l.first.y +ℤ int_div_euclid ((product_is ∙ (λ j. rise_is j *ℤ behind_is j)) i) (length_is i)))
