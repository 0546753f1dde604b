-- The quotient that rounds down.
use Rattle.std.proofs.Common.{◌≡◌, pos, w64, FitsSigned, ap, ◌∙◌, arith}
use Rattle.std.proofs.lemmas.Int.{to_z-of_z, ints}
use Rattle.std.specs.Int.{int_div_euclid}
use Rattle.dri_card16.proofs.line.pixel_of.Goals as goal

pub returns-clause-value : goal.returns-clause-value
returns-clause-value c =
    let height_fits = c.ranges.height in
    let result_fits : FitsSigned w64 c.div_euclid.result = omega (arith, ints) in
    let sixteen : c.from.result ≡ pos 16 = omega (arith, ints, c.from.ensures) in
    let units_fits : FitsSigned w64 c.from.result = omega (arith, ints, sixteen) in
    let is = simp to_z-of_z at c.div_euclid.ensures in
    to_z-of_z w64 c.div_euclid.result result_fits ∙ is ∙ ap (int_div_euclid c.args.height) sixteen
