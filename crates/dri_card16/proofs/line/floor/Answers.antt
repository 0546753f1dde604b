-- The quotient that rounds down.
use Rattle.std.proofs.Common.{w64, FitsSigned, ◌∙◌, arith}
use Rattle.std.proofs.lemmas.Int.{to_z-of_z, ints}
use Rattle.dri_card16.proofs.line.floor.Goals as goal

pub returns-clause-value : goal.returns-clause-value
returns-clause-value c =
    let number_fits = c.ranges.number in
    let divisor_fits = c.ranges.divisor in
    let result_fits : FitsSigned w64 c.div_euclid.result = omega (arith, ints) in
    let is = simp to_z-of_z at c.div_euclid.ensures in
    to_z-of_z w64 c.div_euclid.result result_fits ∙ is
