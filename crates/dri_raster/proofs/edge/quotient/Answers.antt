-- The quotient that rounds down is the greatest.
use Rattle.std.proofs.Common.{w64, FitsSigned, int_le, ap, sym, ◌∙◌, arith}
use Rattle.std.proofs.lemmas.Int.{to_z-of_z, ints}
use Rattle.dri_raster.proofs.Spans.{greatest}
use Rattle.dri_raster.proofs.edge.quotient.Goals as goal

pub returns-clause-greatest : goal.returns-clause-greatest
returns-clause-greatest c x =
    let number_fits = c.ranges.number in
    let divisor_fits = c.ranges.divisor in
    let result_fits : FitsSigned w64 c.div_euclid.result = omega (arith, ints) in
    let is = simp to_z-of_z at c.div_euclid.ensures in
    greatest c.args.number c.args.divisor x c.requires.positive ∙ ap (int_le x) (sym is) ∙ ap (int_le x) (sym (to_z-of_z w64 c.div_euclid.result result_fits))
