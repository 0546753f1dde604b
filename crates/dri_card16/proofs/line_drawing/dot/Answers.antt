-- The corners fit.
use Rattle.std.proofs.Common.{w32, FitsSigned, pos, ◌+ℤ◌, ◌*ℤ◌, arith}
use Rattle.std.proofs.lemmas.Int.{to_z-of_z, ints}
use Rattle.dri_card16.proofs.line_drawing.dot.Goals as goal

pub returns-clause-value : goal.returns-clause-value
returns-clause-value c =
    let x_fits = c.ranges.x in
    let y_fits = c.ranges.y in
    let x : FitsSigned w32 (pos 16 *ℤ c.args.x) = omega (arith, ints, c.requires.x.0, c.requires.x.1) in
    let y : FitsSigned w32 (pos 16 *ℤ c.args.y) = omega (arith, ints, c.requires.y.0, c.requires.y.1) in
    let left : FitsSigned w32 ((pos 16 *ℤ c.args.x) +ℤ pos 7) = omega (arith, ints, c.requires.x.0, c.requires.x.1) in
    let right : FitsSigned w32 ((pos 16 *ℤ c.args.x) +ℤ pos 10) = omega (arith, ints, c.requires.x.0, c.requires.x.1) in
    let upper : FitsSigned w32 ((pos 16 *ℤ c.args.y) +ℤ pos 7) = omega (arith, ints, c.requires.y.0, c.requires.y.1) in
    let lower : FitsSigned w32 ((pos 16 *ℤ c.args.y) +ℤ pos 10) = omega (arith, ints, c.requires.y.0, c.requires.y.1) in
    simp to_z-of_z

pub returns-clause-in_range : goal.returns-clause-in_range
returns-clause-in_range c =
    let x0 = c.requires.x.0 in
    let x1 = c.requires.x.1 in
    let y0 = c.requires.y.0 in
    let y1 = c.requires.y.1 in
    (((omega (arith, ints), omega (arith, ints)), (omega (arith, ints), omega (arith, ints))), ((omega (arith, ints), omega (arith, ints)), (omega (arith, ints), omega (arith, ints))), ((omega (arith, ints), omega (arith, ints)), (omega (arith, ints), omega (arith, ints))))
