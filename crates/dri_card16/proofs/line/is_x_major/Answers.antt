-- The differences fit.
use Rattle.std.proofs.Common.{nat_le, w32, FitsSigned, ◌-ℤ◌, arith}
use Rattle.std.proofs.lemmas.Int.{to_z-of_z, ints}
use Rattle.dri_card16.proofs.line.is_x_major.Goals as goal

pub returns : goal.returns
returns c =
    let t = c.args.triangle.now in
    let ax : FitsSigned w32 t.a.x = omega (arith, ints, c.requires.0.0) in
    let ay : FitsSigned w32 t.a.y = omega (arith, ints, c.requires.0.1) in
    let bx : FitsSigned w32 t.b.x = omega (arith, ints, c.requires.1.0) in
    let by : FitsSigned w32 t.b.y = omega (arith, ints, c.requires.1.1) in
    let dx : FitsSigned w32 (t.b.x -ℤ t.a.x) = omega (arith, ints, c.requires.0.0, c.requires.1.0) in
    let dy : FitsSigned w32 (t.b.y -ℤ t.a.y) = omega (arith, ints, c.requires.0.1, c.requires.1.1) in
    let high = simp to_z-of_z at c.unsigned_abs.ensures.value in
    let wide = simp to_z-of_z at c.unsigned_abs-2.ensures.value in
    λ i. nat_le (high i) (wide i)
