-- The walk begins above the first row.
use Rattle.std.proofs.Common.{w32, pos, ◌-ℤ◌, FitsSigned, refl, arith}
use Rattle.std.proofs.lemmas.Int.{to_z-of_z, ints}
use Rattle.dri_raster.proofs.Rows.{begun}
use Rattle.dri_raster.proofs.walk.Walk.new.Goals as goal

pub returns : goal.returns
returns c =
    let r = c.args.rect.now in
    let x1_fits : FitsSigned w32 r.x1 = omega (arith, ints) in
    let x2_fits : FitsSigned w32 r.x2 = omega (arith, ints) in
    let y1_fits : FitsSigned w32 r.y1 = omega (arith, ints) in
    let y2_fits : FitsSigned w32 r.y2 = omega (arith, ints) in
    let above_fits : FitsSigned w32 (r.y1 -ℤ pos 1) = omega (arith, ints) in
    simp to_z-of_z (begun c.args.edges r (r.y1 -ℤ pos 1) refl)
