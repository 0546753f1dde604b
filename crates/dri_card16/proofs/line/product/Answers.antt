-- The product fits.
use Rattle.std.proofs.Common.{arith, lit<}
use Rattle.std.proofs.lemmas.Int.{to_z-of_z, ints}
use Rattle.dri_raster.proofs.Bounds.{product_within, product_fits}
use Rattle.dri_card16.proofs.line.product.Goals as goal

pub returns : goal.returns
returns c =
    let a_fits = c.ranges.a in
    let b_fits = c.ranges.b in
    let fits = product_fits 65535 65535 c.args.a c.args.b c.requires.a c.requires.b (lit< tt) in
    let small = product_within 65535 65535 c.args.a c.args.b c.requires.a c.requires.b in
    record { value = simp to_z-of_z; small = simp to_z-of_z small }

pub overflow_mul-result : goal.overflow_mul-result
overflow_mul-result c =
    let a_fits = c.ranges.a in
    let b_fits = c.ranges.b in
    let fits = product_fits 65535 65535 c.args.a c.args.b c.requires.a c.requires.b (lit< tt) in
    let small = product_within 65535 65535 c.args.a c.args.b c.requires.a c.requires.b in
    simp to_z-of_z (omega (arith, ints))
