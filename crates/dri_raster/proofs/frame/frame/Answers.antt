-- The rows and the columns are those between the corners, and a covered centre lies there.
use Rattle.std.proofs.Common.{w32, FitsSigned, arith}
use Rattle.std.proofs.lemmas.Int.{to_z-of_z, ints}
use Rattle.dri_raster.proofs.Reach.{amid, amid_bounds, framed}
use Rattle.dri_base.specs.declared.shape.Rect.{Rect}
use Rattle.dri_raster.proofs.frame.frame.Goals as goal

pub returns-clause-holds : goal.returns-clause-holds
returns-clause-holds c x y covered =
    let t = c.args.triangle.now in
    let m = amid t x y covered in
    let columns = c.among-columns.result in
    let rows = c.among-rows.result in
    let ax : FitsSigned w32 t.a.x = omega (arith, ints, c.requires.0.0) in
    let ay : FitsSigned w32 t.a.y = omega (arith, ints, c.requires.0.1) in
    let bx : FitsSigned w32 t.b.x = omega (arith, ints, c.requires.1.0) in
    let by : FitsSigned w32 t.b.y = omega (arith, ints, c.requires.1.1) in
    let cx : FitsSigned w32 t.c.x = omega (arith, ints, c.requires.2.0) in
    let cy : FitsSigned w32 t.c.y = omega (arith, ints, c.requires.2.1) in
    let x1 : FitsSigned w32 columns.x1 = omega (arith, ints, c.among-columns.ensures.near.0) in
    let x2 : FitsSigned w32 columns.x2 = omega (arith, ints, c.among-columns.ensures.near.1) in
    let y1 : FitsSigned w32 rows.x1 = omega (arith, ints, c.among-rows.ensures.near.0) in
    let y2 : FitsSigned w32 rows.x2 = omega (arith, ints, c.among-rows.ensures.near.1) in
    simp to_z-of_z (framed (record { x1 = columns.x1; y1 = rows.x1; x2 = columns.x2; y2 = rows.x2 }) x y
    (((simp to_z-of_z at c.among-columns.ensures.first) x).0 m.left)
    (((simp to_z-of_z at c.among-columns.ensures.past) x).0 m.right)
    (((simp to_z-of_z at c.among-rows.ensures.first) y).0 m.top)
    (((simp to_z-of_z at c.among-rows.ensures.past) y).0 m.bottom))

pub returns-clause-pixels : goal.returns-clause-pixels
returns-clause-pixels c x y =
    let t = c.args.triangle.now in
    let columns = c.among-columns.result in
    let rows = c.among-rows.result in
    let ax : FitsSigned w32 t.a.x = omega (arith, ints, c.requires.0.0) in
    let ay : FitsSigned w32 t.a.y = omega (arith, ints, c.requires.0.1) in
    let bx : FitsSigned w32 t.b.x = omega (arith, ints, c.requires.1.0) in
    let by : FitsSigned w32 t.b.y = omega (arith, ints, c.requires.1.1) in
    let cx : FitsSigned w32 t.c.x = omega (arith, ints, c.requires.2.0) in
    let cy : FitsSigned w32 t.c.y = omega (arith, ints, c.requires.2.1) in
    let x1 : FitsSigned w32 columns.x1 = omega (arith, ints, c.among-columns.ensures.near.0) in
    let x2 : FitsSigned w32 columns.x2 = omega (arith, ints, c.among-columns.ensures.near.1) in
    let y1 : FitsSigned w32 rows.x1 = omega (arith, ints, c.among-rows.ensures.near.0) in
    let y2 : FitsSigned w32 rows.x2 = omega (arith, ints, c.among-rows.ensures.near.1) in
    let r : Rect = record { x1 = columns.x1; y1 = rows.x1; x2 = columns.x2; y2 = rows.x2 } in
    simp to_z-of_z (amid_bounds t r x y
    ((simp to_z-of_z at c.among-columns.ensures.first) x) ((simp to_z-of_z at c.among-columns.ensures.past) x)
    ((simp to_z-of_z at c.among-rows.ensures.first) y) ((simp to_z-of_z at c.among-rows.ensures.past) y))
