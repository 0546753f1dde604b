-- The first pixel is covered.
use Rattle.std.proofs.Common.{◌<◌, ◌≤◌, w32, to_z, of_z, subst, arith}
use Rattle.dri_walk.specs.Rows.{IsDepthAt}
use Rattle.dri_walk.proofs.Ready.{less_plain, place_plain, row_plain}
use Rattle.dri_walk.proofs.brush.brush_at.Goals as goal

pub depth_runner-requires : goal.depth_runner-requires
depth_runner-requires g c =
    let small : c.args.x < 65536 = omega (arith, c.ranges.x) in
    let here : c.args.x ≤ c.args.x = omega arith in
    rw (less_plain c.args.x c.args.left c.window_column-column.result small c.requires.place c.window_column-column.ensures, row_plain c.args.row c.requires.near) (c.requires.covered c.args.x here c.requires.some)

pub start-requires-clause-covered : goal.start-requires-clause-covered
start-requires-clause-covered g c =
    let small : c.args.x < 65536 = omega (arith, c.ranges.x) in
    let here : c.args.x ≤ c.args.x = omega arith in
    rw (less_plain c.args.x c.args.left c.window_column-column.result small c.requires.place c.window_column-column.ensures, row_plain c.args.row c.requires.near) (c.requires.covered c.args.x here c.requires.some)

pub returns-clause-ready : goal.returns-clause-ready
returns-clause-ready g c =
    let d = c.args.drawing.now in
    let t = d.setup in
    let small : c.args.x < 65536 = omega (arith, c.ranges.x) in
    let column = c.window_column-column.result in
    let plain = less_plain c.args.x c.args.left column small c.requires.place c.window_column-column.ensures in
    let row = row_plain c.args.row c.requires.near in
    let stands = g.C.Row.ColourRow.stands c.start.result in
    rw (place_plain c.args.left c.requires.place, row) (record {
      place = c.requires.place;
      near = c.requires.near;
      depth_at = subst (λ n. IsDepthAt d.depth_test d.depth_write c.depth_runner.result t n c.args.row) plain (subst (λ r. IsDepthAt d.depth_test d.depth_write c.depth_runner.result t (to_z w32 (of_z w32 column)) r) row c.depth_runner.ensures);
      colours_at = subst (λ n. stands t n c.args.row) plain (subst (λ r. stands t (to_z w32 (of_z w32 column)) r) row c.start.ensures.at);
      covered = c.requires.covered;
    })
