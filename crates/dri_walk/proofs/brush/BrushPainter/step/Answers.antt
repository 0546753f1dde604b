-- The brush goes on to the next column.
use Rattle.std.proofs.Common.{◌<◌, ℕ, pos, ◌+ℤ◌, ◌-ℤ◌, Option, w32, to_z, of_z, ap, sym, subst, arith}
use Rattle.dri_base.specs.declared.colour.Pixel.{Pixel}
use Rattle.dri_walk.specs.Drawings.{painted}
use Rattle.dri_walk.specs.Rows.{IsDepthAt}
use Rattle.dri_walk.proofs.Ready.{can_step, deeper_on, goes_on, less_plain, next_covered, row_plain}
use Rattle.dri_walk.proofs.brush.BrushPainter.step.Goals as goal

pub step_depth-requires : goal.step_depth-requires
step_depth-requires g c =
    let it = c.args.self.now in
    can_step it.depth_test it.depth_write it.z it.setup.now (pos c.args.x -ℤ it.left) it.row c.requires.ready.depth_at
    (next_covered (g.R.ColourRow.stands it.colours) it.depth_test it.depth_write it.setup.now it.z it.left it.row c.args.x it.end c.requires.ready c.requires.more)

pub step-requires-clause-covered : goal.step-requires-clause-covered
step-requires-clause-covered g c =
    let it = c.args.self.now in
    let small : c.args.x < 65536 = omega (arith, c.ranges.x) in
    let covered = next_covered (g.R.ColourRow.stands it.colours) it.depth_test it.depth_write it.setup.now it.z it.left it.row c.args.x it.end c.requires.ready c.requires.more in
    rw (less_plain c.args.x it.left c.window_column-column.result small c.requires.ready.place c.window_column-column.ensures, row_plain it.row c.requires.ready.near) covered

pub returns-clause-ready : goal.returns-clause-ready
returns-clause-ready g c =
    let it = c.args.self.now in
    let small : c.args.x < 65536 = omega (arith, c.ranges.x) in
    let after = g.R.ColourRow.stands c.step.new.self in
    let column = c.window_column-column.result in
    let plain = less_plain c.args.x it.left column small c.requires.ready.place c.window_column-column.ensures in
    let deep = deeper_on it.depth_test it.depth_write it.z it.setup.now (pos c.args.x -ℤ it.left) it.row c.requires.ready.depth_at in
    goes_on (g.R.ColourRow.stands it.colours) after it.depth_test it.depth_write it.setup.now it.z c.step_depth.new.z it.left it.row c.args.x it.end c.requires.ready
    (subst (λ z. IsDepthAt it.depth_test it.depth_write z it.setup.now ((pos c.args.x -ℤ it.left) +ℤ pos 1) it.row) (sym c.step_depth.ensures) deep)
    (subst (λ n. after it.setup.now (n +ℤ pos 1) it.row) plain (subst (λ r. after it.setup.now (to_z w32 (of_z w32 column) +ℤ pos 1) r) (row_plain it.row c.requires.ready.near) c.step.ensures.at))

pub returns-clause-paints : goal.returns-clause-paints
returns-clause-paints g c =
    let it = c.args.self.now in
    ap {B = ℕ → Pixel → Option Pixel} (λ colours x under. painted it.depth_test it.depth_write colours g.B.Blending.blend it.setup.now (pos x -ℤ it.left) it.row under) c.step.ensures.same
