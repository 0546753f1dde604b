-- From the first centre that isn't before the lower end up to the first that isn't before the upper one.
use Rattle.std.proofs.Common.{◌+ℤ◌, w32, FitsSigned, rules, arith}
use Rattle.std.proofs.lemmas.Int.{to_z-of_z, ints}
use Rattle.dri_walk.proofs.CutRects.{Cuts}
use Rattle.dri_card16.proofs.LinePlaces.{columns_are}
use Rattle.dri_card16.proofs.line.Line.columns.Goals as goal

pub returns-clause-pixels : goal.returns-clause-pixels
returns-clause-pixels c =
    let l = c.args.self.now in
    let fx : FitsSigned w32 l.first.x = omega (arith, ints, c.requires.in_range.0.0) in
    let lx : FitsSigned w32 l.last.x = omega (arith, ints, c.requires.in_range.1.0) in
    let s_fits : FitsSigned w32 c.first.result = omega (arith, ints, c.first.ensures.near) in
    let t_fits : FitsSigned w32 c.first-2.result = omega (arith, ints, c.first-2.ensures.near) in
    let shift_fits = c.ranges.shift in
    let firsts = simp to_z-of_z at c.first.ensures.first in
    let lasts = simp to_z-of_z at c.first-2.ensures.first in
    let start : Cuts c.args.low c.args.high c.nearest-start.result (c.first.result +ℤ c.args.shift) = search rules in
    let end : Cuts c.nearest-start.result c.args.high c.nearest.result (c.first-2.result +ℤ c.args.shift) = search rules in
    columns_are l c.args.low c.args.high c.nearest-start.result c.nearest.result c.first.result c.first-2.result c.args.shift firsts lasts c.nearest-start.ensures.from c.nearest.ensures.to start end
