-- The rows are cut to those between the corners.
use Rattle.std.proofs.Common.{◌+ℤ◌, rules}
use Rattle.dri_walk.proofs.CutRects.{Cuts, frame_cut, no_columns}
use Rattle.dri_walk.proofs.rows.framed.Goals as goal

pub returns-then-frame-clause-same : goal.returns-then-frame-clause-same
returns-then-frame-clause-same c = no_columns c.args.setup.now c.args.origin c.frame-frame.result c.args.rect.now c.frame-frame.ensures.holds (search rules)

pub returns-clause-same : goal.returns-clause-same
returns-clause-same c =
    let r = c.args.rect.now in
    let f = c.frame-frame.result in
    let o = c.args.origin in
    let upper : Cuts r.y1 r.y2 c.nearest-y1.result (f.y1 +ℤ o.y) = search rules in
    let lower : Cuts c.nearest-y1.result r.y2 c.nearest.result (f.y2 +ℤ o.y) = search rules in
    frame_cut c.args.setup.now o f r c.nearest-y1.result c.nearest.result c.frame-frame.ensures.holds c.nearest-y1.ensures.from c.nearest.ensures.to upper lower
