-- The four sides are cut to the clip.
use Rattle.std.proofs.Common.{pos, ◌+ℤ◌, rules}
use Rattle.dri_walk.proofs.CutRects.{Cuts, scissor_cut}
use Rattle.dri_walk.proofs.clipping.narrowed.Goals as goal

pub returns-clause-places : goal.returns-clause-places
returns-clause-places c =
    let clip = c.args.clip.now in
    let s = c.in-Some.scissor in
    let o = c.args.origin in
    let left : Cuts clip.x1 clip.x2 c.nearest-x1.result (pos s.x1 +ℤ o.x) = search rules in
    let upper : Cuts clip.y1 clip.y2 c.nearest-y1.result (pos s.y1 +ℤ o.y) = search rules in
    let right : Cuts c.nearest-x1.result clip.x2 c.nearest.result (pos s.x2 +ℤ o.x) = search rules in
    let lower : Cuts c.nearest-y1.result clip.y2 c.nearest-2.result (pos s.y2 +ℤ o.y) = search rules in
    λ a b. rw c.in-Some.is (scissor_cut clip s _ o a b c.nearest-x1.ensures.from c.nearest-y1.ensures.from c.nearest.ensures.to c.nearest-2.ensures.to left upper right lower)
