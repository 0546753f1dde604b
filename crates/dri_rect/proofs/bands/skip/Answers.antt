use Rattle.std.proofs.Common.{◌≤ℤ◌, w32, arith, rules, of_z, to_z}
use Rattle.std.proofs.lemmas.Int.{ints, to_z-of_z}
use mir.Val.{SFits}
use Rattle.dri_rect.proofs.BandWalks.{skip_more}
use Rattle.dri_rect.proofs.bands.skip.Goals as goal

pub loop-head-preserved : goal.loop-head-preserved
loop-head-preserved c =
    let f : SFits w32 c.in-Some.head.now.y2 = search rules in
    let l : c.in-Some.head.now.y2 ≤ℤ c.args.y = grind (arith, ints, to_z-of_z) in
    skip_more c.args.rects.now c.loop-head.rest.now c.in-Some.head.now c.in-Some.others.now (to_z w32 (of_z w32 c.args.y)) c.loop-head.invariant c.in-Some.ensures.cases.0 (rw (to_z-of_z w32 c.args.y c.ranges.y) l)
