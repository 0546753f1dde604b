use Rattle.dri_clips.proofs.Comparing.{rects_told}
use Rattle.dri_clips.proofs.regions.same_rect.Goals as goal

pub returns : goal.returns
returns c = rects_told c.args.a.now c.args.b.now c.eq.result c.eq.ensures
