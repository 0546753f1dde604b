use Rattle.std.proofs.Common.{refl}
use Rattle.dri_clips.proofs.Painting.{card_more, rect_on_screen}
use Rattle.dri_clips.proofs.moving.clip_rects.Goals as goal

pub clip_rect-requires : goal.clip_rect-requires
clip_rect-requires c = rect_on_screen 1024 1024 c.args.region.now c.loop-i.i c.rect.result c.rect.ensures c.arranged.ensures.proper c.requires

pub loop-i-preserved : goal.loop-i-preserved
loop-i-preserved c = card_more c.args.region.now c.loop-i.i _ c.rect.result c.clip_rect.result c.loop-i.rects _ refl c.rect.ensures c.clip_rect.ensures c.loop-i.invariant c.in_ok-push.ensures.ok
