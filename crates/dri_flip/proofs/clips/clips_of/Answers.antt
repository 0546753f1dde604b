-- One rectangle more, and all.
use Rattle.std.proofs.Common.{refl, arith}
use Rattle.dri_base.specs.Scenes.{window_of}
use Rattle.dri_clips.proofs.Gaining.{larger}
use Rattle.dri_clips.proofs.Painting.{card_more, rect_on_screen}
use Rattle.dri_journal.specs.Replays.{world_of}
use Rattle.dri_flip.proofs.Clipped.{clips_on, rects_are}
use Rattle.dri_flip.proofs.clips.clips_of.Goals as goal

pub clip_rect-requires : goal.clip_rect-requires
clip_rect-requires c =
    let v = c.args.replay.now in let s = v.scene in let card = c.entries.ensures.in_range.card in
    rect_on_screen 1024 1024 c.clips-clips.result.now c.loop-i.i c.rect.result c.rect.ensures c.arranged.ensures.proper
    (larger s.width s.height c.clips-clips.result.now card.wide.1 card.high.1 (clips_on s.width s.height (world_of v).stack (window_of s c.args.client) c.clips-clips.result.now c.clips-clips.ensures))

pub loop-i-preserved : goal.loop-i-preserved
loop-i-preserved c = card_more c.clips-clips.result.now c.loop-i.i _ c.rect.result c.clip_rect.result c.loop-i.rects.items _ refl c.rect.ensures c.clip_rect.ensures c.loop-i.invariant c.in_ok-push.ensures.items

pub returns : goal.returns
returns c =
    let v = c.args.replay.now in let s = v.scene in
    rects_are s.width s.height (world_of v).stack (window_of s c.args.client) c.clips-clips.result.now c.loop-i.rects.items c.loop-i.i c.loop-i.invariant (omega arith) c.arranged.ensures.proper c.arranged.ensures.apart c.clips-clips.ensures
