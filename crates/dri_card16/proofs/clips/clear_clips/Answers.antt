-- One rectangle more, and all.
use Rattle.std.proofs.Common.{take, ◌+◌}
use Rattle.dri_card.specs.Contents.{IsOnCard}
use Rattle.dri_card16.specs.Packing.{kept}
use Rattle.dri_draw.specs.Drawing.{cleared_in}
use Rattle.dri_draw.proofs.Drawn.{cleared_more, holds_same, on_ok, only_drawn}
use Rattle.dri_draw.proofs.Rects.{shown_at, shown_small, same_inside, same_rect}
use Rattle.dri_card16.proofs.clips.clear_clips.Goals as goal

pub clip_rect-requires : goal.clip_rect-requires
clip_rect-requires g c = shown_small c.args.card.now.front.width c.args.card.now.front.height c.rect.result c.requires.screen.wide c.requires.screen.high
    (shown_at c.args.card.now.front.width c.args.card.now.front.height c.args.clips.now c.loop-n.n c.rect.result c.arranged.ensures.proper c.requires.within c.rect.ensures)

pub unwrap-requires : goal.unwrap-requires
unwrap-requires g c =
    let shown = shown_at c.args.card.now.front.width c.args.card.now.front.height c.args.clips.now c.loop-n.n c.rect.result c.arranged.ensures.proper c.requires.within c.rect.ensures in
    let on : IsOnCard c.clip_rect.result c.loop-n.card = rw c.loop-n.invariant.others (same_inside c.rect.result c.clip_rect.result c.args.card.now.front.width c.args.card.now.front.height (same_rect _ _ _ _ shown c.clip_rect.ensures) shown) in
    c.clear.ensures.on_card.1 on

pub loop-n-preserved : goal.loop-n-preserved
loop-n-preserved g c =
    let shown = shown_at c.args.card.now.front.width c.args.card.now.front.height c.args.clips.now c.loop-n.n c.rect.result c.arranged.ensures.proper c.requires.within c.rect.ensures in
    let on : IsOnCard c.clip_rect.result c.loop-n.card = rw c.loop-n.invariant.others (same_inside c.rect.result c.clip_rect.result c.args.card.now.front.width c.args.card.now.front.height (same_rect _ _ _ _ shown c.clip_rect.ensures) shown) in
    record {
      held = λ f holds. holds_same c.clear.new.self _ (cleared_in (take (c.loop-n.n + 1) c.args.clips.now) (kept c.args.colour) c.args.depth f) (cleared_more c.args.clips.now c.loop-n.n c.rect.result c.clip_rect.result (kept c.args.colour) c.args.depth f c.rect.ensures (same_rect _ _ _ _ shown c.clip_rect.ensures))
          (on_ok c.clear.result _ (c.clear.ensures.on_card.1 on) c.clear.ensures.ok _ (c.loop-n.invariant.held f holds));
      others = only_drawn c.args.card.now c.loop-n.card c.clear.new.self c.loop-n.invariant.others c.clear.ensures.others;
      sides = λ w h s. c.clear.ensures.sides w h (c.loop-n.invariant.sides w h s);
    }
