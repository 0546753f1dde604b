-- One rectangle more, and all.
use Rattle.std.proofs.Common.{take, ◌+◌, List, subst, arith}
use Rattle.dri_base.specs.declared.shape.Rect.{Rect}
use Rattle.dri_card.specs.Contents.{HaveSides, Holds, IsOnCard, Shows}
use Rattle.dri_draw.specs.Drawing.{swapped_in}
use Rattle.dri_draw.proofs.Drawn.{holds_shown, swapped_more, shows_same, on_ok, only_shown}
use Rattle.dri_draw.proofs.Rects.{shown_at, shown_small, same_inside, same_rect, take_whole}
use Rattle.dri_card16.proofs.clips.swap_clips.Goals as goal

pub clip_rect-requires : goal.clip_rect-requires
clip_rect-requires g c = shown_small c.args.card.now.front.width c.args.card.now.front.height c.rect.result c.requires.screen.wide c.requires.screen.high
    (shown_at c.args.card.now.front.width c.args.card.now.front.height c.args.clips.now c.loop-i.i c.rect.result c.arranged.ensures.proper c.requires.within c.rect.ensures)

pub unwrap-requires : goal.unwrap-requires
unwrap-requires g c =
    let shown = shown_at c.args.card.now.front.width c.args.card.now.front.height c.args.clips.now c.loop-i.i c.rect.result c.arranged.ensures.proper c.requires.within c.rect.ensures in
    let sides : HaveSides c.loop-i.card c.args.card.now.front.width c.args.card.now.front.height = c.loop-i.invariant.sides c.args.card.now.front.width c.args.card.now.front.height c.requires.screen.sides in
    let on : IsOnCard c.clip_rect.result c.loop-i.card = rw (sides.front_width, sides.front_height) (same_inside c.rect.result c.clip_rect.result c.args.card.now.front.width c.args.card.now.front.height (same_rect _ _ _ _ shown c.clip_rect.ensures) shown) in
    c.swap.ensures.on_card.1 on

pub loop-i-preserved : goal.loop-i-preserved
loop-i-preserved g c =
    let shown = shown_at c.args.card.now.front.width c.args.card.now.front.height c.args.clips.now c.loop-i.i c.rect.result c.arranged.ensures.proper c.requires.within c.rect.ensures in
    let sides : HaveSides c.loop-i.card c.args.card.now.front.width c.args.card.now.front.height = c.loop-i.invariant.sides c.args.card.now.front.width c.args.card.now.front.height c.requires.screen.sides in
    let on : IsOnCard c.clip_rect.result c.loop-i.card = rw (sides.front_width, sides.front_height) (same_inside c.rect.result c.clip_rect.result c.args.card.now.front.width c.args.card.now.front.height (same_rect _ _ _ _ shown c.clip_rect.ensures) shown) in
    record {
      shown = λ f front holds shows. let held : Holds c.loop-i.card f = holds_shown c.args.card.now c.loop-i.card f c.loop-i.invariant.others holds in
          shows_same c.swap.new.self _ (swapped_in (take (c.loop-i.i + 1) c.args.clips.now) f front) (swapped_more c.args.clips.now c.loop-i.i c.rect.result c.clip_rect.result f front c.rect.ensures (same_rect _ _ _ _ shown c.clip_rect.ensures))
          (on_ok c.swap.result _ (c.swap.ensures.on_card.1 on) c.swap.ensures.ok f (swapped_in (take c.loop-i.i c.args.clips.now) f front) held (c.loop-i.invariant.shown f front holds shows));
      others = only_shown c.args.card.now c.loop-i.card c.swap.new.self c.loop-i.invariant.others c.swap.ensures.others;
      sides = λ w h s. c.swap.ensures.sides w h (c.loop-i.invariant.sides w h s);
    }

pub returns-clause-shown : goal.returns-clause-shown
returns-clause-shown g c = λ f front holds shows.
    subst (λ (rs : List Rect). Shows c.loop-i.card (swapped_in rs f front)) (take_whole c.args.clips.now c.loop-i.i (omega arith)) (c.loop-i.invariant.shown f front holds shows)
