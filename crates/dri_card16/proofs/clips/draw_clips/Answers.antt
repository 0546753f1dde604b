-- One rectangle more, and all.
use Rattle.std.proofs.Common.{take, ◌++◌, ◌≡◌, ◌∙◌, ap, ℕ, List, arith}
use Rattle.dri_card.specs.Contents.{IsOnCard}
use Rattle.dri_model.specs.CommandWords.{triangle_words}
use Rattle.dri_card16.proofs.InClips.{drawn16_more}
use Rattle.dri_card16.specs.Following.{drawn16_in}
use Rattle.dri_draw.proofs.Drawn.{clipped_on, clipped_sides, on_ok, only_drawn_on}
use Rattle.dri_draw.proofs.Rects.{apart_at, same_inside, same_rect, shown_at, shown_small}
use Rattle.dri_card16.proofs.clips.draw_clips.Goals as goal

pub clip_rect-requires : goal.clip_rect-requires
clip_rect-requires g c = shown_small c.args.card.now.front.width c.args.card.now.front.height c.rect.result c.requires.screen.wide c.requires.screen.high
    (shown_at c.args.card.now.front.width c.args.card.now.front.height c.args.clips.now c.loop-i.i c.rect.result c.arranged.ensures.proper c.requires.within c.rect.ensures)

pub unwrap-requires-in-loop-i : goal.unwrap-requires-in-loop-i
unwrap-requires-in-loop-i g c =
    let sides = c.loop-i.invariant.sides c.args.card.now.front.width c.args.card.now.front.height c.requires.screen.sides in
    let shown = shown_at c.args.card.now.front.width c.args.card.now.front.height c.args.clips.now c.loop-i.i c.rect.result c.arranged.ensures.proper c.requires.within c.rect.ensures in
    let on : IsOnCard c.clip_rect.result c.loop-i.card = rw (sides.front_width, sides.front_height) (same_inside c.rect.result c.clip_rect.result c.args.card.now.front.width c.args.card.now.front.height (same_rect _ _ _ _ shown c.clip_rect.ensures) shown) in
    c.set_clip.ensures.on_card.1 on

pub unwrap-requires-in-loop-i-2 : goal.unwrap-requires-in-loop-i-2
unwrap-requires-in-loop-i-2 g c =
    let room = c.push_triangle.ensures.room.1 (rw c.new-buffer.ensures (omega arith)) in
    let spelled : c.push_triangle.new.self ≡ triangle_words c.args.triangle.now = on_ok c.push_triangle.result _ room c.push_triangle.ensures.ok ∙ ap (λ (ws : List ℕ). ws ++ triangle_words c.args.triangle.now) c.new-buffer.ensures in
    (c.dispatch.ensures.one c.args.triangle.now (on_ok c.push_triangle.result _ room c.push_triangle.ensures.held) spelled).0

pub loop-i-preserved : goal.loop-i-preserved
loop-i-preserved g c =
    let v = c.args.card.now in
    let sides = c.loop-i.invariant.sides v.front.width v.front.height c.requires.screen.sides in
    let shown = shown_at v.front.width v.front.height c.args.clips.now c.loop-i.i c.rect.result c.arranged.ensures.proper c.requires.within c.rect.ensures in
    let same = same_rect _ _ _ _ shown c.clip_rect.ensures in
    let on : IsOnCard c.clip_rect.result c.loop-i.card = rw (sides.front_width, sides.front_height) (same_inside c.rect.result c.clip_rect.result v.front.width v.front.height same shown) in
    let clipped : c.set_clip.new.self ≡ record c.loop-i.card { clip = c.clip_rect.result } = on_ok c.set_clip.result _ (c.set_clip.ensures.on_card.1 on) c.set_clip.ensures.ok in
    let room = c.push_triangle.ensures.room.1 (rw c.new-buffer.ensures (omega arith)) in
    let spelled : c.push_triangle.new.self ≡ triangle_words c.args.triangle.now = on_ok c.push_triangle.result _ room c.push_triangle.ensures.ok ∙ ap (λ (ws : List ℕ). ws ++ triangle_words c.args.triangle.now) c.new-buffer.ensures in
    let ranged = on_ok c.push_triangle.result _ room c.push_triangle.ensures.held in
    record {
      held = λ f holds. drawn16_more v c.loop-i.card c.set_clip.new.self c.dispatch.new.self c.args.origin c.args.triangle.now c.args.clips.now c.loop-i.i c.rect.result c.clip_rect.result f
          c.loop-i.invariant.others clipped same c.rect.ensures (λ x y. apart_at c.args.clips.now c.loop-i.i c.rect.result x y c.arranged.ensures.apart c.rect.ensures) (c.loop-i.invariant.held f holds)
          ((c.dispatch.ensures.one c.args.triangle.now ranged spelled).1 (drawn16_in v c.args.origin c.args.triangle.now (take c.loop-i.i c.args.clips.now) f));
      others = only_drawn_on v c.loop-i.card c.dispatch.new.self c.loop-i.invariant.others (clipped_on c.loop-i.card c.set_clip.new.self c.dispatch.new.self c.clip_rect.result clipped c.dispatch.ensures.others);
      sides = λ w h s. c.dispatch.ensures.sides w h (clipped_sides c.loop-i.card c.set_clip.new.self c.clip_rect.result clipped w h (c.loop-i.invariant.sides w h s));
    }
