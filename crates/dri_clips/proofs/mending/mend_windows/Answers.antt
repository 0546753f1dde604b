use Rattle.std.proofs.Common.{◌≡◌, ◌<◌, arith, ap, refl, ◌∙◌, get_or, []}
use Rattle.std.specs.Prelude.{List}
use Rattle.std.proofs.lemmas.List.{get_or_default}
use Rattle.dri_base.specs.declared.shape.Rect.{Rect}
use Rattle.dri_base.specs.Ranges.{WindowInRange}
use Rattle.dri_rect.specs.Pixels.{inside}
use Rattle.dri_clips.specs.Areas.{names}
use Rattle.dri_clips.proofs.Areas.{cost_all, cost_more}
use Rattle.dri_clips.proofs.Lists.{new_list, walk_more, walk_none}
use Rattle.dri_clips.proofs.Placing.{all_get}
use Rattle.dri_clips.proofs.mending.mend_windows.Goals as goal

pub loop-at-init : goal.loop-at-init
loop-at-init g c = record {
  walk = walk_none c.args.old.now.width c.args.old.now.height (names c.args.cause.now) c.args.old.now.stack c.args.new.now c.args.area.now c.args.left.now c.in_ok-lists.lists.items c.requires.left c.in_ok-lists.ensures;
  steps = omega arith;
}

pub index-was-requires : goal.index-was-requires
index-was-requires g c =
    let r = all_get WindowInRange c.args.new.now c.loop-at.at c.window-window.result c.window-window.ensures c.requires.ranged in
    omega (arith, r.numbered, c.requires.layout.room, c.args.old.now.clips.ok)

pub mend_window-requires-clause-ranged : goal.mend_window-requires-clause-ranged
mend_window-requires-clause-ranged g c = all_get WindowInRange c.args.new.now c.loop-at.at c.window-window.result c.window-window.ensures c.requires.ranged

pub returns-in_err-lists-2-clause-steps : goal.returns-in_err-lists-2-clause-steps
returns-in_err-lists-2-clause-steps g c = cost_all _ c.args.new.now _ 7 c.args.steps.now c.mend_window.new.steps (cost_more _ c.args.new.now c.loop-at.at _ 7 c.args.steps.now c.loop-at.steps c.mend_window.new.steps c.window-window.result refl c.window-window.ensures c.loop-at.invariant.steps c.mend_window.ensures.steps)

pub index_mut-requires : goal.index_mut-requires
index_mut-requires g c =
    let r = all_get WindowInRange c.args.new.now c.loop-at.at c.window-window.result c.window-window.ensures c.requires.ranged in
    omega (arith, r.numbered, c.loop-at.invariant.walk.room, c.loop-at.lists.ok)

pub loop-at-preserved : goal.loop-at-preserved
loop-at-preserved g c =
    let r = all_get WindowInRange c.args.new.now c.loop-at.at c.window-window.result c.window-window.ensures c.requires.ranged in
    let low : c.window-window.result.number < 65 = omega (arith, r.numbered) in
    let was : c.index-was.result.now ≡ get_or c.args.old.now.clips.items c.window-window.result.number [] = c.index-was.ensures ∙ get_or_default c.args.old.now.clips.items c.window-window.result.number c.index-was.result.now [] (omega (arith, low, c.requires.layout.room)) in
    record {
      walk = walk_more c.args.old.now.width c.args.old.now.height (names c.args.cause.now) c.args.old.now.stack c.args.new.now c.args.area.now c.loop-at.left c.mend_window.new.left c.loop-at.lists.items _ c.loop-at.at _ c.window-window.result c.in_ok-lists-2.field-0 refl c.len-count.ensures.apart c.window-window.ensures low c.loop-at.invariant.walk
          (new_list c.args.old.now.width c.args.old.now.height (names c.args.cause.now) c.args.old.now.stack c.args.new.now c.args.area.now c.loop-at.left c.index-was.result.now c.loop-at.at c.window-window.result c.in_ok-lists-2.field-0 c.requires.others c.requires.layout.apart c.len-count.ensures.apart c.window-window.ensures c.requires.area c.loop-at.invariant.walk.left_is
          (λ x y. ap (λ (rs : List Rect). inside rs x y) was ∙ c.requires.layout.clips c.window-window.result.number low x y) c.in_ok-lists-2.ensures.list) c.in_ok-lists-2.ensures.left refl;
      steps = cost_more _ c.args.new.now c.loop-at.at _ 7 c.args.steps.now c.loop-at.steps c.mend_window.new.steps c.window-window.result refl c.window-window.ensures c.loop-at.invariant.steps c.mend_window.ensures.steps;
    }
