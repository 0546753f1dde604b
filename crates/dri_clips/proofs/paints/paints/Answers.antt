use Rattle.std.proofs.Common.{◌<◌, arith, refl, subst, sym, ◌∙◌, ◌++◌, ap, map}
use Rattle.std.specs.Prelude.{List, Option}
use Rattle.dri_base.specs.declared.shape.Rect.{Rect}
use Rattle.dri_base.specs.Ranges.{WindowInRange}
use Rattle.dri_clips.specs.declared.mending.Patch.{Patch}
use Rattle.dri_clips.specs.Gains.{IsGain, paint_of}
use Rattle.dri_clips.specs.Mends.{IsMended, IsNew, Stands}
use Rattle.dri_clips.specs.Motions.{moved_in}
use Rattle.dri_clips.proofs.Gaining.{all_paints, bared_on, gain_on, larger, no_paints, root_paints, window_gain, window_paints}
use Rattle.dri_clips.proofs.Lists.{list_is, none_by}
use Rattle.dri_clips.proofs.Placing.{all_get}
use Rattle.dri_clips.proofs.paints.paints.Goals as goal
use Rattle.dri_clips.proofs.paints.paints.Goals.{in-Some+in_ok-paint_region-2, in_default}

pub paint_region-requires : goal.paint_region-requires
paint_region-requires c = larger c.args.old.now.width c.args.old.now.height c.args.mended.now.root.gained c.requires.layout.wide.1 c.requires.layout.high.1 (bared_on c.args.old.now.width c.args.old.now.height c.args.new.now c.args.mended.now.root.clips c.args.old.now.free c.args.mended.now.root.gained c.requires.mended.free c.requires.mended.bared)

pub loop-at-init : goal.loop-at-init
loop-at-init c = root_paints c.args.root c.args.old.now.width c.args.old.now.height c.args.old.now.stack c.args.new.now (moved_in c.args.motion.now) c.args.old.now.free c.args.mended.now.root.clips c.args.mended.now.root.gained c.paint_region.new.paints c.requires.layout.free c.requires.mended.free c.requires.mended.bared c.in_ok-paint_region.ensures.apart c.in_ok-paint_region.ensures.proper
    (c.in_ok-paint_region.ensures.added ∙ ap (λ ps. ps ++ map (paint_of c.args.root) c.args.mended.now.root.gained) c.new-paints.ensures)

pub index-requires : goal.index-requires
index-requires c =
    let r = all_get WindowInRange c.args.new.now c.loop-at.at c.window-window.result c.window-window.ensures c.requires.ranged in
    omega (arith, r.numbered, c.requires.mended.room, c.args.mended.now.windows.ok)

pub paint_region-requires-in-Some : goal.paint_region-requires-in-Some
paint_region-requires-in-Some c =
    let r = all_get WindowInRange c.args.new.now c.loop-at.at c.window-window.result c.window-window.ensures c.requires.ranged in
    let low : c.window-window.result.number < 65 = omega (arith, r.numbered) in
    let is : IsNew c.args.old.now.width c.args.old.now.height c.args.old.now.stack c.args.new.now c.window-window.result.number c.in-Some.patch =
    subst (λ (o : Option Patch). IsMended c.args.old.now.width c.args.old.now.height c.args.old.now.stack c.args.new.now c.window-window.result.number o) (list_is c.args.mended.now.windows.items c.window-window.result.number c.index.result.now low c.requires.mended.room c.index.ensures ∙ c.in-Some.is) (c.requires.mended.lists c.window-window.result.number low) in
    let gain = subst (λ (rs : List Rect). IsGain c.args.old.now.width c.args.old.now.height c.args.old.now.stack c.args.new.now (moved_in c.args.motion.now) c.window-window.result.number rs) (sym c.repainted-bare.ensures)
    (window_gain c.args.old.now.width c.args.old.now.height c.args.old.now.stack c.args.new.now c.args.motion.now c.window-window.result.number c.in-Some.patch.gained c.requires.motion is.gained) in
    larger c.args.old.now.width c.args.old.now.height c.repainted-bare.result.now c.requires.layout.wide.1 c.requires.layout.high.1 (gain_on c.args.old.now.width c.args.old.now.height c.args.old.now.stack c.args.new.now (moved_in c.args.motion.now) c.window-window.result.number c.repainted-bare.result.now gain)

pub loop-at-preserved : goal.loop-at-preserved
loop-at-preserved c =
    let r = all_get WindowInRange c.args.new.now c.loop-at.at c.window-window.result c.window-window.ensures c.requires.ranged in
    let low : c.window-window.result.number < 65 = omega (arith, r.numbered) in
    let is : IsMended c.args.old.now.width c.args.old.now.height c.args.old.now.stack c.args.new.now c.window-window.result.number c.index.result.now =
    subst (λ (o : Option Patch). IsMended c.args.old.now.width c.args.old.now.height c.args.old.now.stack c.args.new.now c.window-window.result.number o) (list_is c.args.mended.now.windows.items c.window-window.result.number c.index.result.now low c.requires.mended.room c.index.ensures) (c.requires.mended.lists c.window-window.result.number low) in
    elim c.match-index.branch [
      | in-Some+in_ok-paint_region-2 w ↦
          let new : IsNew c.args.old.now.width c.args.old.now.height c.args.old.now.stack c.args.new.now c.window-window.result.number w.in-Some.patch =
          subst (λ (o : Option Patch). IsMended c.args.old.now.width c.args.old.now.height c.args.old.now.stack c.args.new.now c.window-window.result.number o) w.in-Some.is is in
          let gain = subst (λ (rs : List Rect). IsGain c.args.old.now.width c.args.old.now.height c.args.old.now.stack c.args.new.now (moved_in c.args.motion.now) c.window-window.result.number rs) (sym w.repainted-bare.ensures)
          (window_gain c.args.old.now.width c.args.old.now.height c.args.old.now.stack c.args.new.now c.args.motion.now c.window-window.result.number w.in-Some.patch.gained c.requires.motion new.gained) in
          rw w.paints-is (window_paints c.args.root c.args.old.now.width c.args.old.now.height c.args.old.now.stack c.args.new.now (moved_in c.args.motion.now) c.loop-at.at _ c.window-window.result w.repainted-bare.result.now c.loop-at.paints _ refl c.len-at-end.ensures.apart c.window-window.ensures gain w.in_ok-paint_region-2.ensures.apart w.in_ok-paint_region-2.ensures.proper c.loop-at.invariant w.in_ok-paint_region-2.ensures.added)
      | in_default w ↦
          let stands : Stands c.args.old.now.width c.args.old.now.height c.args.old.now.stack c.args.new.now c.window-window.result.number =
          subst (λ (o : Option Patch). IsMended c.args.old.now.width c.args.old.now.height c.args.old.now.stack c.args.new.now c.window-window.result.number o) (none_by c.index.result.now w.in_default.not-Some) is in
          rw w.paints-is (no_paints c.args.root c.args.old.now.width c.args.old.now.height c.args.old.now.stack c.args.new.now (moved_in c.args.motion.now) c.loop-at.at _ c.window-window.result c.loop-at.paints refl c.len-at-end.ensures.apart c.window-window.ensures stands c.loop-at.invariant)
    ]

pub returns : goal.returns
returns c = all_paints c.args.root c.args.old.now.width c.args.old.now.height c.args.old.now.stack c.args.new.now (moved_in c.args.motion.now) c.loop-at.at c.loop-at.paints (omega (arith, c.len-at-end.ensures.len, c.loop-at-test.false)) c.loop-at.invariant
