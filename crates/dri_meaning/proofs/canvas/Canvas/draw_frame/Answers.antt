-- One more command at each turn.
use Rattle.std.proofs.Common.{◌≡◌, ◌+◌, ◌-◌, ℕ, Some, pos, ap, refl, sym, subst, arith, ◌∙◌}
use Rattle.dri_base.specs.declared.colour.Pixel.{Pixel}
use Rattle.dri_base.specs.Fragments.{rules_of}
use Rattle.dri_base.specs.Texels.{own_image}
use Rattle.dri_core.specs.Solo.{drawn_by}
use Rattle.dri_base.specs.States.{state_at}
use Rattle.dri_model.specs.Words.{IsScissorInRange}
use Rattle.dri_meaning.specs.Canvases.{pairs_alike}
use Rattle.dri_meaning.proofs.Painting.{scissor_ranged}
use Rattle.dri_meaning.proofs.SoloPixels.{command_there, solo_before, solo_on, solo_whole, state_after_on}
use Rattle.dri_meaning.proofs.canvas.Canvas.draw_frame.Goals as goal

pub loop-n-init : goal.loop-n-init
loop-n-init g c =
    let e : c.args.frame.clear + 0 ≡ c.args.frame.clear = omega arith in
    record {
      pairs = c.requires.blank;
      state = rw e (subst (λ cs. c.state_at-state.result ≡ state_at cs c.args.frame.clear) c.as_slice.ensures c.state_at-state.ensures);
      width = refl;
      height = refl;
    }

pub obey-requires-clause-scissor : goal.obey-requires-clause-scissor
obey-requires-clause-scissor g c = subst (λ s. IsScissorInRange s.scissor) (sym c.loop-n.invariant.state) (scissor_ranged c.args.script.now (c.args.frame.clear + c.loop-n.n) c.requires.script)

pub obey-requires-clause-range : goal.obey-requires-clause-range
obey-requires-clause-range g c = command_there c.args.script.now _ c.get-command.result.now c.requires.script c.get-command.ensures

pub loop-n-preserved : goal.loop-n-preserved
loop-n-preserved g c =
    let p = c.args.script.now in
    let first = c.args.frame.clear in
    let n = c.loop-n.n in
    let s = c.loop-n.state in
    let command = c.get-command.result.now in
    let before : ℕ → ℕ → Pixel = λ x y. solo_before p first n (pos x) (pos y) in
    record {
      pairs = pairs_alike c.obey.new.self.pairs _ _ (λ x y. solo_on p first n _ (pos x) (pos y) s command (before x y) (drawn_by (rules_of s) (own_image p.textures s.bound) (Some command) (pos x) (pos y) (before x y)) c.requires.first (omega arith) c.get-command.ensures c.loop-n.invariant.state refl refl)
          (c.obey.ensures.pairs before c.loop-n.invariant.pairs);
      state = state_after_on p.commands first n _ command s _ c.requires.first (omega arith) c.get-command.ensures c.loop-n.invariant.state c.state_after-state.ensures;
      width = c.obey.ensures.width ∙ c.loop-n.invariant.width;
      height = c.obey.ensures.height ∙ c.loop-n.invariant.height;
    }

pub returns-clause-pairs : goal.returns-clause-pairs
returns-clause-pairs g c =
    let p = c.args.script.now in
    let first = c.args.frame.clear in
    let last = c.args.frame.swap in
    let all : c.loop-n.n ≡ last - first = omega (arith, c.loop-n-test.false, c.loop-n.auto.n-end) in
    pairs_alike c.loop-n.self.pairs _ _ (λ x y. ap (λ n. solo_before p first n (pos x) (pos y)) all ∙ solo_whole p first last (pos x) (pos y) c.requires.order) c.loop-n.invariant.pairs
