-- One more command at each turn.
use Rattle.std.proofs.Common.{◌≡◌, ◌+◌, w32, to_z, of_z, refl, subst, arith}
use Rattle.dri_base.specs.States.{state_at}
use Rattle.dri_meaning.proofs.SoloPixels.{command_there, solo_on, state_after_on}
use Rattle.dri_meaning.proofs.solo.solo.Goals as goal

pub loop-n-init : goal.loop-n-init
loop-n-init c =
    let e : c.args.frame.clear + 0 ≡ c.args.frame.clear = omega arith in
    record {
      pixel = refl;
      state = rw e (subst (λ cs. c.state_at-state.result ≡ state_at cs c.args.frame.clear) c.as_slice.ensures c.state_at-state.ensures);
    }

pub drawn_by-pixel-requires-clause-range : goal.drawn_by-pixel-requires-clause-range
drawn_by-pixel-requires-clause-range c = command_there c.args.script.now _ c.get-command.result.now c.requires.script c.get-command.ensures

pub loop-n-preserved : goal.loop-n-preserved
loop-n-preserved c = record {
  pixel = solo_on c.args.script.now c.args.frame.clear c.loop-n.n _ (to_z w32 (of_z w32 c.args.x)) (to_z w32 (of_z w32 c.args.y)) c.loop-n.state c.get-command.result.now c.loop-n.pixel _ c.requires.first (omega arith) c.get-command.ensures c.loop-n.invariant.state c.loop-n.invariant.pixel c.drawn_by-pixel.ensures;
  state = state_after_on c.args.script.now.commands c.args.frame.clear c.loop-n.n _ c.get-command.result.now c.loop-n.state _ c.requires.first (omega arith) c.get-command.ensures c.loop-n.invariant.state c.state_after-state.ensures;
}
