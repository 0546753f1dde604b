use Rattle.std.proofs.Common.{◌≡◌, ◌∙◌, ap, sym, subst}
use Rattle.dri_base.specs.Scenes.{commands_of}
use Rattle.dri_base.specs.declared.scene.ClientScript.{ClientScript}
use Rattle.dri_base.specs.declared.state.State.{State}
use Rattle.dri_base.specs.States.{state_at}
use Rattle.dri_core.specs.Privates.{Private}
use Rattle.dri_journal.specs.Replays.{world_of}
use Rattle.dri_journal.proofs.OwnDrawing.{own_state}
use Rattle.dri_meaning.proofs.Painting.{scissor_ranged}
use Rattle.dri_model.specs.Words.{IsScissorInRange}
use Rattle.dri_journal.proofs.replay.Replay.state.Goals as goal

pub returns-clause-kept : goal.returns-clause-kept
returns-clause-kept c = c.state.ensures ∙ ap (λ (p : Private). p.state) c.part.ensures.agrees

pub returns-clause-own : goal.returns-clause-own
returns-clause-own c =
    let v = c.args.self.now in
    c.state.ensures ∙ ap (λ (p : Private). p.state) c.part.ensures.agrees ∙ own_state v.scene v.entries c.args.client c.entries.ensures.in_range c.entries.ensures.run

pub returns-clause-scissor : goal.returns-clause-scissor
returns-clause-scissor c =
    let v = c.args.self.now in let n = c.args.client in let place = ((world_of v).client n).place in
    let is : c.state.result ≡ state_at (commands_of v.scene n) place = c.state.ensures ∙ ap (λ (p : Private). p.state) c.part.ensures.agrees ∙ own_state v.scene v.entries n c.entries.ensures.in_range c.entries.ensures.run in
    let script : c.script.result.now.commands ≡ commands_of v.scene n = ap (λ (p : ClientScript). p.commands) c.script.ensures.same in
    subst (λ (x : State). IsScissorInRange x.scissor) (ap (λ cs. state_at cs place) script ∙ sym is) (scissor_ranged c.script.result.now place c.script.ensures.range)
