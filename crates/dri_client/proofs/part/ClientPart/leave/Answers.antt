use Rattle.std.proofs.Common.{◌≡◌, ◌∙◌, ◌-◌, ap, arith}
use Rattle.std.specs.Prelude.{pred}
use Rattle.dri_core.specs.Phases.{left_from}
use Rattle.dri_client.specs.Activities.{phase_in}
use Rattle.dri_client.specs.Kept.{state_of}
use Rattle.dri_client.specs.Parts.{PartState}
use Rattle.dri_client.specs.Steps.{is_last_of}
use Rattle.dri_client.proofs.Agreeing.{leave_agrees}
use Rattle.dri_client.proofs.Keeping.{left_kept}
use Rattle.dri_client.proofs.part.ClientPart.leave.Goals as goal

-- the phase that it is left in
phase_left : (c : goal.After-self-1) → phase_in c.left-self-inside.result ≡ left_from c.args.self.now.phase (is_last_of c.args.script.now (pred c.args.self.now.place))
phase_left c =
    let e : c.args.self.now.place - 1 ≡ pred c.args.self.now.place = omega arith in
    let last = c.is_last-is_last.ensures ∙ (ap (λ (p : PartState). is_last_of c.args.script.now (p.place - 1)) c.self.view_is ∙ ap (is_last_of c.args.script.now) e) in
    c.left-self-inside.ensures ∙ λ i. left_from (c.self.view_is i).phase (last i)

pub returns-clause-kept : goal.returns-clause-kept
returns-clause-kept c = λ n kept.
    left_kept c.args.script.now c.args.self.now _ n ((λ i. record (state_of c.self.inside) { phase = phase_left c i }) ∙ ap (λ (p : PartState). record p { phase = left_from c.args.self.now.phase (is_last_of c.args.script.now (pred c.args.self.now.place)) }) c.self.view_is) kept

pub returns-clause-part : goal.returns-clause-part
returns-clause-part c = λ s w d own agrees.
    leave_agrees s w d c.args.self.now _ c.args.script.now ((λ i. record (state_of c.self.inside) { phase = phase_left c i }) ∙ ap (λ (p : PartState). record p { phase = left_from c.args.self.now.phase (is_last_of c.args.script.now (pred c.args.self.now.place)) }) c.self.view_is) own agrees
