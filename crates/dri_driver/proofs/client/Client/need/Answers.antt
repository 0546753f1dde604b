use Rattle.std.proofs.Common.{◌≡◌, ◌∙◌, length, arith, ap, subst}
use Rattle.dri_base.specs.declared.scene.ClientScript.{ClientScript}
use Rattle.dri_driver.specs.Clients.{ClientState, script_of_client}
use Rattle.dri_driver.specs.Kept.{IsClient}
use Rattle.dri_driver.proofs.Owned.{few_commands}
use Rattle.dri_driver.proofs.client.Client.need.Goals as goal

pub commands_ahead-requires : goal.commands_ahead-requires
commands_ahead-requires c =
    let k = c.args.self.now in
    let few = few_commands k c.self.inside.index (subst (λ (m : ClientState). IsClient m c.self.inside.index) c.self.view_is c.self.invariant) in
    let same : length c.as_slice.result.now ≡ length (script_of_client k) = ap length (c.as_slice.ensures ∙ ap (λ (p : ClientScript). p.commands) c.script.ensures) in
    omega (arith, few, same, c.split_at.ensures.back_len)
