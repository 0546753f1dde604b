use Rattle.std.proofs.Common.{◌∙◌, ap, inl, subst}
use Rattle.dri_core.specs.Privates.{Private}
use Rattle.dri_shared.specs.Sides.{world_at}
use Rattle.dri_client.specs.Parts.{PartState}
use Rattle.dri_driver.specs.Clients.{ClientState}
use Rattle.dri_driver.specs.Kept.{IsClient, state_of}
use Rattle.dri_base.specs.declared.journal.Entry.TheVariants.{Light}
use Rattle.dri_driver.proofs.Counts.{taken_need}
use Rattle.dri_driver.proofs.Fitting.{agreed_in, light_copies, makes_at, same_but, step_made, with_part}
use Rattle.dri_driver.proofs.client.Client.after_light.Goals as goal

pub returns-clause-made : goal.returns-clause-made
returns-clause-made c =
    let k = c.args.self.now in
    let m = state_of c.self.inside in
    let a = c.args.side.now in
    let w = world_at a in
    let n = k.number in
    step_made k _ a c.light.new.self (Light n) c.requires.fits (makes_at Light _ _ _ c.requires.client c.light.ensures) (same_but k m c.light-2.new.self c.self.view_is) (light_copies k.scene w n)
    (c.light-2.ensures.part k.scene w n (agreed_in k m (w.client n) c.self.view_is c.requires.fits.part))

pub returns-clause-need : goal.returns-clause-need
returns-clause-need c =
    let k = c.args.self.now in
    let m = state_of c.self.inside in
    let kept = subst (λ (x : ClientState). IsClient x c.self.inside.index) c.self.view_is c.self.invariant in
    let l = with_part m c.light-2.new.self in
    taken_need k l c.self.inside.index (ap (λ (x : ClientState). x.scene) c.self.view_is) (ap (λ (x : ClientState). x.number) c.self.view_is)
    (ap (λ (p : PartState). p.place) c.light-2.ensures.state ∙ ap (λ (x : ClientState). x.place) c.self.view_is) (inl (ap (λ (p : PartState). p.phase) c.light-2.ensures.state)) kept (ap (λ (p : Private). p.phase) c.requires.fits.part ∙ c.requires.legal.0)
