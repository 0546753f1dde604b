use Rattle.std.proofs.Common.{◌≡◌, ◌∙◌, ap, subst, sym}
use Rattle.dri_base.specs.Scenes.{script_of}
use Rattle.dri_core.specs.Privates.{Private}
use Rattle.dri_shared.specs.Sides.{world_at}
use Rattle.dri_driver.specs.Kept.{state_of}
use Rattle.dri_base.specs.declared.journal.Entry.TheVariants.{Leave}
use Rattle.dri_base.specs.declared.scene.ClientScript.{ClientScript}
use Rattle.dri_core.specs.Effects.{after_leave}
use Rattle.dri_core.specs.Worlds.{World}
use Rattle.dri_core.proofs.Parts.{put_here}
use Rattle.dri_client.specs.Kept.{IsKept}
use Rattle.dri_driver.proofs.Fitting.{agreed_in, leave_copies, makes_at, same_but, step_made, world_added}
use Rattle.dri_driver.proofs.Owned.{script_read}
use Rattle.dri_driver.proofs.client.Client.leave.Goals as goal

-- the script that it read is its own
own : (c : goal.After-leave-2) → c.get-script.result.now ≡ script_of c.args.self.now.scene c.args.self.now.number
own c =
    let m = state_of c.self.inside in
    script_read m.scene _ m.number c.self.inside.index c.get-script.result.now c.deref.ensures c.get-script.ensures c.self.invariant.there ∙ (λ i. script_of (c.self.view_is i).scene (c.self.view_is i).number)

pub invariant_of-self : goal.invariant_of-self
invariant_of-self c =
    let is = c.self.invariant in
    let m = state_of c.self.inside in
    let own = script_read m.scene _ m.number c.self.inside.index c.get-script.result.now c.deref.ensures c.get-script.ensures is.there in
    record {
      good = is.good;
      there = is.there;
      kept = subst (λ (t : ClientScript). IsKept t m.scene.regions c.leave-2.new.self) own (c.leave-2.ensures.kept m.scene.regions (subst (λ (t : ClientScript). IsKept t m.scene.regions c.self.inside.part) (sym own) is.kept));
      sized = c.leave-2.ensures.size ∙ is.sized;
      copy = is.copy;
    }

pub returns-clause-made : goal.returns-clause-made
returns-clause-made c =
    let k = c.args.self.now in
    let m = state_of c.self.inside in
    let a = c.args.side.now in
    let w = world_at a in
    let n = k.number in
    step_made k _ a c.leave.new.self (Leave n) c.requires.fits (makes_at Leave _ _ _ c.requires.client c.leave.ensures) (same_but k m c.leave-2.new.self c.self.view_is) (leave_copies k.scene w n)
    (c.leave-2.ensures.part k.scene w n (own c) (agreed_in k m (w.client n) c.self.view_is c.requires.fits.part))

pub returns-clause-phase : goal.returns-clause-phase
returns-clause-phase c =
    let k = c.args.self.now in
    let w = world_at c.args.side.now in
    let n = k.number in
    let agrees = c.leave-2.ensures.part k.scene w n (own c) (agreed_in k (state_of c.self.inside) (w.client n) c.self.view_is c.requires.fits.part) in
    ap (λ (p : Private). p.phase) agrees ∙ (ap (λ (p : Private). p.phase) (put_here w.client n (record (w.client n) { phase = after_leave k.scene n (w.client n) })) ∙ ap (after_leave k.scene n) (sym c.requires.fits.part))

pub returns-clause-left : goal.returns-clause-left
returns-clause-left c = ap (λ (w : World). w.left) (world_added _ _ (Leave c.args.self.now.number) (makes_at Leave _ _ _ c.requires.client c.leave.ensures).added)
