use Rattle.dri_shared.specs.Sides.{world_at}
use Rattle.dri_driver.specs.Kept.{state_of}
use Rattle.dri_base.specs.declared.journal.Entry.TheVariants.{Stale}
use Rattle.dri_driver.proofs.Fitting.{agreed_in, makes_at, same_but, stale_copies, step_made}
use Rattle.dri_driver.proofs.client.Client.stale.Goals as goal

pub returns-clause-made : goal.returns-clause-made
returns-clause-made c =
    let k = c.args.self.now in
    let m = state_of c.self.inside in
    let a = c.args.side.now in
    let w = world_at a in
    let n = k.number in
    step_made k _ a c.stale.new.self (Stale n) c.requires.fits (makes_at Stale _ _ _ c.requires.client c.stale.ensures) (same_but k m c.stale-2.new.self c.self.view_is) (stale_copies k.scene w n)
    (c.stale-2.ensures.part k.scene w n (agreed_in k m (w.client n) c.self.view_is c.requires.fits.part))
