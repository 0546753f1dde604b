use Rattle.std.proofs.Common.{◌∙◌, ap, false}
use Rattle.dri_base.specs.declared.journal.Entry.TheVariants.{Gone}
use Rattle.dri_base.specs.declared.scene.Scene.{Scene}
use Rattle.dri_client.specs.Parts.{part_after}
use Rattle.dri_shared.specs.States.{world_of}
use Rattle.dri_driver.specs.Kept.{state_of}
use Rattle.dri_driver.proofs.Fitting.{agreed_in, gone_copies, same_but, stepped, with_part}
use Rattle.dri_driver.proofs.Telling.{gone_fits}
use Rattle.dri_driver.proofs.client.Client.gone.Goals as goal

pub returns-clause-fits : goal.returns-clause-fits
returns-clause-fits c = λ v u fits added.
    let k = c.args.self.now in
    let n = k.number in
    let m = state_of c.self.inside in
    let same = same_but k m c.gone.new.self c.self.view_is in
    let l = record (with_part m c.gone.new.self) { dying = false } in
    let part = stepped k l (world_of v) (Gone n) fits.part same.clips same.origin (gone_copies k.scene (world_of v) n) (c.gone.ensures.part k.scene (world_of v) n (agreed_in k m ((world_of v).client n) c.self.view_is fits.part)) in
    gone_fits k l v u fits added same.same.scene same.same.number (part ∙ ap (λ (s : Scene). part_after s (world_of v) (Gone n) n) fits.scene)
