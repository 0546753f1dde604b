use Rattle.std.proofs.Common.{ap, refl}
use Rattle.dri_shared.specs.Copies.{corner}
use Rattle.dri_shared.specs.States.{world_of}
use Rattle.dri_driver.specs.Clients.{ClientState}
use Rattle.dri_driver.specs.Kept.{state_of}
use Rattle.dri_driver.proofs.Fitting.{agreed_in, with_part}
use Rattle.dri_driver.proofs.Telling.{told_fits}
use Rattle.dri_driver.proofs.client.Client.told.Goals as goal

pub returns-clause-fits : goal.returns-clause-fits
returns-clause-fits c = λ v u fits added is_told.
    let k = c.args.self.now in
    let n = k.number in
    let l = record (with_part (state_of c.self.inside) c.told.new.self) { clips = c.args.told.clips; origin = corner c.args.told.origin } in
    told_fits k l v u c.args.told fits added is_told (ap (λ (x : ClientState). x.scene) c.self.view_is) (ap (λ (x : ClientState). x.number) c.self.view_is) refl refl
    (c.told.ensures.part v.scene (world_of v) n (agreed_in k (state_of c.self.inside) ((world_of v).client n) c.self.view_is fits.part) is_told.stamp)
