use Rattle.std.proofs.Common.{refl}
use Rattle.dri_base.specs.declared.command.Command.TheVariants.{Clear}
use Rattle.dri_shared.specs.Sides.{world_at}
use Rattle.dri_driver.proofs.Steps.{heap_left, run_step}
use Rattle.dri_driver.proofs.client.Client.clear.Goals as goal

pub returns : goal.returns
returns c =
    let k = c.args.self.now in
    let l = c.ran.new.self in
    let a = c.args.side.now in
    let b = c.clear.new.self in
    let command = Clear c.args.colour c.args.depth in
    let heap = heap_left k l a b command c.requires.client c.requires.fits c.requires.next c.clear.ensures _ c.regions.ensures.heap in
    run_step k l a b command c.requires.client c.requires.fits c.requires.next c.clear.ensures c.ran.result c.ran.ensures.started c.requires.acting c.ran.ensures.same
    (c.ran.ensures.part (world_at a) c.requires.fits.part heap) refl c.ran.ensures.entry
