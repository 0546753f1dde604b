use Rattle.dri_base.specs.declared.command.Command.TheVariants.{Triangle}
use Rattle.dri_shared.specs.Sides.{world_at}
use Rattle.dri_driver.proofs.Steps.{heap_left, run_step, triangle_turn_is}
use Rattle.dri_driver.proofs.client.Client.triangle.Goals as goal

pub returns : goal.returns
returns c =
    let k = c.args.self.now in
    let l = c.ran.new.self in
    let a = c.args.side.now in
    let b = c.triangle.new.self in
    let command = Triangle c.args.triangle.now in
    let heap = heap_left k l a b command c.requires.client c.requires.fits c.requires.next c.triangle.ensures _ c.regions.ensures.heap in
    run_step k l a b command c.requires.client c.requires.fits c.requires.next c.triangle.ensures c.ran.result c.ran.ensures.started c.requires.acting c.ran.ensures.same
    (c.ran.ensures.part (world_at a) c.requires.fits.part heap) (triangle_turn_is k (world_at a) c.args.triangle.now c.requires.fits.part c.requires.ready c.requires.clean) c.ran.ensures.entry
