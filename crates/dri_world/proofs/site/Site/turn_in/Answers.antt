use Rattle.std.proofs.Common.{◌≡◌, Some, rules}
use Rattle.dri_base.specs.declared.command.Command.TheVariants.{Die}
use Rattle.dri_driver.specs.Acts.{event_of}
use Rattle.dri_driver.specs.Clients.{next_command}
use Rattle.dri_world.proofs.Fitting.{ran_in, still_in}
use Rattle.dri_world.proofs.site.Site.turn_in.Goals as goal

pub event_of-requires : goal.event_of-requires
event_of-requires c =
    let k = c.args.client.now in
    let alive = λ (h : next_command k ≡ Some Die). absurd (let e = c.in-Ran.ensures.dies.1 (c.requires.phase, h) in cc) in
    still_in k c.client_side-side.result (event_of c.in-Ran.entry) alive c.in-Ran.ensures.event

pub returns-in-Ran-clause-made : goal.returns-in-Ran-clause-made
returns-in-Ran-clause-made c =
    let k = c.args.client.now in
    let alive = λ (h : next_command k ≡ Some Die). absurd (let e = c.in-Ran.ensures.dies.1 (c.requires.phase, h) in cc) in
    let still = still_in k c.client_side-side.result (event_of c.in-Ran.entry) alive c.in-Ran.ensures.event in
    rw c.event_of.ensures (ran_in _ _ _ _ _ _ c.in-Ran.entry c.in-Ran.ensures.made c.client_side-side.ensures.value (search rules) still)
