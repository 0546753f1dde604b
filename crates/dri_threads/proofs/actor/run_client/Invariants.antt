use Rattle.std.proofs.Common.{◌≡◌}
use Rattle.dri_hwlock.specs.Tokens.{pass_token, IsSuccessor}
use Rattle.dri_driver.specs.Fits.{IsSameClient}
use Rattle.dri_threads.specs.Actors.{Stands}
use Rattle.dri_threads.proofs.actor.run_client.Given as goal

abbrev pub invariant-loop : goal.invariant-loop
invariant-loop g l =
    (goal.iterator-loop g).can_next l.iterator' × (goal.iterator-loop g).is_finite l.iterator' × IsSuccessor (pass_token l.fn.pass) (pass_token l.pass) × Stands (pass_token l.pass) l.client l.number × IsSameClient l.fn.client l.client × (l.number ≡ l.fn.number)
