-- The turns so far.
use Rattle.std.proofs.Common.{◌≡◌, map, take}
use Rattle.dri_base.specs.declared.command.Item.TheVariants.{Turn}
use Rattle.dri_lab_run.proofs.events.round_of.Given as goal

abbrev pub invariant-loop-client : goal.invariant-loop-client
invariant-loop-client l = l.items ≡ map (λ p. Turn p.number) (take l.client-index l.client-items)
