use Rattle.std.proofs.Common.{◌≡◌, map, take}
use Rattle.dri_base.specs.declared.command.Item.TheVariants.{Turn}
use Rattle.dri_explore.proofs.choices.turns_of.Given as goal

abbrev pub invariant-loop-i : goal.invariant-loop-i
invariant-loop-i l = l.items ≡ map (λ p. Turn p.number) (take l.i l.scene.clients)
