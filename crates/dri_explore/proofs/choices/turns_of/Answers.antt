use Rattle.dri_base.specs.declared.command.Item.TheVariants.{Turn}
use Rattle.dri_base.specs.declared.scene.ClientScript.{ClientScript}
use Rattle.dri_explore.proofs.Walking.{map_next}
use Rattle.dri_explore.proofs.choices.turns_of.Goals as goal

pub loop-i-preserved : goal.loop-i-preserved
loop-i-preserved c = map_next (λ (p : ClientScript). Turn p.number) c.args.scene.now.clients c.loop-i.i c.get.result.now c.loop-i.items c.push.new.self c.get.ensures c.loop-i.invariant c.in_ok-push.ensures.ok
