-- One more at each turn.
use Rattle.dri_scene.specs.Generator.{client}
use Rattle.dri_scene.proofs.Generated.{one_more}
use Rattle.dri_scene.proofs.generator.clients.Goals as goal

pub loop-k-preserved : goal.loop-k-preserved
loop-k-preserved c = one_more client c.loop-k.k c.loop-k.clients c.push.new.self c.in_ok-client.field-0 c.loop-k.invariant c.in_ok-client.ensures c.in_ok-push.ensures.ok
