-- One more at each turn.
use Rattle.dri_scene.specs.Generator.{window}
use Rattle.dri_scene.proofs.Generated.{one_more}
use Rattle.dri_scene.proofs.generator.windows.Goals as goal

pub loop-k-preserved : goal.loop-k-preserved
loop-k-preserved c = one_more window c.loop-k.k c.loop-k.windows c.push.new.self c.window.result c.loop-k.invariant c.window.ensures c.in_ok-push.ensures.ok
