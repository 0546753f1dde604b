-- One more at each turn.
use Rattle.dri_scene.specs.Generator.{texture}
use Rattle.dri_scene.proofs.Generated.{one_more}
use Rattle.dri_scene.proofs.generator.textures.Goals as goal

pub loop-k-preserved : goal.loop-k-preserved
loop-k-preserved c = one_more (texture c.args.c) c.loop-k.k c.loop-k.textures c.push.new.self c.in_ok-texture.field-0 c.loop-k.invariant c.in_ok-texture.ensures c.in_ok-push.ensures.ok
