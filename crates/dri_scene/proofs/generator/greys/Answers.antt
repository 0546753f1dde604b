-- One more byte at each turn.
use Rattle.std.proofs.Common.{◌∙◌, refl}
use Rattle.dri_base.proofs.PlaneLists.{no_pixels, pixels_more}
use Rattle.dri_scene.specs.Generator.{grey}
use Rattle.dri_scene.proofs.generator.greys.Goals as goal

pub loop-k-init : goal.loop-k-init
loop-k-init c = c.new-bytes.ensures ∙ no_pixels 64 (grey c.args.c c.args.t)

pub loop-k-preserved : goal.loop-k-preserved
loop-k-preserved c = pixels_more 64 c.loop-k.k (grey c.args.c c.args.t) c.loop-k.bytes c.push.new.self _ c.loop-k.invariant refl c.in_ok-push.ensures.ok
