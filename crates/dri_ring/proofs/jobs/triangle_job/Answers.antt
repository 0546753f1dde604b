-- The job has the words of the client's own state.
use Rattle.std.proofs.Common.{◌∙◌, ap}
use Rattle.std.specs.Option.{option_copied}
use Rattle.dri_base.specs.Texels.{texture_bound}
use Rattle.dri_base.specs.declared.scene.ClientScript.{ClientScript}
use Rattle.dri_base.specs.declared.state.Registers.{Registers}
use Rattle.dri_ring.proofs.Drawings.{triangle_is}
use Rattle.dri_ring.proofs.jobs.triangle_job.Goals as goal

pub returns : goal.returns
returns c =
    triangle_is c.args.replay.now c.args.client c.args.triangle.now c.in_ok-clips.clips c.origin.result c.state_words.result c.state-state.result (option_copied c.texture_bound-image.result) c.registers_alone-bound.result.bound
    c.in_ok-clips.ensures c.origin.ensures.corner c.origin.ensures.x c.origin.ensures.y c.state-state.ensures.kept c.state-state.ensures.scissor
    (c.texture_bound-image.ensures.found ∙ (λ i. texture_bound ((c.as_slice.ensures ∙ ap (λ (p : ClientScript). p.textures) c.script.ensures.same) i) c.state-state.result.bound))
    c.texture_bound-image.ensures.whole (ap (λ (r : Registers). r.bound) c.registers_alone-bound.ensures) c.state_words.ensures
