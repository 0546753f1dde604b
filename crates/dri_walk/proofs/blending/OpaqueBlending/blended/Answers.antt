-- Whatever is under the colour.
use Rattle.dri_walk.proofs.blending.OpaqueBlending.blended.Goals as goal

pub returns : goal.returns
returns c = c.opaque.ensures c.args._under
