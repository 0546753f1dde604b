-- What is left of the textures leads to the one of the number.
use Rattle.std.proofs.Common.{◌≡◌, drop}
use Rattle.dri_base.specs.Texels.{texture_in}
use Rattle.dri_core.proofs.lookups.texture_in.Given as goal

abbrev pub invariant-loop-texture : goal.invariant-loop-texture
invariant-loop-texture l = texture_in (drop l.texture-index l.textures) l.number ≡ texture_in l.textures l.number
