-- The textures so far.
use Rattle.std.proofs.Common.{◌≡◌, map}
use Rattle.std.specs.List.{range_with_len}
use Rattle.dri_scene.specs.Generator.{texture}
use Rattle.dri_scene.proofs.generator.textures.Given as goal

abbrev pub invariant-loop-k : goal.invariant-loop-k
invariant-loop-k l = l.textures ≡ map (texture l.fn.c) (range_with_len 1 l.k)
