-- The bytes so far.
use Rattle.std.proofs.Common.{◌≡◌}
use Rattle.dri_base.specs.Planes.{first_pixels}
use Rattle.dri_scene.specs.Generator.{grey}
use Rattle.dri_scene.proofs.generator.greys.Given as goal

abbrev pub invariant-loop-k : goal.invariant-loop-k
invariant-loop-k l = l.bytes ≡ first_pixels 64 (grey l.fn.c l.fn.t) l.k
