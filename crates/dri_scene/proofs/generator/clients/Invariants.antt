-- The clients so far.
use Rattle.std.proofs.Common.{◌≡◌, map}
use Rattle.std.specs.List.{range_with_len}
use Rattle.dri_scene.specs.Generator.{client}
use Rattle.dri_scene.proofs.generator.clients.Given as goal

abbrev pub invariant-loop-k : goal.invariant-loop-k
invariant-loop-k l = l.clients ≡ map client (range_with_len 1 l.k)
