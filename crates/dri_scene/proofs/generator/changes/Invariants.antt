-- The changes so far.
use Rattle.std.proofs.Common.{◌≡◌, map}
use Rattle.std.specs.List.{range_with_len}
use Rattle.dri_scene.specs.Generator.{change}
use Rattle.dri_scene.proofs.generator.changes.Given as goal

abbrev pub invariant-loop-k : goal.invariant-loop-k
invariant-loop-k l = l.changes ≡ map (change l.fn.n) (range_with_len 1 l.k)
