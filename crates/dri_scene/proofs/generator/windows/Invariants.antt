-- The windows so far.
use Rattle.std.proofs.Common.{◌≡◌, map}
use Rattle.std.specs.List.{range_with_len}
use Rattle.dri_scene.specs.Generator.{window}
use Rattle.dri_scene.proofs.generator.windows.Given as goal

abbrev pub invariant-loop-k : goal.invariant-loop-k
invariant-loop-k l = l.windows ≡ map window (range_with_len 1 l.k)
