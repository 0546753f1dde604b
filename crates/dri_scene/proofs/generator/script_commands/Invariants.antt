-- The commands so far.
use Rattle.std.proofs.Common.{◌≡◌, ◌++◌}
use Rattle.std.specs.List.{flat_map, range_with_len}
use Rattle.dri_scene.specs.Generator.{first_settings, frame_commands}
use Rattle.dri_scene.proofs.generator.script_commands.Given as goal

abbrev pub invariant-loop-k : goal.invariant-loop-k
invariant-loop-k l = l.commands ≡ first_settings ++ flat_map (frame_commands l.fn.c) (range_with_len 1 l.k)
