-- The blocks so far.
use Rattle.std.proofs.Common.{take}
use Rattle.std.specs.List.{flat_map}
use Rattle.dri_scene.specs.Texts.{Adds}
use Rattle.dri_lab_run.specs.AllEnds.{end_block}
use Rattle.dri_lab_run.proofs.all.push_ends.Given as goal

abbrev pub invariant-loop-end : goal.invariant-loop-end
invariant-loop-end l = Adds l.fn.text.items (flat_map end_block (take l.end-index l.ends)) l.text.items
