-- The items so far.
use Rattle.std.proofs.Common.{take}
use Rattle.dri_core.specs.Turns.{played}
use Rattle.dri_scene.specs.Texts.{Adds}
use Rattle.dri_world.specs.Courses.{GoesOn, core_of}
use Rattle.dri_lab_run.specs.EventLines.{item_lines}
use Rattle.dri_lab_run.proofs.events.take_items.Given as goal

abbrev pub invariant-loop-item : goal.invariant-loop-item
invariant-loop-item l = record {
  made : GoesOn l.fn.world l.world (played l.fn.world.scene (core_of l.fn.world) (take l.item-index l.items));
  lines : Adds l.fn.text.items (item_lines l.fn.world.scene (core_of l.fn.world) (take l.item-index l.items)) l.text.items;
}
