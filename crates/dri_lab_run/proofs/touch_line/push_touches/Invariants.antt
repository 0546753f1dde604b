-- The lines so far.
use Rattle.std.proofs.Common.{take}
use Rattle.dri_scene.specs.Texts.{Adds}
use Rattle.dri_lab_run.specs.PlaceHistory.{touch_lines}
use Rattle.dri_lab_run.proofs.touch_line.push_touches.Given as goal

abbrev pub invariant-loop-touch : goal.invariant-loop-touch
invariant-loop-touch l = Adds l.fn.text.items (touch_lines (take l.touch-index l.touches)) l.text.items
