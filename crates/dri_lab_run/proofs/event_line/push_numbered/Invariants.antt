-- The numbers so far.
use Rattle.std.proofs.Common.{◌∷◌, map, take}
use Rattle.std.specs.Fmt.{decimal}
use Rattle.dri_scene.specs.Texts.{Adds}
use Rattle.dri_lab_run.specs.Spaces.{behind_spaces}
use Rattle.dri_lab_run.proofs.event_line.push_numbered.Given as goal

abbrev pub invariant-loop-number : goal.invariant-loop-number
invariant-loop-number l = Adds l.fn.text.items (behind_spaces (l.label ∷ map decimal (take l.number-index l.numbers))) l.text.items
