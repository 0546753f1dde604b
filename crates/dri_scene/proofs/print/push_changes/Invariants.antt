-- The lines so far.
use Rattle.std.proofs.Common.{take}
use Rattle.std.specs.List.{flat_map}
use Rattle.dri_scene.specs.Texts.{Adds, change_words}
use Rattle.dri_words.specs.Lines.{line_bytes}
use Rattle.dri_scene.proofs.print.push_changes.Given as goal

abbrev pub invariant-loop-change : goal.invariant-loop-change
invariant-loop-change l = Adds l.fn.text.items (flat_map (λ x. line_bytes (change_words x)) (take l.change-index l.change-items)) l.text.items
