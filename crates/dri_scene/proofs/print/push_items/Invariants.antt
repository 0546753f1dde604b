-- The lines so far.
use Rattle.std.proofs.Common.{take}
use Rattle.std.specs.List.{flat_map}
use Rattle.dri_scene.specs.Texts.{Adds, item_words}
use Rattle.dri_words.specs.Lines.{line_bytes}
use Rattle.dri_scene.proofs.print.push_items.Given as goal

abbrev pub invariant-loop-item : goal.invariant-loop-item
invariant-loop-item l = Adds l.fn.text.items (flat_map (λ x. line_bytes (item_words x)) (take l.item-index l.item-items)) l.text.items
