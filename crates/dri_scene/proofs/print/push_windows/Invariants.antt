-- The lines so far.
use Rattle.std.proofs.Common.{All, take}
use Rattle.std.specs.List.{flat_map}
use Rattle.dri_scene.specs.Texts.{Adds, window_words}
use Rattle.dri_words.specs.Lines.{line_bytes}
use Rattle.dri_scene.specs.Stored.{IsColour}
use Rattle.dri_scene.proofs.print.push_windows.Given as goal

abbrev pub invariant-loop-window : goal.invariant-loop-window
invariant-loop-window l = (Adds l.fn.text.items (flat_map (λ x. line_bytes (window_words x)) (take l.window-index l.window-items)) l.text.items) × All (λ w. IsColour w.background) (take l.window-index l.window-items)
