-- One more.
use Rattle.std.proofs.Common.{rules}
use Rattle.std.proofs.lemmas.List.Elements.{All-more}
use Rattle.dri_scene.specs.Stored.{IsColour}
use Rattle.dri_scene.specs.Texts.{window_words}
use Rattle.dri_words.specs.Lines.{line_bytes}
use Rattle.dri_scene.proofs.Joins.{next_piece}
use Rattle.dri_scene.proofs.print.push_windows.Goals as goal

pub loop-window-preserved : goal.loop-window-preserved
loop-window-preserved c =
    let xs = c.as_slice-window-items.result.now in
    let i = c.loop-window.window-index in
    (next_piece (λ w. line_bytes (window_words w)) xs i _ (search rules) c.loop-window.invariant.0 c.in_ok-push_window.ensures.text, All-more (λ w. IsColour w.background) xs i _ (search rules) c.loop-window.invariant.1 c.in_ok-push_window.ensures.stored)
