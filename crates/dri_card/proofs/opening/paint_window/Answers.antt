-- The window is painted over those below.
use Rattle.std.proofs.Common.{rules}
use Rattle.dri_card.specs.Openings.{IsCut}
use Rattle.dri_card.proofs.Stacked.{window_painted}
use Rattle.dri_card.proofs.opening.paint_window.Goals as goal

pub returns-then-window-clause-shown : goal.returns-then-window-clause-shown
returns-then-window-clause-shown g c =
    let w = c.args.window.now in
    let old = c.args.front.now in
    let cut : IsCut w old.width old.height c.on_screen-rect.result = rw (← c.width.ensures.value, ← c.height.ensures.value) c.on_screen-rect.ensures.pixels in
    λ root below shows. window_painted root w below old c.fill.new.self c.on_screen-rect.result (search rules) c.fill.ensures.width c.fill.ensures.height cut c.fill.ensures.pixels shows
