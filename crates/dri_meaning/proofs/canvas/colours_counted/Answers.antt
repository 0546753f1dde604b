-- The frame's colours.
use Rattle.std.proofs.Common.{◌-◌, ◌∙◌, suc, pos}
use Rattle.dri_core.specs.Solo.{solo}
use Rattle.dri_meaning.proofs.Painting.{colours_are}
use Rattle.dri_meaning.proofs.canvas.colours_counted.Goals as goal

pub returns : goal.returns
returns g c =
    let p = c.args.script.now in
    let first = c.args.frame.clear in
    let pairs = c.draw_frame.new.self.pairs in
    colours_are c.in_ok-colours.colours pairs c.args.width c.args.height (λ x y. solo p first (c.args.frame.swap - suc first) (pos x) (pos y)) c.in_ok-colours.ensures c.draw_frame.ensures.pairs
    (c.draw_frame.ensures.width ∙ c.in_ok-canvas.ensures.width) (c.draw_frame.ensures.height ∙ c.in_ok-canvas.ensures.height)
