-- A triangle is drawn in a client's window.
use Rattle.std.specs.Option.{option_copied}
use Rattle.dri_flip.proofs.Made.{draw_made, image_is}
use Rattle.dri_flip.proofs.following.draw.Goals as goal

pub draw-requires-clause-inside : goal.draw-requires-clause-inside
draw-requires-clause-inside g c = rw (c.as_slice.ensures.value, c.requires.sides.front_width, c.requires.sides.front_height) c.in_ok-rects.ensures.inside

pub draw-requires-clause-apart : goal.draw-requires-clause-apart
draw-requires-clause-apart g c = rw c.as_slice.ensures.value c.in_ok-rects.ensures.apart

pub draw-requires-clause-image : goal.draw-requires-clause-image
draw-requires-clause-image g c = image_is (option_copied c.texture-image.result) c.texture-image.ensures.whole

pub returns : goal.returns
returns g c =
    draw_made c.args.replay.now c.args.client c.in_ok-rects.rects.items c.args.counted.now c.draw.new.self c.requires.sides c.in_ok-rects.ensures c.origin-origin.result c.state-state.result (option_copied c.texture-image.result) c.args.triangle.now
    c.origin-origin.ensures.corner c.state-state.ensures.kept c.texture-image.ensures.found
    (rw c.as_slice.ensures.value at c.draw.ensures.held) c.draw.ensures.others c.draw.ensures.sides (rw c.as_slice.ensures.value at c.draw.ensures.owes)
