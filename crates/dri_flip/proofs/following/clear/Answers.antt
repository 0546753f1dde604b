-- A client's window is cleared.
use Rattle.dri_flip.proofs.Made.{clear_made}
use Rattle.dri_flip.proofs.following.clear.Goals as goal

pub clear-requires-clause-inside : goal.clear-requires-clause-inside
clear-requires-clause-inside g c = rw (c.as_slice.ensures.value, c.requires.sides.front_width, c.requires.sides.front_height) c.in_ok-rects.ensures.inside

pub clear-requires-clause-apart : goal.clear-requires-clause-apart
clear-requires-clause-apart g c = rw c.as_slice.ensures.value c.in_ok-rects.ensures.apart

pub returns : goal.returns
returns g c =
    clear_made c.args.replay.now c.args.client c.in_ok-rects.rects.items c.args.counted.now c.clear.new.self c.requires.sides c.in_ok-rects.ensures c.args.colour c.args.depth
    (rw c.as_slice.ensures.value at c.clear.ensures.held) c.clear.ensures.others c.clear.ensures.sides (rw c.as_slice.ensures.value at c.clear.ensures.owes)
