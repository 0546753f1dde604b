-- Back is shown in a client's window.
use Rattle.dri_flip.proofs.Made.{swap_made}
use Rattle.dri_flip.proofs.following.swap.Goals as goal

pub swap-requires-clause-inside : goal.swap-requires-clause-inside
swap-requires-clause-inside g c = rw (c.as_slice.ensures.value, c.requires.sides.front_width, c.requires.sides.front_height) c.in_ok-rects.ensures.inside

pub swap-requires-clause-apart : goal.swap-requires-clause-apart
swap-requires-clause-apart g c = rw c.as_slice.ensures.value c.in_ok-rects.ensures.apart

pub swap-requires-clause-wide : goal.swap-requires-clause-wide
swap-requires-clause-wide g c = rw c.requires.sides.front_width c.entries.ensures.in_range.card.wide.0

pub swap-requires-clause-high : goal.swap-requires-clause-high
swap-requires-clause-high g c = rw c.requires.sides.front_height c.entries.ensures.in_range.card.high.0

pub returns : goal.returns
returns g c =
    swap_made c.args.replay.now c.args.client c.in_ok-rects.rects.items c.args.counted.now c.swap.new.self c.requires.sides c.in_ok-rects.ensures
    (rw c.as_slice.ensures.value at c.swap.ensures.shown) c.swap.ensures.others c.swap.ensures.sides (rw c.as_slice.ensures.value at c.swap.ensures.owes)
