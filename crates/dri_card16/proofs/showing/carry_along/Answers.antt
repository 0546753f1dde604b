-- What is carried, where there is something.
use Rattle.std.proofs.Common.{rules, w32}
use Rattle.std.proofs.lemmas.Int.{to_z-of_z}
use mir.Val.{SFits}
use Rattle.dri_replay.proofs.Stacked.{goes_near, stays_inside}
use Rattle.dri_card16.proofs.showing.carry_along.Goals as goal

pub carry-requires-clause-apart : goal.carry-requires-clause-apart
carry-requires-clause-apart g c = let can = rw c.in-Some.is at c.requires.can in rw c.as_slice.ensures can.apart

pub carry-requires-clause-dx : goal.carry-requires-clause-dx
carry-requires-clause-dx g c =
    let across : SFits w32 c.in-Some.carry.dx = search rules in
    let can = rw c.in-Some.is at c.requires.can in
    rw (to_z-of_z w32 c.in-Some.carry.dx across) (goes_near c.in-Some.carry.dx c.in-Some.carry.dy _ _ c.in-Some.carry.rects c.requires.screen.wide c.requires.screen.high can.some can.each).0

pub carry-requires-clause-dy : goal.carry-requires-clause-dy
carry-requires-clause-dy g c =
    let down : SFits w32 c.in-Some.carry.dy = search rules in
    let can = rw c.in-Some.is at c.requires.can in
    rw (to_z-of_z w32 c.in-Some.carry.dy down) (goes_near c.in-Some.carry.dx c.in-Some.carry.dy _ _ c.in-Some.carry.rects c.requires.screen.wide c.requires.screen.high can.some can.each).1

pub unwrap-requires : goal.unwrap-requires
unwrap-requires g c =
    let across : SFits w32 c.in-Some.carry.dx = search rules in
    let down : SFits w32 c.in-Some.carry.dy = search rules in
    let can = rw c.in-Some.is at c.requires.can in
    c.carry.ensures.stay.1 (rw (c.as_slice.ensures, to_z-of_z w32 c.in-Some.carry.dx across, to_z-of_z w32 c.in-Some.carry.dy down) (λ k r lt. stays_inside _ _ _ _ _ (can.each k r lt)))

pub returns-in-Some-clause-held : goal.returns-in-Some-clause-held
returns-in-Some-clause-held g c =
    let across : SFits w32 c.in-Some.carry.dx = search rules in
    let down : SFits w32 c.in-Some.carry.dy = search rules in
    rw (c.in-Some.is, ← c.as_slice.ensures)
    (rw (c.unwrap.ensures, to_z-of_z w32 c.in-Some.carry.dx across, to_z-of_z w32 c.in-Some.carry.dy down) at c.carry.ensures.held)
