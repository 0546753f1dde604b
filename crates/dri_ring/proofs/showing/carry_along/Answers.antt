-- What is carried, where there is something.
use Rattle.std.proofs.Common.{rules, w32}
use Rattle.std.proofs.lemmas.Int.{to_z-of_z}
use Rattle.dri_replay.proofs.Stacked.{goes_near}
use mir.Val.{SFits}
use Rattle.dri_ring.proofs.showing.carry_along.Goals as goal

pub carry-requires-clause-dx : goal.carry-requires-clause-dx
carry-requires-clause-dx c =
    let across : SFits w32 c.in-Some.carry.dx = search rules in
    let can = rw c.in-Some.is at c.requires.can in
    rw (to_z-of_z w32 c.in-Some.carry.dx across) (goes_near c.in-Some.carry.dx c.in-Some.carry.dy _ _ c.in-Some.carry.rects c.requires.wide c.requires.high can.some can.each).0

pub carry-requires-clause-dy : goal.carry-requires-clause-dy
carry-requires-clause-dy c =
    let down : SFits w32 c.in-Some.carry.dy = search rules in
    let can = rw c.in-Some.is at c.requires.can in
    rw (to_z-of_z w32 c.in-Some.carry.dy down) (goes_near c.in-Some.carry.dx c.in-Some.carry.dy _ _ c.in-Some.carry.rects c.requires.wide c.requires.high can.some can.each).1
