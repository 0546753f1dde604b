-- What is carried, where there is something.
use Rattle.std.proofs.Common.{rules, w32}
use Rattle.std.proofs.lemmas.Int.{to_z-of_z}
use mir.Val.{SFits}
use Rattle.dri_shared.proofs.painting.carry_along.Goals as goal

pub unwrap-requires : goal.unwrap-requires
unwrap-requires g c =
    let across : SFits w32 c.in-Some.carry.dx = search rules in
    let down : SFits w32 c.in-Some.carry.dy = search rules in
    let can = rw c.in-Some.is at c.requires in
    c.carry.ensures.stay.1 (rw (c.as_slice.ensures, to_z-of_z w32 c.in-Some.carry.dx across, to_z-of_z w32 c.in-Some.carry.dy down) can.each)

pub returns-in-Some-clause-held : goal.returns-in-Some-clause-held
returns-in-Some-clause-held g c =
    let across : SFits w32 c.in-Some.carry.dx = search rules in
    let down : SFits w32 c.in-Some.carry.dy = search rules in
    rw (c.in-Some.is, ← c.as_slice.ensures)
    (rw (c.unwrap.ensures, to_z-of_z w32 c.in-Some.carry.dx across, to_z-of_z w32 c.in-Some.carry.dy down) at c.carry.ensures.held)
