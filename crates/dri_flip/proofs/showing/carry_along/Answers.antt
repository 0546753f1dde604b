-- What is carried, where there is something.
use Rattle.std.proofs.Common.{◌≡◌, ◌∙◌, ap, rules, w32, true, not}
use Rattle.std.specs.Prelude.{◌&&◌}
use Rattle.std.proofs.lemmas.Int.{to_z-of_z}
use Rattle.dri_flip.specs.Calls.{touch}
use Rattle.dri_flip.proofs.Changed.{rects_touch}
use Rattle.dri_replay.proofs.Stacked.{stays_inside}
use mir.Val.{SFits}
use Rattle.dri_flip.proofs.showing.carry_along.Goals as goal

pub carry-requires-clause-stay : goal.carry-requires-clause-stay
carry-requires-clause-stay g c =
    let across : SFits w32 c.in-Some.carry.dx = search rules in
    let down : SFits w32 c.in-Some.carry.dy = search rules in
    let can = rw c.in-Some.is at c.requires in
    rw (c.as_slice.ensures, to_z-of_z w32 c.in-Some.carry.dx across, to_z-of_z w32 c.in-Some.carry.dy down) (λ k r lt. stays_inside _ _ _ _ _ (can.each k r lt))

pub carry-requires-clause-apart : goal.carry-requires-clause-apart
carry-requires-clause-apart g c = let can = rw c.in-Some.is at c.requires in rw c.as_slice.ensures can.apart

pub returns-in-Some-clause-shown : goal.returns-in-Some-clause-shown
returns-in-Some-clause-shown g c =
    let across : SFits w32 c.in-Some.carry.dx = search rules in
    let down : SFits w32 c.in-Some.carry.dy = search rules in
    rw (c.in-Some.is, ← c.as_slice.ensures) (rw (to_z-of_z w32 c.in-Some.carry.dx across, to_z-of_z w32 c.in-Some.carry.dy down) at c.carry.ensures.shown)

pub returns-in-Some-clause-held : goal.returns-in-Some-clause-held
returns-in-Some-clause-held g c =
    let across : SFits w32 c.in-Some.carry.dx = search rules in
    let down : SFits w32 c.in-Some.carry.dy = search rules in
    rw (c.in-Some.is, ← c.as_slice.ensures) (rw (to_z-of_z w32 c.in-Some.carry.dx across, to_z-of_z w32 c.in-Some.carry.dy down) at c.carry.ensures.held)

pub returns-in-Some-clause-owed : goal.returns-in-Some-clause-owed
returns-in-Some-clause-owed g c =
    let can = rw c.in-Some.is at c.requires in
    let touches : touch c.args.card.now c.in-Some.carry.rects ≡ true = rects_touch c.args.card.now.front.width c.args.card.now.front.height c.in-Some.carry.rects can.some (λ k r lt. (can.each k r lt).before) in
    rw c.in-Some.is (c.carry.ensures.owed ∙ ap (λ b. c.args.card.now.owed && not b) (ap (touch c.args.card.now) c.as_slice.ensures ∙ touches))
