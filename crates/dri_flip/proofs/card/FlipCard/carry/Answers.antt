-- The pixels are carried once what is owed is made. The lists have room, since the rectangles share no pixel.
use Rattle.std.proofs.Common.{◌*◌, ◌∙◌, sym, arith, w32}
use Rattle.std.proofs.lemmas.Int.{to_z-of_z}
use Rattle.dri_card.proofs.Carrying.{less_room}
use Rattle.dri_plane.specs.Moves.{pixel_counts}
use Rattle.dri_plane.proofs.Room.{apart_fit}
use Rattle.dri_flip.specs.Calls.{touch}
use Rattle.dri_flip.proofs.Meant.{front_inside, held_inside, held_outside, owed_inside, shown_inside, sides_after}
use Rattle.dri_flip.proofs.Owed.{all_steps, front_uncarried, no_steps, owed_none, owed_still, pairs_uncarried, stay_on}
use Rattle.dri_flip.proofs.card.FlipCard.carry.Goals as goal

pub touched_by-requires : goal.touched_by-requires
touched_by-requires g c = record { inside = stay_on c.args.dx c.args.dy c.args.self.now.front.width c.args.self.now.front.height c.args.rects.now c.requires.stay }

pub carry-requires-clause-room : goal.carry-requires-clause-room
carry-requires-clause-room g c =
    let front = front_inside c.self.inside c.args.self.now c.pay.new.self c.self.view_is c.pay.ensures.paid in
    let old = c.args.self.now in
    let fits = apart_fit old.front.width old.front.height c.args.rects.now (stay_on c.args.dx c.args.dy old.front.width old.front.height c.args.rects.now c.requires.stay) c.requires.apart in
    less_room (pixel_counts c.args.rects.now) (old.front.width * old.front.height) c.self.inside.lifts fits (rw (← front) c.self.invariant.room)

pub returns-then-touched_by-clause-shown : goal.returns-then-touched_by-clause-shown
returns-then-touched_by-clause-shown g c = λ shown shows.
    let same_dx = to_z-of_z w32 c.args.dx c.ranges.dx in
    let same_dy = to_z-of_z w32 c.args.dy c.ranges.dy in
    (rw (same_dx, same_dy) at c.carry.ensures.shown) shown (shown_inside c.self.inside c.args.self.now c.pay.new.self c.self.view_is c.pay.ensures.paid shown shows)

pub returns-then-touched_by-clause-held : goal.returns-then-touched_by-clause-held
returns-then-touched_by-clause-held g c = λ f holds.
    let old = c.args.self.now in
    let mid = c.pay.new.self in
    let new = c.carry.new in
    let same_dx = to_z-of_z w32 c.args.dx c.ranges.dx in
    let same_dy = to_z-of_z w32 c.args.dy c.ranges.dy in
    held_outside c.self.inside old mid c.self.view_is c.pay.ensures.paid new.front new.target.back new.target.depth _ ((rw (same_dx, same_dy) at c.carry.ensures.held) f (held_inside c.self.inside old mid c.self.view_is c.pay.ensures.paid f holds))

pub returns-then-touched_by-clause-owed : goal.returns-then-touched_by-clause-owed
returns-then-touched_by-clause-owed g c =
    let old = c.args.self.now in
    owed_inside c.self.inside old c.pay.new.self c.self.view_is c.pay.ensures.paid ∙ sym (owed_none old (touch old c.args.rects.now) (sym c.touched_by.ensures.touch ∙ c.if-touched_by.true))

pub returns-then-touched_by-clause-cost : goal.returns-then-touched_by-clause-cost
returns-then-touched_by-clause-cost g c =
    let old = c.args.self.now in
    let copy = all_steps old (touch old c.args.rects.now) (sym c.touched_by.ensures.touch ∙ c.if-touched_by.true) in
    let paid = c.pay.ensures.cost in
    let cost = c.carry.ensures.cost in
    omega (arith, copy, paid, cost)

pub returns-else-touched_by-clause-shown : goal.returns-else-touched_by-clause-shown
returns-else-touched_by-clause-shown g c = λ shown shows. front_uncarried c.args.self.now c.args.rects.now c.args.dx c.args.dy shown (c.touched_by.ensures.none c.if-touched_by.false) shows

pub returns-else-touched_by-clause-held : goal.returns-else-touched_by-clause-held
returns-else-touched_by-clause-held g c = λ f holds. pairs_uncarried c.args.self.now c.args.rects.now c.args.dx c.args.dy f (c.touched_by.ensures.none c.if-touched_by.false) holds

pub returns-else-touched_by-clause-owed : goal.returns-else-touched_by-clause-owed
returns-else-touched_by-clause-owed g c = sym (owed_still c.args.self.now (touch c.args.self.now c.args.rects.now) (sym c.touched_by.ensures.touch ∙ c.if-touched_by.false))

pub returns-else-touched_by-clause-cost : goal.returns-else-touched_by-clause-cost
returns-else-touched_by-clause-cost g c =
    let old = c.args.self.now in
    let none = no_steps old (touch old c.args.rects.now) (sym c.touched_by.ensures.touch ∙ c.if-touched_by.false) in
    let empty = c.touched_by.ensures.none c.if-touched_by.false in
    omega (arith, none, empty)

pub returns-then-touched_by-clause-sides : goal.returns-then-touched_by-clause-sides
returns-then-touched_by-clause-sides g c =
    let new = c.carry.new in
    sides_after c.self.inside c.args.self.now c.pay.new.self new.front new.target.back new.target.depth c.self.view_is c.pay.ensures.paid c.self.invariant c.carry.ensures.front.0 c.carry.ensures.front.1 c.carry.ensures.target.0 c.carry.ensures.target.1 new.target.same_width new.target.same_height

pub invariant_of-self : goal.invariant_of-self
invariant_of-self g c =
    let fits = c.self.invariant in
    let old = c.self.inside in
    let new = c.carry.new in
    let wide = c.carry.ensures.front.0 in
    let high = c.carry.ensures.front.1 in
    record {
      wide = rw wide fits.wide;
      high = rw high fits.high;
      back_width = c.carry.ensures.target.0 ∙ (fits.back_width ∙ sym wide);
      back_height = c.carry.ensures.target.1 ∙ (fits.back_height ∙ sym high);
      depth_width = new.target.same_width ∙ (c.carry.ensures.target.0 ∙ (fits.back_width ∙ sym wide));
      depth_height = new.target.same_height ∙ (c.carry.ensures.target.1 ∙ (fits.back_height ∙ sym high));
      room = rw (wide, high) (c.carry.ensures.room (old.front.width * old.front.height) fits.room);
    }
