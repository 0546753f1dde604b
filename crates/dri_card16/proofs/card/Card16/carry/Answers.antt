-- The lists have room, since the rectangles share no pixel; and the card's planes keep their sides.
use Rattle.std.proofs.Common.{◌*◌, ◌∙◌, ap, refl, true, w32}
use Rattle.std.proofs.lemmas.Int.{to_z-of_z}
use Rattle.std.proofs.lemmas.Result.{err_from_is_err_and}
use Rattle.dri_plane.specs.Moves.{pixel_counts}
use Rattle.dri_plane.proofs.Room.{apart_fit}
use Rattle.dri_card16.specs.Invariants.{contents}
use Rattle.dri_card.proofs.Carrying.{fits_still, less_room}
use Rattle.dri_card16.proofs.card.Card16.carry.Goals as goal

pub returns-in_err-expect_all_stay-clause-stay : goal.returns-in_err-expect_all_stay-clause-stay
returns-in_err-expect_all_stay-clause-stay g c =
    let same_dx = to_z-of_z w32 c.args.dx c.ranges.dx in
    let same_dy = to_z-of_z w32 c.args.dy c.ranges.dy in
    let p = err_from_is_err_and c.from_residual.result c.from_residual.ensures.1 in
    rw p.1 (rw (same_dx, same_dy) at c.in_err-expect_all_stay.ensures.stay)

pub carry-requires-clause-room : goal.carry-requires-clause-room
carry-requires-clause-room g c =
    let self = c.args.self.now in
    let stay = c.in_ok-expect_all_stay.ensures.stay.0 (refl {a = true}) in
    let fits = apart_fit self.front.width self.front.height c.args.rects.now (λ k d within. (stay k d within).inside) c.requires.apart in
    let front = ap (λ v. v.front) c.self.view_is in
    less_room (pixel_counts c.args.rects.now) (self.front.width * self.front.height) c.self.inside.lifts fits (rw (← front) c.self.invariant.room)

pub invariant_of-self : goal.invariant_of-self
invariant_of-self g c =
    let old = c.self.inside in
    let new = c.carry.new in
    let sides = c.self.invariant.fit.sides in
    let wide = c.carry.ensures.front.0 in
    let high = c.carry.ensures.front.1 in
    record {
      fit = fits_still (contents old) (contents (record old { front = new.front; target = new.target; lifts = new.self })) wide high
          (record {
            front_width = wide;
            front_height = high;
            back_width = c.carry.ensures.target.0 ∙ sides.back_width;
            back_height = c.carry.ensures.target.1 ∙ sides.back_height;
            depth_width = new.target.same_width ∙ (c.carry.ensures.target.0 ∙ sides.back_width);
            depth_height = new.target.same_height ∙ (c.carry.ensures.target.1 ∙ sides.back_height);
          })
          refl refl refl c.self.invariant.fit;
      room = rw (wide, high) (c.carry.ensures.room (old.front.width * old.front.height) c.self.invariant.room);
    }
