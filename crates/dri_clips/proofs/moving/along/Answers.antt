use Rattle.std.proofs.Common.{refl, ◌∙◌}
use Rattle.dri_clips.proofs.Carrying.{arrived_so, carried_so, fresh_so, near_back, near_same, opposite_near, part_on, stays_range, whole_if_arrived, whole_if_carried}
use Rattle.dri_clips.proofs.moving.along.Goals as goal
use Rattle.dri_clips.proofs.moving.along.Goals.{then-same_region, else-same_region}

pub translate-requires : goal.translate-requires
translate-requires g c = stays_range _ _ _ _ c.args.now.now (near_back c.args.way.x c.requires.across) (near_back c.args.way.y c.requires.down) (opposite_near c.args.way.x c.requires.across) (opposite_near c.args.way.y c.requires.down) c.requires.now

pub translate-requires-2 : goal.translate-requires-2
translate-requires-2 g c = stays_range _ _ _ _ c.in_ok-carried.carried (near_same c.args.way.x c.requires.across) (near_same c.args.way.y c.requires.down) c.requires.across c.requires.down (part_on c.args.was.now _ c.in_ok-carried.carried c.in_ok-carried.ensures.region c.requires.was)

pub returns-clause-along : goal.returns-clause-along
returns-clause-along g c =
    let carried = carried_so c.args.way.x c.args.way.y _ _ c.args.was.now c.args.now.now c.in_ok-back.back c.in_ok-carried.carried (near_back c.args.way.x c.requires.across) (near_back c.args.way.y c.requires.down) c.in_ok-back.ensures.pixels c.in_ok-carried.ensures.region in
    let arrived = arrived_so c.args.way.x c.args.way.y _ _ c.args.was.now c.args.now.now c.in_ok-carried.carried c.in_ok-arrived.arrived (near_same c.args.way.x c.requires.across) (near_same c.args.way.y c.requires.down) carried c.in_ok-arrived.ensures.pixels in
    record {
      is = refl;
      across = near_same c.args.way.x c.requires.across;
      down = near_same c.args.way.y c.requires.down;
      carried = carried;
      fresh = fresh_so c.args.way.x c.args.way.y c.args.was.now c.args.now.now c.in_ok-arrived.arrived c.in_ok-fresh.fresh arrived c.in_ok-fresh.ensures.region;
      whole = elim c.if-same_region.branch [
        | then-same_region w ↦ whole_if_arrived c.args.way.x c.args.way.y _ _ c.args.was.now c.args.now.now c.in_ok-carried.carried c.in_ok-arrived.arrived c.if-same_region.result w.same_region-then-same_region.result w.result-is (near_same c.args.way.x c.requires.across) (near_same c.args.way.y c.requires.down)
            (c.same_region.ensures.0 w.if-same_region.true) arrived c.in_ok-arrived.ensures.pixels c.canonical-2.ensures w.same_region-then-same_region.ensures
        | else-same_region w ↦ whole_if_carried c.args.way.x c.args.way.y c.args.was.now c.args.now.now c.in_ok-carried.carried c.if-same_region.result c.same_region.result (w.result-is ∙ w.if-same_region.false) w.if-same_region.false carried c.canonical.ensures c.same_region.ensures
      ];
    }
