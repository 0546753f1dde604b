-- The card's call isn't refused.
use Rattle.std.proofs.Common.{rules, w32}
use Rattle.std.proofs.lemmas.Int.{to_z-of_z}
use mir.Val.{SFits}
use Rattle.dri_ring.proofs.engine.carry_on.Goals as goal

pub unwrap-requires : goal.unwrap-requires
unwrap-requires g c =
    let across : SFits w32 c.args.dx = search rules in
    let down : SFits w32 c.args.dy = search rules in
    c.carry.ensures.stay.1 (rw (to_z-of_z w32 c.args.dx across, to_z-of_z w32 c.args.dy down) c.requires.stay)
