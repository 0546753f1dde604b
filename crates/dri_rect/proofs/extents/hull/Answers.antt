use Rattle.std.proofs.Common.{w32, rules, refl}
use Rattle.std.proofs.lemmas.Int.{to_z-of_z}
use mir.Val.{SFits}
use Rattle.dri_rect.proofs.extents.hull.Goals as goal

pub returns : goal.returns
returns c =
    let r0 : SFits w32 c.lesser.result = search rules in
    let r1 : SFits w32 c.lesser-2.result = search rules in
    let r2 : SFits w32 c.greater.result = search rules in
    let r3 : SFits w32 c.greater-2.result = search rules in
    let ax1 : SFits w32 c.args.first.now.x1 = search rules in
    let bx1 : SFits w32 c.args.second.now.x1 = search rules in
    let ay1 : SFits w32 c.args.first.now.y1 = search rules in
    let by1 : SFits w32 c.args.second.now.y1 = search rules in
    let ax2 : SFits w32 c.args.first.now.x2 = search rules in
    let bx2 : SFits w32 c.args.second.now.x2 = search rules in
    let ay2 : SFits w32 c.args.first.now.y2 = search rules in
    let by2 : SFits w32 c.args.second.now.y2 = search rules in
    rw (to_z-of_z w32 _ r0, to_z-of_z w32 _ r1, to_z-of_z w32 _ r2, to_z-of_z w32 _ r3, c.lesser.ensures.value, c.lesser-2.ensures.value, c.greater.ensures, c.greater-2.ensures, to_z-of_z w32 _ ax1, to_z-of_z w32 _ bx1, to_z-of_z w32 _ ay1, to_z-of_z w32 _ by1, to_z-of_z w32 _ ax2, to_z-of_z w32 _ bx2, to_z-of_z w32 _ ay2, to_z-of_z w32 _ by2) refl
