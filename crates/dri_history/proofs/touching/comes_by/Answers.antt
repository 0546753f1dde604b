-- The rectangles before the move.
use Rattle.std.proofs.Common.{rules, w32, w64}
use Rattle.std.proofs.lemmas.Int.{to_z-of_z}
use mir.Val.{SFits}
use Rattle.dri_history.proofs.touching.comes_by.Goals as goal

pub returns : goal.returns
returns c =
    let across : SFits w32 c.args.carry.now.dx = search rules in
    let down : SFits w32 c.args.carry.now.dy = search rules in
    let column : SFits w64 c.before-column.result = search rules in
    let row : SFits w64 c.before-row.result = search rules in
    rw (c.as_slice.ensures, to_z-of_z w64 c.before-column.result column, to_z-of_z w64 c.before-row.result row, c.before-column.ensures, c.before-row.ensures, to_z-of_z w32 c.args.carry.now.dx across, to_z-of_z w32 c.args.carry.now.dy down) at c.have_pixel.ensures
