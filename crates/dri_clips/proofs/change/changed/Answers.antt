use Rattle.std.proofs.Common.{◌≡◌, ◌<◌, arith, length, ap, ◌∙◌}
use Rattle.std.proofs.lemmas.List.{length-set}
use Rattle.dri_clips.proofs.Placing.{placed_below}
use Rattle.dri_clips.proofs.Restacking.{changed_at, destination_below}
use Rattle.dri_clips.proofs.change.changed.Goals as goal

pub window-window-requires : goal.window-window-requires
window-window-requires c = placed_below _ _ _ c.requires

pub replace-requires-clause-there : goal.replace-requires-clause-there
replace-requires-clause-there c = placed_below _ _ _ c.requires

pub move_to-requires-clause-from : goal.move_to-requires-clause-from
move_to-requires-clause-from c =
    let e : length c.replace.new.self ≡ length c.args.stack.now = ap length c.replace.ensures ∙ length-set c.args.stack.now c.args.at c.altered.result in
    let b : c.args.at < length c.args.stack.now = placed_below _ _ _ c.requires in
    omega arith

pub move_to-requires-clause-to : goal.move_to-requires-clause-to
move_to-requires-clause-to c =
    let e : length c.replace.new.self ≡ length c.args.stack.now = ap length c.replace.ensures ∙ length-set c.args.stack.now c.args.at c.altered.result in
    rw (e, c.destination.ensures, c.len-last.ensures.len) (destination_below c.args.change.now c.args.at (length c.args.stack.now) (placed_below _ _ _ c.requires))

pub returns : goal.returns
returns c =
    rw (c.move_to.ensures, c.replace.ensures, c.altered.ensures, c.destination.ensures, c.len-last.ensures.len)
    (changed_at c.args.change.now c.args.at c.args.stack.now c.window-window.result c.requires c.len-last.ensures.apart c.window-window.ensures)
