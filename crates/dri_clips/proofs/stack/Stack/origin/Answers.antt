use Rattle.std.proofs.Common.{sym, w32, rules}
use Rattle.std.proofs.lemmas.Int.{to_z-of_z}
use mir.Val.{SFits}
use Rattle.dri_clips.proofs.Placing.{origin_absent, origin_at, placed_below}
use Rattle.dri_clips.proofs.stack.Stack.origin.Goals as goal

pub returns-in_default : goal.returns-in_default
returns-in_default c = sym (origin_absent c.args.number _ c.in_default.ensures.absent)

pub window-window-requires : goal.window-window-requires
window-window-requires c = placed_below _ _ _ c.in-Some.ensures.there

pub returns : goal.returns
returns c =
    let f : SFits w32 c.window-window.result.x = search rules in
    let g : SFits w32 c.window-window.result.y = search rules in
    rw (to_z-of_z w32 c.window-window.result.x f, to_z-of_z w32 c.window-window.result.y g) (sym (origin_at c.args.number c.in-Some.at c.args.self.now c.window-window.result c.in-Some.ensures.there c.window-window.ensures))
