use Rattle.std.proofs.Common.{sym, subst, arith, ◌<◌}
use Rattle.std.specs.Prelude.{Contains}
use Rattle.std.proofs.lemmas.List.{get_or_default}
use Rattle.dri_base.specs.Ranges.{window_numbers}
use Rattle.dri_clips.specs.Boards.{Screen}
use Rattle.dri_clips.proofs.Placing.{number_below}
use Rattle.dri_clips.proofs.board.Board.stamp.Goals as goal

pub bounds-self-inside-window : goal.bounds-self-inside-window
bounds-self-inside-window c =
    let there = subst (λ (v : Screen). Contains (window_numbers v.stack) c.args.window) (sym c.self.view_is) c.requires in
    number_below c.args.window c.self.inside.layout.stack there.0 there.1 there.2 c.self.invariant.0.ranged

pub returns : goal.returns
returns c =
    let there = subst (λ (v : Screen). Contains (window_numbers v.stack) c.args.window) (sym c.self.view_is) c.requires in
    let low : c.args.window < 65 = number_below c.args.window c.self.inside.layout.stack there.0 there.1 there.2 c.self.invariant.0.ranged in
    rw (← c.self.view_is) (get_or_default c.self.inside.stamps c.args.window 0 1 (omega (arith, c.self.invariant.1, low)))
