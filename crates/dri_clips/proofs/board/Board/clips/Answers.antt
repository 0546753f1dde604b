use Rattle.std.proofs.Common.{◌<◌, arith, sym, subst, ◌∙◌, ap}
use Rattle.std.specs.Prelude.{Contains}
use Rattle.dri_base.specs.Ranges.{window_numbers}
use Rattle.dri_clips.specs.Boards.{Screen, shows}
use Rattle.dri_clips.proofs.Lists.{clips_by}
use Rattle.dri_clips.proofs.Placing.{number_below}
use Rattle.dri_clips.proofs.board.Board.clips.Goals as goal

pub index-requires : goal.index-requires
index-requires c =
    let there = subst (λ (v : Screen). Contains (window_numbers v.stack) c.args.window) (sym c.self.view_is) c.requires in
    let low : c.args.window < 65 = number_below c.args.window c.self.inside.layout.stack there.0 there.1 there.2 c.self.invariant.0.ranged in
    omega (arith, low, c.self.invariant.0.room, c.self.inside.layout.clips.ok)

pub returns : goal.returns
returns c =
    let there = subst (λ (v : Screen). Contains (window_numbers v.stack) c.args.window) (sym c.self.view_is) c.requires in
    let low : c.args.window < 65 = number_below c.args.window c.self.inside.layout.stack there.0 there.1 there.2 c.self.invariant.0.ranged in
    λ x y. clips_by c.self.inside.layout c.args.window c.index.result.now c.self.invariant.0 low c.index.ensures x y ∙ ap (λ (v : Screen). shows v.width v.height v.stack c.args.window x y) c.self.view_is
