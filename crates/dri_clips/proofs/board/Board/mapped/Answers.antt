use Rattle.std.proofs.Common.{sym, subst, ◌∙◌, ap}
use Rattle.std.specs.Prelude.{Contains}
use Rattle.dri_base.specs.Ranges.{window_numbers}
use Rattle.dri_clips.specs.Boards.{Screen, is_mapped}
use Rattle.dri_model.specs.Stacks.{window_in}
use Rattle.dri_clips.proofs.Placing.{place_is, placed_below, there, window_at}
use Rattle.dri_clips.proofs.board.Board.mapped.Goals as goal

pub unwrap-at-requires : goal.unwrap-at-requires
unwrap-at-requires c = there c.args.window c.self.inside.layout.stack c.place.result (subst (λ (v : Screen). Contains (window_numbers v.stack) c.args.window) (sym c.self.view_is) c.requires) c.place.ensures.absent

pub window-requires : goal.window-requires
window-requires c = placed_below c.args.window c.unwrap-at.result c.self.inside.layout.stack (place_is c.args.window c.unwrap-at.result c.self.inside.layout.stack c.place.result c.place.ensures.there c.unwrap-at.ensures)

pub returns : goal.returns
returns c =
    let p = place_is c.args.window c.unwrap-at.result c.self.inside.layout.stack c.place.result c.place.ensures.there c.unwrap-at.ensures in
    sym (ap is_mapped (window_at c.args.window c.unwrap-at.result c.self.inside.layout.stack p ∙ c.window.ensures)) ∙ ap (λ (v : Screen). is_mapped (window_in v.stack c.args.window)) c.self.view_is
