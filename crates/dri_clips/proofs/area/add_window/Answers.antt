use Rattle.std.proofs.Common.{ap, sym, ◌∙◌}
use Rattle.std.proofs.lemmas.Result.{IfOk-weaker}
use Rattle.dri_base.specs.declared.shape.Rect.{Rect}
use Rattle.dri_rect.specs.Extents.{shared_by}
use Rattle.dri_clips.proofs.Areas.{added}
use Rattle.dri_clips.proofs.area.add_window.Goals as goal

pub returns-clause-region : goal.returns-clause-region
returns-clause-region g c = IfOk-weaker c.unite.result _ _ (λ region e. added _ c.args.screen.now c.shared.result c.args.window.now c.args.area c.in_ok-rect.rect region (sym c.names.ensures ∙ c.if-not-names.false) c.if-not-window.false (c.shared.ensures ∙ ap (λ (r : Rect). shared_by c.args.screen.now r) c.rect_of.ensures) c.in_ok-rect.ensures.region e) c.unite.ensures.region
