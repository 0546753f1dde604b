use Rattle.std.proofs.Common.{◌∙◌, ap}
use Rattle.dri_base.specs.declared.shape.Rect.{Rect}
use Rattle.dri_rect.specs.Pixels.{has_pixel}
use Rattle.dri_clips.proofs.Lists.{bare_layout}
use Rattle.dri_clips.proofs.layout.Layout.bare.Goals as goal

pub returns-clause-layout : goal.returns-clause-layout
returns-clause-layout g c = bare_layout _ c.requires.wide c.requires.high c.empty.ensures c.in_ok-no_clips.ensures (λ x y. c.in_ok-of_rect.ensures.region x y ∙ ap (λ (r : Rect). has_pixel r x y) c.screen.ensures)
