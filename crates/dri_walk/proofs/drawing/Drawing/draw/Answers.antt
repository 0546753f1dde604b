-- One colour, or those of the corners.
use Rattle.std.proofs.Common.{sym, subst}
use Rattle.dri_base.specs.Planes.{in_rect}
use Rattle.dri_walk.specs.Drawings.{own_colour, pair_by, turned_at}
use Rattle.dri_walk.specs.Surfaces.{PairsBecome, drawn_at}
use Rattle.dri_walk.proofs.drawing.Drawing.draw.Goals as goal

pub returns-in-Some-clause-pairs : goal.returns-in-Some-clause-pairs
returns-in-Some-clause-pairs g c =
    let d = c.args.self.now in
    let s = g.S.Surface in
    subst (λ flat. PairsBecome s.holds c.args.surface.now c.draw_own.new.surface (drawn_at (in_rect c.args.rect.now) c.args.origin (pair_by s.kept d (turned_at d.texture (own_colour flat)) d.blend))) (sym c.in-Some.is) c.draw_own.ensures.pairs

pub returns-in-None-clause-pairs : goal.returns-in-None-clause-pairs
returns-in-None-clause-pairs g c =
    let d = c.args.self.now in
    let s = g.S.Surface in
    subst (λ flat. PairsBecome s.holds c.args.surface.now c.draw_own-in-None.new.surface (drawn_at (in_rect c.args.rect.now) c.args.origin (pair_by s.kept d (turned_at d.texture (own_colour flat)) d.blend))) (sym c.in-None.is) c.draw_own-in-None.ensures.pairs
