-- The texel in place of the colour, or multiplied with it.
use Rattle.std.proofs.Common.{sym, subst}
use Rattle.dri_base.specs.Planes.{in_rect}
use Rattle.dri_walk.specs.Drawings.{pair_by, turned_at}
use Rattle.dri_walk.specs.Surfaces.{PairsBecome, drawn_at}
use Rattle.dri_walk.proofs.drawing.Drawing.draw_own.Goals as goal

pub returns-in-Replace-clause-pairs : goal.returns-in-Replace-clause-pairs
returns-in-Replace-clause-pairs g c =
    let d = c.args.self.now in
    let s = g.S.Surface in
    subst (λ texture. PairsBecome s.holds c.args.surface.now c.draw_coloured-in-Replace.new.surface (drawn_at (in_rect c.args.rect.now) c.args.origin (pair_by s.kept d (turned_at texture (g.C.Colouring.colours c.args.own.now)) d.blend))) (sym c.in-Replace.is) c.draw_coloured-in-Replace.ensures.pairs

pub returns-in-Modulate-clause-pairs : goal.returns-in-Modulate-clause-pairs
returns-in-Modulate-clause-pairs g c =
    let d = c.args.self.now in
    let s = g.S.Surface in
    subst (λ texture. PairsBecome s.holds c.args.surface.now c.draw_coloured-in-Modulate.new.surface (drawn_at (in_rect c.args.rect.now) c.args.origin (pair_by s.kept d (turned_at texture (g.C.Colouring.colours c.args.own.now)) d.blend))) (sym c.in-Modulate.is) c.draw_coloured-in-Modulate.ensures.pairs
