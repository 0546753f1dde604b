-- The rows between the corners hold what is covered of the rectangle.
use Rattle.std.proofs.Common.{arith}
use Rattle.dri_walk.specs.Drawings.{pair_by}
use Rattle.dri_walk.specs.Surfaces.{drawn_at}
use Rattle.dri_base.specs.Planes.{in_rect}
use Rattle.dri_walk.proofs.Counts.{fewer_places}
use Rattle.dri_walk.proofs.Painting.{becomes_alike, held_same}
use Rattle.dri_walk.proofs.drawing.Drawing.draw_rows.Goals as goal

pub returns-clause-pairs : goal.returns-clause-pairs
returns-clause-pairs g c =
    let s = g.S.Surface in
    let d = c.args.self.now in
    let colours = g.C.Colouring.colours c.args.colouring.now in
    becomes_alike s.holds g.met.S.Surface.alike c.args.surface.now c.draw_framed.new.surface
    (drawn_at (in_rect c.framed-framed.result) c.args.origin (pair_by s.kept d colours g.B.Blending.blend))
    (drawn_at (in_rect c.args.rect.now) c.args.origin (pair_by s.kept d colours g.B.Blending.blend))
    (held_same s.kept d colours g.B.Blending.blend c.args.origin c.framed-framed.result c.args.rect.now c.framed-framed.ensures.same)
    c.draw_framed.ensures.pairs

pub returns-clause-bound : goal.returns-clause-bound
returns-clause-bound g c =
    let f = c.framed-framed.ensures in
    let cost = c.draw_framed.ensures.bound in
    let fewer = fewer_places c.args.self.now.setup c.args.rect.now c.framed-framed.result c.args.origin (omega (arith, f.left)) (omega (arith, f.right)) f.top f.inside.bottom in
    omega (arith, cost, fewer)
