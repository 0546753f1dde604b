-- The triangle is drawn in the clip and the scissor.
use Rattle.std.proofs.Common.{◌≤◌, ◌+◌, ◌*◌, subst, arith}
use Rattle.dri_model.specs.Words.{card_image, rules_in}
use Rattle.dri_base.specs.Planes.{in_rect}
use Rattle.dri_walk.specs.Clips.{covered_places}
use Rattle.dri_walk.specs.Drawings.{after_drawing, pair_left}
use Rattle.dri_walk.specs.Samplings.{byte_in}
use Rattle.dri_walk.specs.Surfaces.{drawn_at}
use Rattle.dri_walk.proofs.Counts.{fewer_places}
use Rattle.dri_walk.proofs.Painting.{becomes_alike}
use Rattle.dri_walk.proofs.PixelRules.{triangle_drawn}
use Rattle.dri_walk.proofs.drawing.draw_triangle.Goals as goal

pub returns-in-Some-clause-pairs : goal.returns-in-Some-clause-pairs
returns-in-Some-clause-pairs g c =
    let s = g.S.Surface in
    let r = c.args.registers.now in
    let t = c.args.triangle.now in
    let image = card_image (byte_in c.args.memory.now) r.bound in
    becomes_alike s.holds g.met.S.Surface.alike c.args.surface.now c.draw.new.surface
    (drawn_at (in_rect c.narrowed-rect.result) c.args.origin (pair_left s.kept c.in-Some.drawing))
    (after_drawing s.kept (rules_in r) image t c.args.clip.now c.args.origin)
    (triangle_drawn s.kept r image t c.args.clip.now c.narrowed-rect.result c.args.origin (pair_left s.kept c.in-Some.drawing) (c.in-Some.ensures.some s.kept) c.narrowed-rect.ensures.places)
    c.draw.ensures.pairs

pub returns-in-Some-clause-bound : goal.returns-in-Some-clause-bound
returns-in-Some-clause-bound g c =
    let n = c.narrowed-rect.ensures in
    let cost = subst (λ t. c.draw.new.steps ≤ c.args.steps.now + 4 * covered_places t c.narrowed-rect.result c.args.origin) c.in-Some.ensures.setup c.draw.ensures.bound in
    let fewer = fewer_places c.args.triangle.now c.args.clip.now c.narrowed-rect.result c.args.origin n.left n.inside.right n.top n.inside.bottom in
    omega (arith, cost, fewer)
