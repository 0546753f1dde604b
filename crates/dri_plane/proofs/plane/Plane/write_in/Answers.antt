use Rattle.std.proofs.Common.{◌∙◌, sym, ap, length, refl, w32}
use Rattle.std.proofs.lemmas.Int.{to_z-of_z}
use Rattle.dri_base.proofs.PlaneLists.{became}
use Rattle.dri_plane.specs.Moves.{laid}
use Rattle.dri_plane.proofs.plane.Plane.write_in.Goals as goal

pub returns-clause-pixels : goal.returns-clause-pixels
returns-clause-pixels g c = λ v pieces f was.
    let self = c.args.self.now in
    let side = ap (λ p. p.width) c.self.view_is in
    let rows = ap (λ p. p.height) c.self.view_is in
    let items = ap (λ p. p.pixels) c.self.view_is in
    let whole = ap length c.as_mut_slice.ensures.value ∙ c.self.invariant.whole ∙ rw (side, rows) refl in
    let same_dx = to_z-of_z w32 c.args.dx c.ranges.dx in
    let same_dy = to_z-of_z w32 c.args.dy c.ranges.dy in
    became self.width self.height c.self.inside.width c.self.inside.pixels.len self.pixels c.as_mut_slice.result.now c.write_rects.new.pixels _ f (laid c.args.rects.now c.args.dx c.args.dy v f)
    side (c.as_mut_slice.ensures.value ∙ items) whole c.write_rects.ensures.len (sym c.as_mut_slice.ensures.len) was
    (λ own. rw (same_dx, same_dy) at (c.write_rects.ensures.pixels f v own (c.as_slice.ensures.value ∙ ap (λ p. p.pixels) c.from.view_is ∙ pieces)))
