-- The rows so far.
use Rattle.std.proofs.Common.{◌≡◌, ◌≤◌, ◌+◌, ◌*◌}
use Rattle.dri_walk.specs.Clips.{covered_places}
use Rattle.dri_walk.specs.Drawings.{pair_by}
use Rattle.dri_walk.specs.Surfaces.{PairsBecome, drawn_at}
use Rattle.dri_walk.proofs.Painting.{rows_before}
use Rattle.dri_walk.proofs.drawing.Drawing.draw_framed.Given as goal

abbrev pub invariant-loop-y : goal.invariant-loop-y
invariant-loop-y g l = record {
  width : g.S.Surface.width l.surface ≡ g.S.Surface.width l.fn.surface;
  height : g.S.Surface.height l.surface ≡ g.S.Surface.height l.fn.surface;
  pairs : PairsBecome g.S.Surface.holds l.fn.surface l.surface (drawn_at (rows_before l.rect l.y) l.origin (pair_by g.S.Surface.kept l.self (g.C.Colouring.colours l.colouring) g.B.Blending.blend));
  bound : l.steps + 4 * covered_places l.self.setup (record l.rect { y1 = l.y }) l.origin ≤ l.fn.steps + 4 * covered_places l.self.setup l.rect l.origin;
}
