-- The places so far.
use Rattle.std.proofs.Common.{◌≡◌, ◌≤◌, ◌+◌, ◌-◌, ◌*◌, ℕ}
use Rattle.dri_base.specs.declared.colour.Pixel.{Pixel}
use Rattle.dri_meaning.specs.Canvases.{HasPairs}
use Rattle.dri_walk.specs.Surfaces.{run_painted}
use Rattle.dri_meaning.proofs.canvas.CanvasSurface.draw_run.Given as goal

abbrev pub invariant-loop-x : goal.invariant-loop-x
invariant-loop-x g l = record {
  ready : g.P.Painter.ready l.painter (l.x - 1);
  paints : g.P.Painter.paints l.painter ≡ g.P.Painter.paints l.fn.painter;
  end : g.P.Painter.end l.painter ≡ l.right;
  width : l.self.pairs.width ≡ l.fn.self.pairs.width;
  height : l.self.pairs.height ≡ l.fn.self.pairs.height;
  pairs : (f : ℕ → ℕ → Pixel) → HasPairs l.fn.self.pairs f → HasPairs l.self.pairs (run_painted (λ p. p) (g.P.Painter.paints l.fn.painter) l.y l.left l.x f);
  cost : l.steps ≤ l.fn.steps + 4 * (l.x - l.left);
}
