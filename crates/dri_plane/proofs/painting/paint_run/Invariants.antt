-- The places so far.
use Rattle.std.proofs.Common.{◌≡◌, ◌≤◌, ◌+◌, ◌-◌, ◌*◌, ℕ, length}
use Rattle.dri_base.specs.declared.colour.Pixel.{Pixel}
use Rattle.dri_plane.specs.Formats.{pair_kept}
use Rattle.dri_plane.specs.Runs.{HoldPairs, grid, run_accesses, run_painted}
use Rattle.dri_plane.proofs.painting.paint_run.Given as goal

abbrev pub invariant-loop-x : goal.invariant-loop-x
invariant-loop-x g l = record {
  ready : g.P.Painter.ready l.painter (l.x - 1);
  paints : g.P.Painter.paints l.painter ≡ g.P.Painter.paints l.fn.painter;
  end : g.P.Painter.end l.painter ≡ l.right;
  colours : length l.colours ≡ length l.fn.colours;
  depths : length l.depths ≡ length l.fn.depths;
  pairs : (f : ℕ → ℕ → Pixel) → HoldPairs (grid l.width l.height (g.F.ColourFormat.all_shown l.fn.colours)) (grid l.width l.height l.fn.depths) f → HoldPairs (grid l.width l.height (g.F.ColourFormat.all_shown l.colours)) (grid l.width l.height l.depths) (run_painted (pair_kept g.F.ColourFormat.shown g.F.ColourFormat.kept) (g.P.Painter.paints l.fn.painter) l.y l.left l.x f);
  accesses : (f : ℕ → ℕ → Pixel) → HoldPairs (grid l.width l.height (g.F.ColourFormat.all_shown l.fn.colours)) (grid l.width l.height l.fn.depths) f → l.steps ≡ l.fn.steps + run_accesses (g.P.Painter.paints l.fn.painter) l.y l.left (l.x - l.left) f;
  cost : l.steps ≤ l.fn.steps + 4 * (l.x - l.left);
}
