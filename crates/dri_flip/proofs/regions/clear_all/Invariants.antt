-- The rectangles so far.
use Rattle.std.proofs.Common.{ℕ, ◌≡◌, ◌+◌, ◌*◌, take}
use Rattle.dri_base.specs.declared.colour.Pixel.{Pixel}
use Rattle.dri_plane.specs.Moves.{pixel_counts}
use Rattle.dri_plane.specs.Runs.{HoldPairs}
use Rattle.dri_flip.specs.Calls.{cleared_in}
use Rattle.dri_flip.proofs.regions.clear_all.Given as goal

abbrev pub invariant-loop-rect : goal.invariant-loop-rect
invariant-loop-rect g l = record {
  pairs : (f : ℕ → ℕ → Pixel) → HoldPairs l.fn.target.back l.fn.target.depth f → HoldPairs l.target.back l.target.depth (cleared_in (take l.rect-index l.rects) l.fn.colour l.fn.depth f);
  width : l.target.back.width ≡ l.fn.target.back.width;
  height : l.target.back.height ≡ l.fn.target.back.height;
  cost : l.steps ≡ l.fn.steps + 2 * pixel_counts (take l.rect-index l.rects);
}
