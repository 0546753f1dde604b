-- The rectangles so far.
use Rattle.std.proofs.Common.{ℕ, ◌≡◌, ◌+◌, ◌*◌, take}
use Rattle.dri_base.specs.declared.colour.Pixel.{Pixel}
use Rattle.dri_base.specs.declared.colour.Rgb.{Rgb}
use Rattle.dri_base.specs.Planes.{plane}
use Rattle.dri_plane.specs.Moves.{pixel_counts}
use Rattle.dri_flip.specs.Calls.{swapped_in}
use Rattle.dri_flip.proofs.regions.copy_all.Given as goal

abbrev pub invariant-loop-rect : goal.invariant-loop-rect
invariant-loop-rect g l = record {
  shown : (f : ℕ → ℕ → Pixel) (shown : ℕ → ℕ → Rgb) → l.back.pixels ≡ plane l.back.width l.back.height (λ x y. (f x y).colour) → l.fn.front.pixels ≡ plane l.fn.front.width l.fn.front.height shown
      → l.front.pixels ≡ plane l.front.width l.front.height (swapped_in (take l.rect-index l.rects) f shown);
  width : l.front.width ≡ l.fn.front.width;
  height : l.front.height ≡ l.fn.front.height;
  cost : l.steps ≡ l.fn.steps + 2 * pixel_counts (take l.rect-index l.rects);
}
