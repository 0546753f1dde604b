-- The rectangles so far.
use Rattle.std.proofs.Common.{ℕ, ◌≡◌, ◌≤◌, ◌+◌, ◌*◌, take}
use Rattle.std.specs.List.{sum_by}
use Rattle.dri_base.specs.declared.colour.Pixel.{Pixel}
use Rattle.dri_model.specs.Words.{card_image, rules_in}
use Rattle.dri_plane.specs.Runs.{HoldPairs}
use Rattle.dri_walk.specs.Clips.{covered_places}
use Rattle.dri_walk.specs.Samplings.{byte_in}
use Rattle.dri_flip.specs.Calls.{drawn_in}
use Rattle.dri_flip.proofs.regions.draw_all.Given as goal

abbrev pub invariant-loop-rect : goal.invariant-loop-rect
invariant-loop-rect g l = record {
  pairs : (f : ℕ → ℕ → Pixel) → HoldPairs l.fn.target.back l.fn.target.depth f
      → HoldPairs l.target.back l.target.depth (drawn_in (take l.rect-index l.rects) l.fn.origin (rules_in l.fn.registers) (card_image (byte_in l.fn.memory) l.fn.registers.bound) l.fn.triangle f);
  width : l.target.back.width ≡ l.fn.target.back.width;
  height : l.target.back.height ≡ l.fn.target.back.height;
  cost : l.steps ≤ l.fn.steps + 4 * sum_by (λ r. covered_places l.fn.triangle r l.fn.origin) (take l.rect-index l.rects);
}
