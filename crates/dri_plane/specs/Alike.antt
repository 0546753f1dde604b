-- Pairs that are equal at each place.
use Rattle.std.specs.Prelude.{◌≡◌, ℕ}
use Rattle.std.proofs.Common.{ap, ◌∙◌}
use Rattle.dri_base.specs.declared.colour.Rgb.{Rgb}
use Rattle.dri_base.specs.declared.colour.Pixel.{Pixel}
use Rattle.dri_plane.specs.Grids.{Grid}
use Rattle.dri_base.proofs.PlaneLists.{plane_same}
use Rattle.dri_plane.specs.Runs.{HoldPairs}

-- pairs that are equal at each place
pub pairs_same : (back : Grid Rgb) (depth : Grid ℕ) (f g : ℕ → ℕ → Pixel) → ((x y : ℕ) → f x y ≡ g x y) → HoldPairs back depth f → HoldPairs back depth g
pairs_same back depth f g same holds = record {
  colours = holds.colours ∙ plane_same back.width back.height _ _ (λ x y lx ly. ap (λ (p : Pixel). p.colour) (same x y));
  depths = holds.depths ∙ plane_same depth.width depth.height _ _ (λ x y lx ly. ap (λ (p : Pixel). p.depth) (same x y));
}
