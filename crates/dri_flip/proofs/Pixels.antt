-- Planes as functions of their places.
use Rattle.std.proofs.Common.{◌≡◌, ℕ, ◌+◌, ◌*◌, ◌<◌, length, get_or, true, if◌then◌else◌, refl, sym, ◌∙◌, ap, arith}
use Rattle.std.proofs.lemmas.Bool.Decides.{nat_tests}
use Rattle.std.proofs.lemmas.Nat.{div-add-mod'}
use Rattle.dri_base.specs.declared.colour.Rgb.{Rgb}
use Rattle.dri_base.specs.declared.colour.Pixel.{Pixel}
use Rattle.dri_base.specs.declared.shape.ClipRect.{ClipRect}
use Rattle.dri_base.specs.Planes.{plane, in_rect}
use Rattle.dri_base.proofs.PlaneLists.{pixels_by_all, plane_same}
use Rattle.dri_plane.specs.Grids.{Grid, Becomes}
use Rattle.dri_plane.specs.Runs.{HoldPairs}

-- the pixel that a plane has at a place
abbrev pub own : {A : Type 0} → Grid A → A → ℕ → ℕ → A
own g d x y = get_or g.pixels (y * g.width + x) d

-- a plane is one of its own pixels
pub plane_own : {A : Type 0} (g : Grid A) (d : A) → length g.pixels ≡ g.width * g.height → g.pixels ≡ plane g.width g.height (own g d)
plane_own g d whole = pixels_by_all g.width (own g d) (g.width * g.height) g.pixels d whole (λ k within. ap (λ n. get_or g.pixels n d) (sym (div-add-mod' k g.width)))

-- a colour, where none is asked for
abbrev pub black : Rgb
black = record { r = 0; g = 0; b = 0 }

-- the pair that two planes have at a place
abbrev pub own_pair : Grid Rgb → Grid ℕ → ℕ → ℕ → Pixel
own_pair back depth x y = record { colour = own back black x y; depth = own depth 0 x y }

pub pairs_own : (back : Grid Rgb) (depth : Grid ℕ) → length back.pixels ≡ back.width * back.height → length depth.pixels ≡ depth.width * depth.height → HoldPairs back depth (own_pair back depth)
pairs_own back depth whole deep = record { colours = plane_own back black whole; depths = plane_own depth 0 deep }

-- pairs that are equal at each place of the planes
pub pairs_within : (back : Grid Rgb) (depth : Grid ℕ) (f g : ℕ → ℕ → Pixel) → depth.width ≡ back.width → depth.height ≡ back.height → ((x y : ℕ) → x < back.width → y < back.height → f x y ≡ g x y) → HoldPairs back depth f → HoldPairs back depth g
pairs_within back depth f g wide high same holds = record {
  colours = holds.colours ∙ plane_same back.width back.height _ _ (λ x y lx ly. ap (λ (p : Pixel). p.colour) (same x y lx ly));
  depths = holds.depths ∙ plane_same depth.width depth.height _ _ (λ x y lx ly. ap (λ (p : Pixel). p.depth) (same x y (omega (arith, wide, lx)) (omega (arith, high, ly))));
}

-- two planes with the same sides and pixels are one
pub same_grid : {A : Type 0} (g h : Grid A) → g.width ≡ h.width → g.height ≡ h.height → g.pixels ≡ h.pixels → g ≡ h
same_grid g h wide high pixels = λ i. record { width = wide i; height = high i; pixels = pixels i }

-- a plane that is copied whole
pub copied : {A : Type 0} (from old new : Grid A) (rect : ClipRect) (d : A) → length from.pixels ≡ from.width * from.height → length old.pixels ≡ old.width * old.height → from.width ≡ old.width → from.height ≡ old.height → new.width ≡ old.width → new.height ≡ old.height
    → rect ≡ record { x1 = 0; y1 = 0; x2 = old.width; y2 = old.height }
    → ((source : ℕ → ℕ → A) → from.pixels ≡ plane from.width from.height source → Becomes old new (λ f x y. if in_rect rect x y then source x y else f x y)) → new ≡ from
copied from old new rect d whole whole' wide high wide' high' is becomes = same_grid new from (wide' ∙ sym wide) (high' ∙ sym high)
    (becomes (own from d) (plane_own from d whole) (own old d) (plane_own old d whole') ∙ plane_same old.width old.height _ _ each ∙ rw (sym wide, sym high) (sym (plane_own from d whole)))
  where
    within : (x y : ℕ) → x < old.width → y < old.height → in_rect rect x y ≡ true
    within x y lx ly = rw is (grind (arith, nat_tests, lx, ly))

    each : (x y : ℕ) → x < old.width → y < old.height → (if in_rect rect x y then own from d x y else own old d x y) ≡ own from d x y
    each x y lx ly = rw (within x y lx ly) refl
