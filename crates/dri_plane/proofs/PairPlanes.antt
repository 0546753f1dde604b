-- A plane of colours and a plane of depths as one plane of pairs.
use Rattle.std.proofs.Common.{◌≡◌, ℕ, ◌<◌, Bool, true, false, if◌then◌else◌, Some, refl, sym, ap, ◌∙◌}
use Rattle.std.proofs.lemmas.Option.{same_Some}
use Rattle.dri_base.specs.declared.colour.Rgb.{Rgb}
use Rattle.dri_base.specs.declared.colour.Pixel.{Pixel}
use Rattle.dri_base.specs.Planes.{plane, at}
use Rattle.dri_plane.specs.Grids.{Grid, Becomes}
use Rattle.dri_base.proofs.PlaneLists.{plane_same, plane_at}
use Rattle.dri_plane.specs.Runs.{HoldPairs}

-- a part of a pair that is written where so
part_if : {A : Type 0} (part : Pixel → A) (b : Bool) (new old : Pixel) → (if b then part new else part old) ≡ part (if b then new else old)
part_if part true new old = refl
part_if part false new old = refl

-- a plane whose part is written at some places
part_written : {A : Type 0} (part : Pixel → A) (old new : Grid A) (places : ℕ → ℕ → Bool) (pixel : Pixel) (f : ℕ → ℕ → Pixel)
    → new.width ≡ old.width → new.height ≡ old.height → Becomes old new (λ g x y. if places x y then part pixel else g x y)
    → old.pixels ≡ plane old.width old.height (λ x y. part (f x y))
    → new.pixels ≡ plane new.width new.height (λ x y. part (if places x y then pixel else f x y))
part_written part old new places pixel f wide high becomes holds =
    rw (wide, high) (becomes (λ a b. part (f a b)) holds ∙ plane_same old.width old.height _ _ (λ x y lx ly. part_if part (places x y) pixel (f x y)))

-- a pair that is written at some places
pub pairs_written : (back back' : Grid Rgb) (depth depth' : Grid ℕ) (places : ℕ → ℕ → Bool) (pixel : Pixel) (f : ℕ → ℕ → Pixel)
    → (back'.width ≡ back.width) × (back'.height ≡ back.height) → (depth'.width ≡ depth.width) × (depth'.height ≡ depth.height)
    → Becomes back back' (λ g x y. if places x y then pixel.colour else g x y) → Becomes depth depth' (λ g x y. if places x y then pixel.depth else g x y)
    → HoldPairs back depth f → HoldPairs back' depth' (λ x y. if places x y then pixel else f x y)
pairs_written back back' depth depth' places pixel f sb sd becomes deepens holds = record {
  colours = part_written (λ p. p.colour) back back' places pixel f sb.0 sb.1 becomes holds.colours;
  depths = part_written (λ p. p.depth) depth depth' places pixel f sd.0 sd.1 deepens holds.depths;
}

-- what a plane has at a place
read : {A : Type 0} (g : Grid A) (f : ℕ → ℕ → A) (x y : ℕ) (v : A) → x < g.width → y < g.height → g.pixels ≡ plane g.width g.height f → at g.width g.pixels x y ≡ Some v → v ≡ f x y
read g f x y v column row holds is = same_Some v (f x y) (sym is ∙ ap (λ ps. at g.width ps x y) holds ∙ plane_at g.width g.height f x y column row)

-- the pair at a place
pub pair_read : (back : Grid Rgb) (depth : Grid ℕ) (f : ℕ → ℕ → Pixel) (x y : ℕ) (colour : Rgb) (z : ℕ) → (x < back.width) × (x < depth.width) → (y < back.height) × (y < depth.height)
    → HoldPairs back depth f → at back.width back.pixels x y ≡ Some colour → at depth.width depth.pixels x y ≡ Some z → record { colour = colour; depth = z } ≡ f x y
pair_read back depth f x y colour z column row holds is deep =
    let c = read back (λ a b. (f a b).colour) x y colour column.0 row.0 holds.colours is in
    let d = read depth (λ a b. (f a b).depth) x y z column.1 row.1 holds.depths deep in
    λ i. record { colour = c i; depth = d i }
