-- How large a texture can be, and where it can lie.
use Rattle.std.proofs.Common.{◌≡◌, ◌≤◌, ◌<◌, ◌+◌, ◌*◌, ℕ, true, arith}
use Rattle.std.specs.Prelude.{nat_le}
use Rattle.std.proofs.Math.Nat.{mul-le-mul_right, le-mul_of_pos_right}
use Rattle.std.proofs.lemmas.Bool.{and_parts}
use Rattle.std.proofs.lemmas.Bool.Decides.{nat_tests}
use Rattle.dri_base.specs.Ranges.{InRange, heap_bytes}
use Rattle.dri_base.specs.Scenes.{texel_bytes}
use Rattle.dri_base.specs.declared.scene.Scene.{Scene}
use Rattle.dri_base.specs.declared.texture.TexFormat.{TexFormat}
use Rattle.dri_base.specs.declared.texture.TexFormat.TheVariants.{L8, Rgb565}
use Rattle.dri_base.proofs.RegionSizes.{region_size_within}
use Rattle.dri_core.specs.TextureSizes.{most_memory}
use Rattle.dri_model.specs.Heaps.{Heap, classes_for, fits, is_place_for}

-- all regions together have at most the most bytes
pub heap_small : (s : Scene) → InRange s → heap_bytes s ≤ most_memory
heap_small s good =
    let few : s.regions * s.region_size ≤ 64 * s.region_size = mul-le-mul_right s.region_size good.card.regions.1 in
    let small = (region_size_within s.region_size good.card.sized).1 in
    omega (arith, few, small)

-- a texture has bytes
pub some_bytes : (f : TexFormat) (w h n : ℕ) → n ≡ texel_bytes f * (w * h) → 1 ≤ w → 1 ≤ h → 0 < n
some_bytes L8 w h n e lw lh = let high : 0 < h = omega (arith, lh) in omega (arith, e, lw, le-mul_of_pos_right w high)
some_bytes Rgb565 w h n e lw lh = let high : 0 < h = omega (arith, lh) in omega (arith, e, lw, le-mul_of_pos_right w high)

-- a place of the heap's rule lies inside
pub place_inside : (n : ℕ) (h : Heap) (count first : ℕ) → is_place_for n h count first ≡ true → first + count ≤ n
place_inside n h count first e = place n h (classes_for n h count) count first (and_parts _ _ e).1
  where
    place : (n : ℕ) (h : Heap) (m count first : ℕ) → fits n h m count first ≡ true → first + count ≤ n
    place n h m count first f = let low : nat_le (first + count) n ≡ true = (and_parts (nat_le (first + count) n) _ f).0 in grind (arith, nat_tests)
