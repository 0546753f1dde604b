-- What is placed, and what is shared, stays inside the regions.
use Rattle.std.proofs.Common.{◌≡◌, ◌<◌, ◌≤◌, ◌+◌, ◌*◌, ℕ, Bool, false, true, Some, arith, subst, sym, ap, ◌∙◌, inl, inr}
use Rattle.std.specs.Prelude.{◌==◌, ◌⊎◌, if◌then◌else◌, nat_lt}
use Rattle.std.proofs.lemmas.Bool.Decides.{nat_tests}
use Rattle.std.proofs.Math.Nat.{le-div_iff_mul-le}
use Rattle.dri_core.proofs.Packing.{kept_level, level_cases}
use Rattle.dri_model.proofs.SharedRooms.{found_is}
use Rattle.dri_model.specs.Heaps.{Spot, lose}
use Rattle.dri_model.specs.Shares.{IsRoomFor, levels_after, lose_levels, room_for}
use Rattle.dri_texheap.specs.Placements.{AreInside, Placements, levels_of, placed_of}
use Rattle.dri_texheap.specs.RegionStates.{IsInside}
use Rattle.dri_texheap.proofs.Losing.{each_lost, each_set}

-- where some is lost
pub lost_inside : (n : ℕ) (has : ℕ → Bool) (p l : Placements) → AreInside n p → placed_of l ≡ (λ t. lose has (placed_of p t)) → levels_of l ≡ lose_levels has (levels_of p) → AreInside n l
lost_inside n has p l inside placed levels = record {
  placed = each_lost (λ spot. IsInside n spot.run) has (placed_of p) (placed_of l) inside.placed placed;
  shared = λ k level e. inside.shared k level (kept_level has (levels_of p) k level (sym (ap (λ f. f k) levels) ∙ e)).0;
}

-- where a texture is placed
pub set_inside : (n : ℕ) (p l : Placements) (t : ℕ) (spot : Spot) (blocks : ℕ) → AreInside n p → IsInside n spot.run → (0 < blocks → spot.run.first < n)
    → placed_of l ≡ (λ u. if u == t then Some spot else placed_of p u) → levels_of l ≡ levels_after (levels_of p) (λ k. false) (nat_lt 0 blocks) spot blocks → AreInside n l
set_inside n p l t spot blocks inside run first placed levels = record {
  placed = each_set (λ s. IsInside n s.run) (placed_of p) (placed_of l) t spot inside.placed run placed;
  shared = λ k level e. by_level k level (level_cases (levels_of p) (λ j. false) (nat_lt 0 blocks) spot blocks k level (sym (ap (λ f. f k) levels) ∙ e));
}
  where
    by_level : (k level : ℕ) → ((nat_lt 0 blocks ≡ true) × (k ≡ spot.run.first) × (level ≡ spot.block + blocks)) ⊎ ((levels_of p k ≡ Some level) × (false ≡ false) × (nat_lt 0 blocks ≡ true → k ≡ spot.run.first → ⊥)) → k < n
    by_level k level (inl x) = let some : 0 < blocks = grind (arith, nat_tests, x.0) in subst (λ j. j < n) (sym x.1) (first some)
    by_level k level (inr x) = inside.shared k level x.0

-- a room stands in a region that is shared, at a block of it
pub record StandsInside (n size : ℕ) (spot : Spot) (blocks : ℕ) : Type 0 where
  pub run : IsInside n spot.run
  pub first : spot.run.first < n
  pub block : spot.block ≤ 1024
  pub fits : spot.block + blocks ≤ 1024

pub room_inside : (n size blocks : ℕ) (p : Placements) (spot : Spot) → AreInside n p → size ≤ 65536 → room_for size (levels_of p) blocks ≡ Some spot → StandsInside n size spot blocks
room_inside n size blocks p spot inside sized room = record {
  run = omega (arith, below, is.one);
  first = below;
  block = omega (arith, whole);
  fits = whole;
}
  where
    is : IsRoomFor size (levels_of p) blocks spot
    is = found_is size (levels_of p) blocks spot room

    below : spot.run.first < n
    below = inside.shared spot.run.first spot.block is.level

    scaled : (spot.block + blocks) * 64 ≤ size
    scaled = (le-div_iff_mul-le {k = 64} {x = spot.block + blocks} {y = size} (omega arith)).0 is.fits

    whole : spot.block + blocks ≤ 1024
    whole = omega (arith, scaled, sized)
