-- Blocks and regions, by numbers.
use Rattle.std.proofs.Common.{◌≡◌, ◌<◌, ◌≤◌, ◌+◌, ◌*◌, ◌/◌, ℕ, true, arith}
use Rattle.std.proofs.lemmas.Bool.Decides.{nat_tests}
use Rattle.std.proofs.Math.Nat.{div-eq_of_lt-le, div-lt_iff_lt-mul, div-mul-le_self, lt-div-mul-add}
use Rattle.dri_base.specs.Scenes.{regions_for}
use Rattle.dri_model.specs.Shares.{blocks_for, is_small_for}

small_parts : (size bytes : ℕ) → is_small_for size bytes ≡ true → (0 < bytes) × (2 * bytes ≤ size)
small_parts size bytes small = grind (arith, nat_tests)

-- a small texture takes one region
pub small_one : (size bytes : ℕ) → is_small_for size bytes ≡ true → regions_for size bytes ≡ 1
small_one size bytes small = let h = small_parts size bytes small in div-eq_of_lt-le size (omega (arith, h.0, h.1)) (omega (arith, h.0, h.1))

-- no more blocks than a region has
pub small_blocks : (size bytes : ℕ) → 256 ≤ size → is_small_for size bytes ≡ true → blocks_for bytes ≤ size / 64
small_blocks size bytes large small = let few : blocks_for bytes < size / 64 + 1 = (div-lt_iff_lt-mul {k = 64} sixty_four).1 (omega (arith, h.1, above, large)) in omega (arith, few)
  where
    h : (0 < bytes) × (2 * bytes ≤ size)
    h = small_parts size bytes small

    sixty_four : 0 < 64
    sixty_four = omega arith

    above : size < size / 64 * 64 + 64
    above = lt-div-mul-add sixty_four

-- its bytes lie in its blocks
pub in_blocks : (bytes n : ℕ) → n < bytes → n < 64 * blocks_for bytes
in_blocks bytes n lt = omega (arith, lt, above)
  where
    sixty_four : 0 < 64
    sixty_four = omega arith

    above : bytes + 63 < (bytes + 63) / 64 * 64 + 64
    above = lt-div-mul-add sixty_four

-- a byte of a block below a region's end lies in the region
pub in_region : (size first block blocks bytes n : ℕ) → block + blocks ≤ size / 64 → blocks ≡ blocks_for bytes → n < bytes → (first * size + 64 * block + n) / size ≡ first
in_region size first block blocks bytes n fits same lt = div-eq_of_lt-le size (omega arith) (omega (arith, below, shape))
  where
    whole : size / 64 * 64 ≤ size
    whole = div-mul-le_self size 64

    inner : n < 64 * blocks_for bytes
    inner = in_blocks bytes n lt

    below : 64 * block + n < size
    below = omega (arith, whole, inner, fits, same)

    shape : (first + 1) * size ≡ first * size + size
    shape = omega arith
