-- Small textures, and the regions that they share: by a region's number its level, which is the number of its blocks that are taken.
use Rattle.std.specs.Prelude.{◌≡◌, ◌<◌, ◌≤◌, ℕ, ◌+◌, ◌*◌, ◌/◌, Bool, false, ◌==◌, ◌&&◌, nat_lt, nat_le, if◌then◌else◌, Option, Some, None}
use Rattle.dri_model.specs.Counting.{least}
use Rattle.dri_model.specs.Heaps.{Spot}

-- so many bytes are small, with regions of so many: at most half of one
abbrev pub is_small_for : ℕ → ℕ → Bool
is_small_for size bytes = nat_lt 0 bytes && nat_le (2 * bytes) size

-- the blocks of 64 bytes that so many bytes take: divided by 64 and rounded up
abbrev pub blocks_for : ℕ → ℕ
blocks_for bytes = (bytes + 63) / 64

-- above the level, where there is one, is room for so many blocks
abbrev pub fits_above : ℕ → ℕ → Option ℕ → Bool
fits_above size blocks None = false
fits_above size blocks (Some level) = nat_le (level + blocks) (size / 64)

-- the shared region with the lowest number that has room for so many blocks; 64 where none has, since there are no more regions than that
abbrev pub lowest_shared : ℕ → (ℕ → Option ℕ) → ℕ → ℕ
lowest_shared size levels blocks = least (λ k. fits_above size blocks (levels k)) 64

-- the spot above the level of region k, where it has one
abbrev pub spot_above : ℕ → Option ℕ → Option Spot
spot_above k None = None
spot_above k (Some level) = Some (record { run = record { first = k; count = 1 }; block = level })

-- where there is room for so many blocks in the shared regions
abbrev pub room_for : ℕ → (ℕ → Option ℕ) → ℕ → Option Spot
room_for size levels blocks =
    if nat_lt (lowest_shared size levels blocks) 64
    then spot_above (lowest_shared size levels blocks) (levels (lowest_shared size levels blocks))
    else None

-- the spot is the room for so many blocks: above the level of the shared region with the lowest number where they fit
pub record IsRoomFor (size : ℕ) (levels : ℕ → Option ℕ) (blocks : ℕ) (room : Spot) : Type 0 where
  pub level : levels room.run.first ≡ Some room.block
  pub fits : room.block + blocks ≤ size / 64
  pub one : room.run.count ≡ 1
  pub lowest : (k : ℕ) → k < room.run.first → fits_above size blocks (levels k) ≡ false

-- the levels without the regions that have the property
abbrev pub lose_levels : (ℕ → Bool) → (ℕ → Option ℕ) → ℕ → Option ℕ
lose_levels has levels k = if has k then None else levels k

-- the levels after a texture of so many blocks is put in a spot, where the shared regions that were freed are lost; only a small one has a level
abbrev pub levels_after : (ℕ → Option ℕ) → (ℕ → Bool) → Bool → Spot → ℕ → ℕ → Option ℕ
levels_after levels freed small spot blocks k =
    if small && (k == spot.run.first) then Some (spot.block + blocks) else lose_levels freed levels k
