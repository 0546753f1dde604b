-- Where a client's textures are placed, and the regions that its small ones share.
use Rattle.std.specs.Prelude.{◌≡◌, ◌<◌, ℕ, zero, suc, List, get_or, Bool, false, Option, Some, None, IfSome}
use Rattle.dri_model.specs.Heaps.{Spot, any_in}
use Rattle.dri_texheap.specs.RegionStates.{IsInside}

-- the spots of the textures, from texture 1 on; the levels of the shared regions, by number; and the bytes of a region
pub record Placements : Type 0 where
  pub spots : List (Option Spot)
  pub levels : List (Option ℕ)
  pub region_size : ℕ

-- the spot of texture t, of a list that begins with texture 1
abbrev pub spot_at : List (Option Spot) → ℕ → Option Spot
spot_at spots zero = None
spot_at spots (suc t) = get_or spots t None

-- where texture t is placed
abbrev pub placed_of : Placements → ℕ → Option Spot
placed_of p t = spot_at p.spots t

-- the level of region k, where it is shared
abbrev pub levels_of : Placements → ℕ → Option ℕ
levels_of p k = get_or p.levels k None

-- what is placed lies inside the first n regions, and so does what is shared
pub record AreInside (n : ℕ) (p : Placements) : Type 0 where
  pub placed : (t : ℕ) → IfSome (placed_of p t) (λ spot. IsInside n spot.run)
  pub shared : (k level : ℕ) → levels_of p k ≡ Some level → k < n

-- a region of the spot's run, where there is one, has the property
abbrev pub is_lost : (ℕ → Bool) → Option Spot → Bool
is_lost has None = false
is_lost has (Some spot) = any_in spot.run has

-- the bound texture is placed, and a region of it has the property
abbrev pub is_bound_lost : (ℕ → Bool) → Placements → Option ℕ → Bool
is_bound_lost has p None = false
is_bound_lost has p (Some t) = is_lost has (placed_of p t)
