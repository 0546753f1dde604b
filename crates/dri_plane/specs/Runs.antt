-- A plane of colours and a plane of depths as one plane of pairs, and runs of its rows that are painted.
use Rattle.std.specs.Prelude.{ℕ, zero, suc, ◌≡◌, ◌+◌, List, Bool, ◌&&◌, ◌==◌, nat_le, nat_lt, if◌then◌else◌, Option, Some, None}
use Rattle.dri_base.specs.declared.colour.Rgb.{Rgb}
use Rattle.dri_base.specs.declared.colour.Pixel.{Pixel}
use Rattle.dri_base.specs.Planes.{plane}
use Rattle.dri_plane.specs.Grids.{Grid, is_place}

-- a list of pixels as a plane with these sides
abbrev pub grid : {A : Type 0} → ℕ → ℕ → List A → Grid A
grid width height pixels = record { width = width; height = height; pixels = pixels }

-- a plane of colours and a plane of depths hold these pairs
pub record HoldPairs (back : Grid Rgb) (depth : Grid ℕ) (f : ℕ → ℕ → Pixel) : Type 0 where
  pub colours : back.pixels ≡ plane back.width back.height (λ x y. (f x y).colour)
  pub depths : depth.pixels ≡ plane depth.width depth.height (λ x y. (f x y).depth)

-- what is kept of a pair that is written, and the pair under it where none is
abbrev pub left_by : (Pixel → Pixel) → Option Pixel → Pixel → Pixel
left_by kept None under = under
left_by kept (Some pixel) under = kept pixel

-- place (a, b) lies in that row, from column left up to column right
abbrev pub in_row : ℕ → ℕ → ℕ → ℕ → ℕ → Bool
in_row y left right a b = (b == y) && (nat_le left a && nat_lt a right)

-- the pairs after a run of a row is painted
abbrev pub run_painted : (Pixel → Pixel) → (ℕ → Pixel → Option Pixel) → ℕ → ℕ → ℕ → (ℕ → ℕ → Pixel) → ℕ → ℕ → Pixel
run_painted kept paint y left right f a b = if in_row y left right a b then left_by kept (paint a (f a b)) (f a b) else f a b

-- the pairs after one place is painted
abbrev pub place_painted : (Pixel → Pixel) → (ℕ → Pixel → Option Pixel) → ℕ → ℕ → (ℕ → ℕ → Pixel) → ℕ → ℕ → Pixel
place_painted kept paint x y f a b = if is_place x y a b then left_by kept (paint a (f a b)) (f a b) else f a b

-- the accesses to the two planes that a place takes: both are read, and both are written where it is painted
abbrev pub accesses : Option Pixel → ℕ
accesses None = 2
accesses (Some pixel) = 4

-- those that n places of row y take, from column left on
abbrev pub run_accesses : (ℕ → Pixel → Option Pixel) → ℕ → ℕ → ℕ → (ℕ → ℕ → Pixel) → ℕ
run_accesses paint y left zero f = 0
run_accesses paint y left (suc n) f = run_accesses paint y left n f + accesses (paint (left + n) (f (left + n) y))
