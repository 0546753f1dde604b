-- The shared area's bytes.
use Rattle.std.specs.Prelude.{◌≡◌, ◌<◌, ℕ, ◌+◌, List, [], ◌∷◌, ◌++◌, length, drop, min, get_or, Bool, true, false, ◌==◌, ◌&&◌, if◌then◌else◌, Option, Some, None, ◌^◌, nat_lt}
use Rattle.byteorder.specs.Endian.{little_bytes, little_number}
use Rattle.dri_sarea.specs.declared.layout.Field.{Field}
use Rattle.dri_sarea.specs.Areas.{Area, no_region}
use Rattle.dri_sarea.specs.Layouts.{bytes_in, holds, layout, values, count_offset, Row, size}

-- numbers in their fields, the low byte of each first
abbrev pub written : List Field → List ℕ → List ℕ
written [] vs = []
written (f ∷ fs) [] = []
written (f ∷ fs) (v ∷ vs) = little_bytes (bytes_in f.width) v ++ written fs vs

-- the area's image
abbrev pub area_bytes : Area → List ℕ
area_bytes a = written (layout a.region_count) (values a)

-- the field can hold the number: it fits in its bytes, and is in its range
abbrev pub fits : Field → ℕ → Bool
fits f v = nat_lt v (256 ^ bytes_in f.width) && holds f.range v

-- each field can hold its number
abbrev pub are_held : List Field → List ℕ → Bool
are_held [] [] = true
are_held [] (v ∷ vs) = false
are_held (f ∷ fs) [] = false
are_held (f ∷ fs) (v ∷ vs) = fits f v && are_held fs vs

-- an area that has an image: 256 drawables, 65 entries, none above the head, and each number in its field's range
pub record IsArea (a : Area) : Type 0 where
  pub drawables : length a.drawables ≡ 256
  pub regions : length a.regions ≡ 65
  pub unused : (i : ℕ) → a.region_count < i → get_or a.regions i no_region ≡ no_region
  pub held : are_held (layout a.region_count) (values a) ≡ true

-- the number of so many bytes from a place on
abbrev pub number_at : List ℕ → ℕ → ℕ → ℕ
number_at bytes at count = little_number count (drop at bytes)

-- the numbers of the fields from a place on
abbrev pub numbers_at : List ℕ → ℕ → List Field → List ℕ
numbers_at bytes at [] = []
numbers_at bytes at (f ∷ fs) = number_at bytes at (bytes_in f.width) ∷ numbers_at bytes (at + bytes_in f.width) fs

-- of the fields from a place on, where the first one begins whose number is out of its range
abbrev pub first_bad : List ℕ → ℕ → List Field → Option ℕ
first_bad bytes at [] = None
first_bad bytes at (f ∷ fs) = if fits f (number_at bytes at (bytes_in f.width)) then first_bad bytes (at + bytes_in f.width) fs else Some at

-- where bytes go wrong as a shared area: at their end or the image's, where they aren't 8,192, and else at the first field out of its range
abbrev pub bad_at : List ℕ → Option ℕ
bad_at bytes = if length bytes == 8192 then first_bad bytes 0 (layout (number_at bytes count_offset 4)) else Some (min (length bytes) 8192)

-- each row begins where the one before ends, and the last ends with the image
abbrev pub FollowOn : ℕ → List Row → Type 0
FollowOn at [] = at ≡ 8192
FollowOn at (row ∷ rows) = (row.offset ≡ at) × FollowOn (at + size row.fields) rows
