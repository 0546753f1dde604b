-- The layout of the shared area: its fields one after another, each with its bytes, its range, and what an area has there.
use Rattle.std.specs.Prelude.{ℕ, zero, suc, ◌+◌, List, [], ◌∷◌, ◌++◌, flat_map, get_or, Bool, true, ◌&&◌, nat_le, if◌then◌else◌}
use Rattle.dri_base.specs.declared.texture.TexRegion.{TexRegion}
use Rattle.dri_base.specs.Ranges.{is_region_size}
use Rattle.dri_sarea.specs.declared.drawable.Drawable.{Drawable}
use Rattle.dri_sarea.specs.declared.layout.Field.{Field}
use Rattle.dri_sarea.specs.declared.layout.Range.{Range}
use Rattle.dri_sarea.specs.declared.layout.Range.TheVariants.{Any, Within, RegionSize}
use Rattle.dri_sarea.specs.declared.layout.Width.{Width}
use Rattle.dri_sarea.specs.declared.layout.Width.TheVariants.{Byte, Number}
use Rattle.dri_sarea.specs.Areas.{Area, no_drawable, no_region}

-- how many bytes that is
abbrev pub bytes_in : Width → ℕ
bytes_in Byte = 1
bytes_in Number = 4

-- the number is in the range; a region's size is a power of two, from 256 to 65,536
abbrev pub holds : Range → ℕ → Bool
holds Any v = true
holds (Within least most) v = nat_le least v && nat_le v most
holds RegionSize v = is_region_size v

-- a field of one byte
abbrev pub byte : Range → Field
byte range = record { width = Byte; range = range }

-- a field of four bytes
abbrev pub number : Range → Field
number range = record { width = Number; range = range }

-- how many bytes the fields have
abbrev pub size : List Field → ℕ
size [] = 0
size (f ∷ fs) = bytes_in f.width + size fs

-- k lists one after another
unfoldable pub pieces : {A : Type 0} → (ℕ → List A) → ℕ → List A
pieces piece zero = []
pieces piece (suc k) = pieces piece k ++ piece k

-- k bytes, each 0
abbrev pub zero_fields : ℕ → List Field
zero_fields k = pieces (λ i. byte (Within 0 0) ∷ []) k

-- so many zeros
abbrev pub zero_values : ℕ → List ℕ
zero_values k = pieces (λ i. 0 ∷ []) k

-- a drawable: its stamp, and its flags, which are 1 where it is mapped
abbrev pub drawable_fields : List Field
drawable_fields = number Any ∷ number (Within 0 1) ∷ []

-- what a drawable has there
abbrev pub drawable_values : Drawable → List ℕ
drawable_values d = d.stamp ∷ d.flags ∷ []

-- entry i of the list of n regions: next, prev, how it is used, padding, age; above the head nothing
abbrev pub entry_fields : ℕ → ℕ → List Field
entry_fields n i = if nat_le i n then byte (Within 0 n) ∷ byte (Within 0 n) ∷ byte (Within 0 2) ∷ byte (Within 0 0) ∷ number Any ∷ [] else zero_fields 8

-- what an entry has there
abbrev pub entry_values : ℕ → ℕ → TexRegion → List ℕ
entry_values n i r = if nat_le i n then r.next ∷ r.prev ∷ r.in_use ∷ 0 ∷ r.age ∷ [] else zero_values 8

-- a row of the table: its first byte, its fields, and what an area has there
pub record Row : Type 0 where
  pub offset : ℕ
  pub fields : List Field
  pub values : Area → List ℕ

-- where the number of regions stands
abbrev pub count_offset : ℕ
count_offset = 2208

-- the shared area of n regions, row by row
abbrev pub table : ℕ → List Row
table n =
    -- the lock word
    record { offset = 0; fields = number Any ∷ []; values = λ a. a.word ∷ [] } ∷
    -- padding
    record { offset = 4; fields = zero_fields 60; values = λ a. zero_values 60 } ∷
    -- the drawable lock
    record { offset = 64; fields = zero_fields 64; values = λ a. zero_values 64 } ∷
    -- the drawables
    record { offset = 128; fields = pieces (λ i. drawable_fields) 256; values = λ a. pieces (λ i. drawable_values (get_or a.drawables i no_drawable)) 256 } ∷
    -- the frame: x, y, width, height, whether it has the full screen
    record { offset = 2176; fields = number (Within 0 0) ∷ number (Within 0 0) ∷ number (Within 1 1024) ∷ number (Within 1 1024) ∷ number (Within 0 0) ∷ []; values = λ a. 0 ∷ 0 ∷ a.width ∷ a.height ∷ 0 ∷ [] } ∷
    -- the dummy context
    record { offset = 2196; fields = number (Within 0 0) ∷ []; values = λ a. 0 ∷ [] } ∷
    -- the owner
    record { offset = 2200; fields = number (Within 0 33) ∷ []; values = λ a. a.owner ∷ [] } ∷
    -- the global age
    record { offset = 2204; fields = number Any ∷ []; values = λ a. a.age ∷ [] } ∷
    -- the number of regions
    record { offset = count_offset; fields = number (Within 1 64) ∷ []; values = λ a. a.region_count ∷ [] } ∷
    -- the size of a region
    record { offset = 2212; fields = number RegionSize ∷ []; values = λ a. a.region_size ∷ [] } ∷
    -- the regions and the head of their list
    record { offset = 2216; fields = pieces (entry_fields n) 65; values = λ a. pieces (λ i. entry_values n i (get_or a.regions i no_region)) 65 } ∷
    -- the rest
    record { offset = 2736; fields = zero_fields 5456; values = λ a. zero_values 5456 } ∷ []

-- all fields of the shared area of n regions
abbrev pub layout : ℕ → List Field
layout n = flat_map (λ row. row.fields) (table n)

-- what an area has in them
abbrev pub values : Area → List ℕ
values a = flat_map (λ row. row.values a) (table a.region_count)
