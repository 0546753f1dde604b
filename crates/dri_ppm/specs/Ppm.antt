-- The P6 form of a picture.
use Rattle.std.specs.Prelude.{ℕ, List, [], ◌∷◌, ◌++◌, codes}
use Rattle.std.specs.List.{flat_map}
use Rattle.std.specs.Fmt.{decimal}
use Rattle.dri_base.specs.declared.colour.Rgb.{Rgb}

-- the three bytes of a pixel
abbrev pub channels : Rgb → List ℕ
channels p = p.r ∷ p.g ∷ p.b ∷ []

-- P6, the sides and the largest value, each on a line of its own
abbrev pub header : ℕ → ℕ → List ℕ
header width height = codes "P6" ++ (10 ∷ (decimal width ++ (32 ∷ (decimal height ++ (10 ∷ (codes "255" ++ (10 ∷ [])))))))

-- the header, and the pixels row by row
abbrev pub ppm : ℕ → ℕ → List Rgb → List ℕ
ppm width height pixels = header width height ++ flat_map channels pixels
