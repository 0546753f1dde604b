-- Formats of colours: what a place keeps, and the colour that it shows.
use Rattle.std.specs.Prelude.{◌≡◌, List, map}
use Rattle.std.proofs.Common.{sym}
use Rattle.std.proofs.lemmas.List.{map-id}
use Rattle.dri_base.specs.declared.colour.Rgb.{Rgb}
use Rattle.dri_base.specs.declared.colour.Pixel.{Pixel}
use Rattle.dri_plane.specs.Grids.{Grid}

-- the colours that a plane shows, where its list of pixels shows those
abbrev pub shown_by : {A : Type 0} → (List A → List Rgb) → Grid A → Grid Rgb
shown_by all_shown g = record { width = g.width; height = g.height; pixels = all_shown g.pixels }

-- what a place shows of a pair that is written into it: the depth is kept as it is
abbrev pub pair_kept : {A : Type 0} → (A → Rgb) → (Rgb → A) → Pixel → Pixel
pair_kept shown kept pixel = record { colour = shown (kept pixel.colour); depth = pixel.depth }

-- colours that are kept as they are
pub each_as_it_is : (colours : List Rgb) → colours ≡ map (λ (colour : Rgb). colour) colours
each_as_it_is colours = sym (map-id colours)
