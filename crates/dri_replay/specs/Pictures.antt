-- Pictures of planes.
use Rattle.std.specs.Prelude.{◌≡◌}
use Rattle.dri_base.specs.declared.colour.Rgb.{Rgb}
use Rattle.dri_meaning.specs.declared.picture.Picture.{Picture}
use Rattle.dri_plane.specs.Grids.{Grid}

-- the picture has the plane's sides and colours
pub record IsPictureOf (g : Grid Rgb) (picture : Picture) : Type 0 where
  pub width : picture.width ≡ g.width
  pub height : picture.height ≡ g.height
  pub pixels : picture.pixels ≡ g.pixels
