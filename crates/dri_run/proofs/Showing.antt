-- A picture of a scene's screen, and its P6 bytes.
use Rattle.std.proofs.Common.{◌≡◌, ℕ, ◌*◌, List, length, sym, ap, ◌∙◌}
use Rattle.dri_base.proofs.PlaneLists.{length-first_pixels}
use Rattle.dri_base.specs.Planes.{plane}
use Rattle.dri_base.specs.declared.colour.Rgb.{Rgb}
use Rattle.dri_base.specs.declared.scene.Scene.{Scene}
use Rattle.dri_meaning.specs.declared.picture.Picture.{Picture}
use Rattle.dri_ppm.specs.Ppm.{ppm}

-- the picture is a screen of the scene's sides that shows these colours
pub record Shows (s : Scene) (front : ℕ → ℕ → Rgb) (picture : Picture) : Type 0 where
  pub width : picture.width ≡ s.width
  pub height : picture.height ≡ s.height
  pub pixels : picture.pixels ≡ plane s.width s.height front

-- it has a pixel for each of its places
pub as_many : (s : Scene) (front : ℕ → ℕ → Rgb) (picture : Picture) → Shows s front picture → length picture.pixels ≡ picture.width * picture.height
as_many s front picture shows =
    ap length shows.pixels ∙ length-first_pixels s.width front (s.width * s.height) ∙ sym (ap (λ w. w * s.height) shows.width) ∙ sym (ap (λ h. picture.width * h) shows.height)

-- and its bytes are the screen's
pub screen : (s : Scene) (front : ℕ → ℕ → Rgb) (picture : Picture) (image : List ℕ) → Shows s front picture → image ≡ ppm picture.width picture.height picture.pixels → image ≡ ppm s.width s.height (plane s.width s.height front)
screen s front picture image shows is =
    is ∙ ap (λ w. ppm w picture.height picture.pixels) shows.width ∙ ap (λ h. ppm s.width h picture.pixels) shows.height ∙ ap (ppm s.width s.height) shows.pixels
