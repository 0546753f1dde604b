use Rattle.std.proofs.Common.{◌≡◌, arith}
use Rattle.std.specs.Bool.{Decides}
use Rattle.std.proofs.lemmas.Bool.Decides.{nat_tests}
use Rattle.std.proofs.lemmas.Slice.Eq.{slice_eq-Decides}
use Rattle.dri_base.specs.declared.colour.Rgb.{Rgb}
use Rattle.dri_base.specs.contracts.colour.RgbPartialEq.TheImpl.{eq-value}
use Rattle.dri_explore.proofs.same.are_pixels.Goals as goal

same_pixel : (a b : Rgb) → Decides (eq-value.it a b) (a ≡ b)
same_pixel a b = (λ e. grind (arith, nat_tests, e), λ e. grind (arith, nat_tests, e))

pub returns : goal.returns
returns c = slice_eq-Decides same_pixel _ _ _ c.eq.ensures
