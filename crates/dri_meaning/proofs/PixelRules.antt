-- What a triangle leaves at a pixel, by its three tests.
use Rattle.std.proofs.Common.{◌≡◌, ℕ, true, false, Option, ℤ, refl, sym}
use Rattle.dri_base.specs.declared.colour.Pixel.{Pixel}
use Rattle.dri_base.specs.declared.colour.Rgb.{Rgb}
use Rattle.dri_base.specs.declared.colour.Rgba.{Rgba}
use Rattle.dri_base.specs.declared.shape.Triangle.{Triangle}
use Rattle.dri_base.specs.Coverage.{covers, quantity}
use Rattle.dri_base.specs.Fragments.{Rules, fragment, in_scissor, shaded}
use Rattle.dri_base.specs.Texels.{Image}
use Rattle.dri_texel.specs.declared.pixel.RegisterView.{RegisterView}
use Rattle.dri_texel.specs.Pixels.{IsPixelRule, left_over, texel_used, view_of}

pub uncovered : (r : Rules) (image : Option Image) (t : Triangle) (x y : ℤ) (under : Pixel) → covers t x y ≡ false → under ≡ fragment r image t x y under
uncovered r image t x y under out = rw out refl

pub cut_off : (r : Rules) (image : Option Image) (t : Triangle) (x y : ℤ) (under : Pixel) → covers t x y ≡ true → in_scissor r.scissor x y ≡ false → under ≡ fragment r image t x y under
cut_off r image t x y under inside out = rw (inside, out) refl

-- what is left of the registers, the texel, the colour and the depth
pub left_there : IsPixelRule → (r : Rules) (image : Option Image) (t : Triangle) (x y : ℤ) (under new : Pixel) (view : RegisterView) (u : Option Rgb) (c : Rgba) (z : ℕ)
    → covers t x y ≡ true → in_scissor r.scissor x y ≡ true → view ≡ view_of r
    → u ≡ texel_used r.tex_mode image r.wrap (quantity t (λ v. v.s) x y) (quantity t (λ v. v.t) x y) → c ≡ shaded r.shade t x y → z ≡ quantity t (λ v. v.z) x y
    → new ≡ left_over view u c z under → new ≡ fragment r image t x y under
left_there rule r image t x y under new view u c z inside within same_view same_texel same_colour same_depth left =
    rw (left, same_view, same_texel, same_colour, same_depth) (sym (rule r image t x y under inside within))
