-- The card of sixteen bits keeps its colours for good.
use Rattle.std.proofs.Common.{Bool, Option, false, if◌then◌else◌, true, ◌≡◌}
use Rattle.std.specs.Prelude.{ℤ}
use Rattle.dri_base.specs.Coverage.{quantity}
use Rattle.dri_base.specs.Fragments.{Rules, draws, shaded, with_texel, written}
use Rattle.dri_base.specs.Texels.{Image}
use Rattle.dri_base.specs.declared.colour.Pixel.{Pixel}
use Rattle.dri_base.specs.declared.shape.Triangle.{Triangle}
use Rattle.dri_card16.proofs.SixteenBits.{kept_is_kept}
use Rattle.dri_card16.specs.Lines.{along, draws_on, drawn_colour, is_line, line_fragment, line_of, value_in}
use Rattle.dri_card16.specs.Packing.{kept}
use Rattle.dri_card16.specs.PixelRules.{KeepsForGood, kept_pair}
use Rattle.dri_card16.specs.Sixteen.{fragment16, rule16}
use Rattle.dri_walk.specs.Drawings.{fragment_kept}

-- what is written is kept, and what isn't stays
one_kept : (b : Bool) (pair under : Pixel) → kept under.colour ≡ under.colour → kept (if b then kept_pair kept pair else under).colour ≡ (if b then kept_pair kept pair else under).colour
one_kept true pair under is = kept_is_kept pair.colour
one_kept false pair under is = is

either_kept : (b : Bool) (p q : Pixel) → kept p.colour ≡ p.colour → kept q.colour ≡ q.colour → kept (if b then p else q).colour ≡ (if b then p else q).colour
either_kept true p q one other = one
either_kept false p q one other = other

fragment_is_kept : (r : Rules) (image : Option Image) (t : Triangle) (x y : ℤ) (under : Pixel) → kept under.colour ≡ under.colour →
    kept (fragment16 r image t x y under).colour ≡ (fragment16 r image t x y under).colour
fragment_is_kept r image t x y under is =
    either_kept (is_line t) (line_fragment (kept_pair kept) r image t x y under) (fragment_kept (kept_pair kept) r image t x y under)
    (one_kept (draws_on r (line_of t) x y under.depth) (written r (drawn_colour r image (line_of t) (along (line_of t) x y)) (value_in (line_of t) (λ v. v.z) (along (line_of t) x y)) under) under is)
    (one_kept (draws r t x y under.depth) (written r (with_texel r.tex_mode image r.wrap t x y (shaded r.shade t x y)) (quantity t (λ v. v.z) x y) under) under is)

pub good16 : KeepsForGood rule16
good16 = record { colour = kept_is_kept; pair = fragment_is_kept }
