-- What a drawing leaves is the pixel rule, in the clip and in the scissor.
use Rattle.std.proofs.Common.{◌≡◌, ℕ, Bool, true, false, not, ◌&&◌, if◌then◌else◌, Option, Some, None, ℤ, pos, ◌-ℤ◌, refl, sym, ap, ◌∙◌}
use Rattle.dri_base.specs.declared.colour.Rgba.{Rgba}
use Rattle.dri_base.specs.declared.colour.Pixel.{Pixel}
use Rattle.dri_base.specs.declared.shape.ClipRect.{ClipRect}
use Rattle.dri_base.specs.declared.shape.Point.{Point}
use Rattle.dri_base.specs.declared.shape.Triangle.{Triangle}
use Rattle.dri_base.specs.declared.state.Registers.{Registers}
use Rattle.dri_base.specs.Coverage.{covers, quantity}
use Rattle.dri_base.specs.Fragments.{in_scissor, over, passes, shaded, with_texel, written}
use Rattle.dri_base.specs.Texels.{Image}
use Rattle.dri_model.specs.Words.{rules_in}
use Rattle.dri_base.specs.Planes.{in_rect}
use Rattle.dri_texel.specs.Pixels.{IsPixelRule, coloured, texel_used}
use Rattle.dri_walk.specs.Clips.{IsNarrowed}
use Rattle.dri_walk.specs.Drawings.{after_drawing, fragment_kept, is_drawn, own_colour, pair_left, turned, unscissored}
use Rattle.dri_walk.specs.Surfaces.{drawn_at, left_by}
use Rattle.dri_walk.specs.declared.depth_test.DepthTest.{DepthTest}
use Rattle.dri_walk.specs.declared.sampler.Texture.{Texture}

-- by the depth test, the colour and the texture of each pixel
pub drawing_is : IsPixelRule → (kept : Pixel → Pixel) (r : Registers) (image : Option Image) (t : Triangle) (test : DepthTest) (flat : Option Rgba) (texture : Texture)
    → ((z depth : ℕ) → is_drawn test z depth ≡ passes r.depth_func z depth)
    → ((x y : ℤ) → own_colour flat t x y ≡ shaded r.shade t x y)
    → ((s t : ℕ) (c : Rgba) → turned texture s t c ≡ coloured r.tex_mode (texel_used r.tex_mode image r.wrap s t) c)
    → pair_left kept (record { setup = t; depth_test = test; depth_write = r.depth_write; blend = r.blend; flat = flat; texture = texture }) ≡ fragment_kept kept (unscissored r) image t
drawing_is law kept r image t test flat texture depths colours turns = λ i x y under. at x y under i where
  at : (x y : ℤ) (under : Pixel) → pair_left kept (record { setup = t; depth_test = test; depth_write = r.depth_write; blend = r.blend; flat = flat; texture = texture }) x y under ≡ fragment_kept kept (unscissored r) image t x y under
  at x y under = by (covers t x y) (passes r.depth_func z under.depth) refl refl where
    z : ℕ
    z = quantity t (λ v. v.z) x y

    s : ℕ
    s = quantity t (λ v. v.s) x y

    u : ℕ
    u = quantity t (λ v. v.t) x y

    pair : Rgba → Pixel
    pair c = record { colour = over r.blend c under.colour; depth = if r.depth_write then z else under.depth }

    drawn : Pixel
    drawn = pair (turned texture s u (own_colour flat t x y))

    left : Pixel
    left = left_by kept (if is_drawn test z under.depth then Some drawn else None) under

    ruled : Pixel
    ruled = written (unscissored r) (with_texel r.tex_mode image r.wrap t x y (shaded r.shade t x y)) z under

    same : covers t x y ≡ true → passes r.depth_func z under.depth ≡ true → drawn ≡ ruled
    same e f =
        (λ i. pair (turned texture s u (colours x y i)))
        ∙ (λ i. pair (turns s u (shaded r.shade t x y) i))
        ∙ sym (λ i. if f i then pair (coloured r.tex_mode (texel_used r.tex_mode image r.wrap s u) (shaded r.shade t x y)) else under)
        ∙ sym (law (unscissored r) image t x y under e refl)
        ∙ (λ i. if e i && (true && f i) then ruled else under)

    by : (b d : Bool) → covers t x y ≡ b → passes r.depth_func z under.depth ≡ d → (if covers t x y then left else under) ≡ fragment_kept kept (unscissored r) image t x y under
    by true true e f =
        (λ i. if e i then left_by kept (if (depths z under.depth ∙ f) i then Some drawn else None) under else under)
        ∙ ap kept (same e f)
        ∙ sym (λ i. if e i && (true && f i) then kept ruled else under)
    by true false e f = (λ i. if e i then left_by kept (if (depths z under.depth ∙ f) i then Some drawn else None) under else under) ∙ sym (λ i. if e i && (true && f i) then kept ruled else under)
    by false d e f = (λ i. if e i then left else under) ∙ sym (λ i. if e i && (true && passes r.depth_func z under.depth) then kept ruled else under)

-- the pixel rule by the answer of its scissor
abbrev by_scissor : (Pixel → Pixel) → Registers → Option Image → Triangle → ℤ → ℤ → Pixel → Bool → Pixel
by_scissor kept r image t x y under b =
    if covers t x y && (b && passes r.depth_func (quantity t (λ v. v.z) x y) under.depth)
    then kept (written (rules_in r) (with_texel r.tex_mode image r.wrap t x y (shaded r.shade t x y)) (quantity t (λ v. v.z) x y) under)
    else under

-- in the clip and in the scissor, or not
scissored : (kept : Pixel → Pixel) (r : Registers) (image : Option Image) (t : Triangle) (x y : ℤ) (under : Pixel) (inside : Bool)
    → (if inside && in_scissor r.scissor x y then fragment_kept kept (unscissored r) image t x y under else under) ≡ (if inside then fragment_kept kept (rules_in r) image t x y under else under)
scissored kept r image t x y under false = refl
scissored kept r image t x y under true = by (in_scissor r.scissor x y) (covers t x y) refl where
  by : (b c : Bool) → covers t x y ≡ c → (if b then by_scissor kept r image t x y under true else under) ≡ by_scissor kept r image t x y under b
  by true c e = refl
  by false true e = rw e refl
  by false false e = rw e refl

-- a triangle drawn in a clip that is cut to the scissor
pub triangle_drawn : (kept : Pixel → Pixel) (r : Registers) (image : Option Image) (t : Triangle) (clip rect : ClipRect) (origin : Point) (drawing : ℤ → ℤ → Pixel → Pixel)
    → drawing ≡ fragment_kept kept (unscissored r) image t → IsNarrowed clip r.scissor origin rect
    → (f : ℕ → ℕ → Pixel) (x y : ℕ) → drawn_at (in_rect rect) origin drawing f x y ≡ after_drawing kept (rules_in r) image t clip origin f x y
triangle_drawn kept r image t clip rect origin drawing is narrowed f x y =
    ap (λ b. if b then drawing (pos x -ℤ origin.x) (pos y -ℤ origin.y) (f x y) else f x y) (narrowed x y)
    ∙ ap (λ (d : ℤ → ℤ → Pixel → Pixel). if in_rect clip x y && in_scissor r.scissor (pos x -ℤ origin.x) (pos y -ℤ origin.y) then d (pos x -ℤ origin.x) (pos y -ℤ origin.y) (f x y) else f x y) is
    ∙ scissored kept r image t (pos x -ℤ origin.x) (pos y -ℤ origin.y) (f x y) (in_rect clip x y)
