-- What a triangle leaves on a surface.
use Rattle.std.specs.Prelude.{ℕ, ℤ, pos, ◌-ℤ◌, Bool, ◌&&◌, nat_lt, if◌then◌else◌, Option, Some, None}
use Rattle.dri_base.specs.declared.colour.Rgba.{Rgba}
use Rattle.dri_base.specs.declared.colour.Pixel.{Pixel}
use Rattle.dri_base.specs.declared.shape.ClipRect.{ClipRect}
use Rattle.dri_base.specs.declared.shape.Point.{Point}
use Rattle.dri_base.specs.declared.shape.Triangle.{Triangle}
use Rattle.dri_base.specs.declared.state.Registers.{Registers}
use Rattle.dri_base.specs.declared.state.Blend.{Blend}
use Rattle.dri_base.specs.declared.state.Shade.TheVariants.{Smooth}
use Rattle.dri_base.specs.declared.state.TexMode.TheVariants as Mode_is
use Rattle.dri_base.specs.Coverage.{covers, quantity}
use Rattle.dri_base.specs.Fragments.{Rules, draws, over, shaded, textured, with_texel, written}
use Rattle.dri_base.specs.Texels.{Image}
use Rattle.dri_model.specs.Words.{rules_in}
use Rattle.dri_base.specs.Planes.{in_rect}
use Rattle.dri_walk.specs.declared.depth_test.DepthTest.{DepthTest}
use Rattle.dri_walk.specs.declared.drawing.Drawing.{Drawing}
use Rattle.dri_walk.specs.declared.sampler.Texture.{Texture}
use Rattle.dri_walk.specs.declared.sampler.Texture.TheVariants as Texture_is
use Rattle.dri_walk.specs.Samplings.{sampled}
use Rattle.dri_walk.specs.Surfaces.{left_by}

-- what is kept of the pair that a triangle leaves at the window's pixel (x, y) by the pixel rule; the pair under it where it draws nothing
abbrev pub fragment_kept : (Pixel → Pixel) → Rules → Option Image → Triangle → ℤ → ℤ → Pixel → Pixel
fragment_kept kept r image t x y under =
    if draws r t x y under.depth
    then kept (written r (with_texel r.tex_mode image r.wrap t x y (shaded r.shade t x y)) (quantity t (λ v. v.z) x y) under)
    else under

-- the pairs after a triangle, drawn so in a clip of the screen; the window's pixel is the screen's less the origin
abbrev pub after_drawing : (Pixel → Pixel) → Rules → Option Image → Triangle → ClipRect → Point → (ℕ → ℕ → Pixel) → ℕ → ℕ → Pixel
after_drawing kept r image t clip origin f x y = if in_rect clip x y then fragment_kept kept r image t (pos x -ℤ origin.x) (pos y -ℤ origin.y) (f x y) else f x y

-- the rules of the registers, without their scissor
abbrev pub unscissored : Registers → Rules
unscissored r = record (rules_in r) { scissor = None }

-- the one colour of a flat triangle, or that of its corners
abbrev pub own_colour : Option Rgba → Triangle → ℤ → ℤ → Rgba
own_colour None t x y = shaded Smooth t x y
own_colour (Some colour) t x y = colour

-- the depth test draws z over a depth
abbrev pub is_drawn : DepthTest → ℕ → ℕ → Bool
is_drawn d z depth = if nat_lt z depth then d.below else (if nat_lt depth z then d.above else d.equal)

-- it draws every z over every depth
abbrev pub draws_all : DepthTest → Bool
draws_all d = d.below && (d.equal && d.above)

-- the depth that is left where z is drawn over a depth; none where it isn't drawn
abbrev pub depth_left : DepthTest → Bool → ℕ → ℕ → Option ℕ
depth_left test write z depth = if is_drawn test z depth then Some (if write then z else depth) else None

-- the colour that a texture makes of another at the quantities s and t
abbrev pub turned : Texture → ℕ → ℕ → Rgba → Rgba
turned Texture_is.Off s t c = c
turned (Texture_is.Replace p) s t c = textured Mode_is.Replace (sampled p s t) c
turned (Texture_is.Modulate p) s t c = textured Mode_is.Modulate (sampled p s t) c

-- the colours that a texture makes of those of a triangle
abbrev pub turned_at : Texture → (Triangle → ℤ → ℤ → Rgba) → Triangle → ℤ → ℤ → Rgba
turned_at texture own t x y = turned texture (quantity t (λ v. v.s) x y) (quantity t (λ v. v.t) x y) (own t x y)

-- what is painted over the pair under it at the window's pixel (x, y), which the triangle covers, in these colours and by this blending
abbrev pub painted : DepthTest → Bool → (Triangle → ℤ → ℤ → Rgba) → Blend → Triangle → ℤ → ℤ → Pixel → Option Pixel
painted test write colour blend t x y under =
    if is_drawn test (quantity t (λ v. v.z) x y) under.depth
    then Some (record { colour = over blend (colour t x y) under.colour; depth = if write then quantity t (λ v. v.z) x y else under.depth })
    else None

-- the pair that a drawing leaves at the window's pixel (x, y) in these colours and by this blending
abbrev pub pair_by : (Pixel → Pixel) → Drawing → (Triangle → ℤ → ℤ → Rgba) → Blend → ℤ → ℤ → Pixel → Pixel
pair_by kept d colour blend x y under =
    if covers d.setup x y then left_by kept (painted d.depth_test d.depth_write colour blend d.setup x y under) under else under

-- and in its own colours, with its texture, by its own blending
abbrev pub pair_left : (Pixel → Pixel) → Drawing → ℤ → ℤ → Pixel → Pixel
pair_left kept d = pair_by kept d (turned_at d.texture (own_colour d.flat)) d.blend
