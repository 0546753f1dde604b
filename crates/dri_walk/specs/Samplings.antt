-- The texture that a triangle is drawn with.
use Rattle.std.specs.Prelude.{ℕ, ◌≤◌, ◌+◌, ◌*◌, List, Option, Some, None, get_or}
use Rattle.dri_base.specs.declared.colour.Rgb.{Rgb}
use Rattle.dri_base.specs.declared.state.Wrap.{Wrap}
use Rattle.dri_base.specs.declared.texture.BoundTexture.{BoundTexture}
use Rattle.dri_base.specs.declared.texture.TexShape.{TexShape}
use Rattle.dri_base.specs.Scenes.{texel_bytes}
use Rattle.dri_base.specs.Texels.{texel}
use Rattle.dri_texel.specs.Images.{image_in}

-- byte a of a memory; beyond it, 0
abbrev pub byte_in : List ℕ → ℕ → ℕ
byte_in memory a = get_or memory a 0

-- the bytes of an image
abbrev pub image_bytes : TexShape → ℕ
image_bytes shape = texel_bytes shape.format * (shape.width * shape.height)

-- the bound image, where there is one, lies within so many bytes of memory
abbrev pub IsImageWithin : ℕ → Option BoundTexture → Type 0
IsImageWithin bytes None = Unit {0}
IsImageWithin bytes (Some b) = b.base + image_bytes b.shape ≤ bytes

-- an image in the texture memory, and what is beyond its sides
pub record Sampling : Type 0 where
  pub memory : List ℕ
  pub bound : BoundTexture
  pub wrap : Wrap

-- its texel at the quantities s and t
abbrev pub sampled : Sampling → ℕ → ℕ → Rgb
sampled p s t = texel (image_in p.memory p.bound.base p.bound.shape) p.wrap s t
