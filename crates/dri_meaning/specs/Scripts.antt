-- What is asked of a script that is drawn alone, and of the place of a pixel in its window.
use Rattle.std.specs.Prelude.{◌≡◌, ◌*◌, ◌≤ℤ◌, ℕ, ℤ, pos, length, get_or}
use Rattle.dri_base.specs.declared.scene.ClientScript.{ClientScript}
use Rattle.dri_base.specs.declared.texture.Texture.{Texture}
use Rattle.dri_base.specs.Ranges.{CommandsInRange, IsWithin, TexturesInRange, texture_numbers}
use Rattle.dri_base.specs.Scenes.{texel_bytes}
use Rattle.dri_base.specs.Texels.{Image}

-- a client's script of a scene in range: its textures and its commands are in range, whatever the heap
pub record ScriptInRange (p : ClientScript) : Type 0 where
  pub heap : ℕ
  pub textured : TexturesInRange heap p.textures
  pub commanded : CommandsInRange (texture_numbers p.textures) p.commands

-- a column or a row of a window
abbrev pub IsWindowPlace : ℤ → Type 0
IsWindowPlace n = (pos 0 ≤ℤ n) × (n ≤ℤ pos 1023)

-- a texture has sides 1 to 256, and just the bytes of its shape
pub record HasTexels (t : Texture) : Type 0 where
  pub wide : IsWithin 1 256 t.shape.width
  pub high : IsWithin 1 256 t.shape.height
  pub whole : length t.bytes ≡ texel_bytes t.shape.format * (t.shape.width * t.shape.height)

-- the image of a texture
abbrev pub image_of : Texture → Image
image_of t = record { shape = t.shape; byte = λ n. get_or t.bytes n 0 }
