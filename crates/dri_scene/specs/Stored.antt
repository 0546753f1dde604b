-- The numbers of a scene that its types bound: bytes, and numbers of sixteen bits.
use Rattle.std.specs.Prelude.{◌<◌, All}
use Rattle.dri_base.specs.declared.colour.Rgb.{Rgb}
use Rattle.dri_base.specs.declared.colour.Rgba.{Rgba}
use Rattle.dri_base.specs.declared.command.Command.{Command}
use Rattle.dri_base.specs.declared.command.Command.TheVariants as Command_is
use Rattle.dri_base.specs.declared.scene.ClientScript.{ClientScript}
use Rattle.dri_base.specs.declared.scene.Scene.{Scene}
use Rattle.dri_base.specs.declared.shape.Vertex.{Vertex}
use Rattle.dri_base.specs.declared.texture.Texture.{Texture}
use Rattle.dri_scene.specs.declared.words.Word.{Word}
use Rattle.dri_scene.specs.declared.words.Word.TheVariants as words

-- three bytes
pub record IsColour (c : Rgb) : Type 0 where
  pub r : c.r < 256
  pub g : c.g < 256
  pub b : c.b < 256

-- four bytes
pub record IsColourAlpha (c : Rgba) : Type 0 where
  pub r : c.r < 256
  pub g : c.g < 256
  pub b : c.b < 256
  pub a : c.a < 256

-- a word's number of sixteen bits, or its colour
abbrev pub IsStoredWord : Word → Type 0
IsStoredWord (words.Small n) = n < 65536
IsStoredWord (words.Colour c) = IsColour c
IsStoredWord (words.ColourAlpha c) = IsColourAlpha c
IsStoredWord word = Unit {0}

-- a corner's numbers of sixteen bits, and its colour
pub record IsCorner (v : Vertex) : Type 0 where
  pub z : v.z < 65536
  pub colour : IsColourAlpha v.colour
  pub s : v.s < 65536
  pub t : v.t < 65536

-- a command's numbers of sixteen bits, and its colours
abbrev pub IsStoredCommand : Command → Type 0
IsStoredCommand (Command_is.Clear colour depth) = IsColour colour × (depth < 65536)
IsStoredCommand (Command_is.Triangle t) = IsCorner t.a × IsCorner t.b × IsCorner t.c
IsStoredCommand command = Unit {0}

-- a texture's bytes
abbrev pub IsStoredTexture : Texture → Type 0
IsStoredTexture t = All (λ b. b < 256) t.bytes

-- a client's textures and commands
pub record IsStoredClient (c : ClientScript) : Type 0 where
  pub textures : All IsStoredTexture c.textures
  pub commands : All IsStoredCommand c.commands

-- the numbers of a scene
pub record IsStored (s : Scene) : Type 0 where
  pub root : IsColour s.root
  pub windows : All (λ w. IsColour w.background) s.windows
  pub clients : All IsStoredClient s.clients
