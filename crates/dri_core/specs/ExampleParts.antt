-- Of what the scenes that were worked by hand are made.
use Rattle.std.specs.Prelude.{ℕ, List, [], ◌∷◌, ℤ, pos, true, Some, replicate}
use Rattle.dri_base.specs.declared.colour.Rgb.{Rgb}
use Rattle.dri_base.specs.declared.colour.Rgba.{Rgba}
use Rattle.dri_base.specs.declared.command.Change.{Change}
use Rattle.dri_base.specs.declared.command.Command.TheVariants.{Set, Clear, Triangle, Swap}
use Rattle.dri_base.specs.declared.command.Command.{Command}
use Rattle.dri_base.specs.declared.command.Item.TheVariants.{Turn}
use Rattle.dri_base.specs.declared.command.Item.{Item}
use Rattle.dri_base.specs.declared.scene.ClientScript.{ClientScript}
use Rattle.dri_base.specs.declared.scene.Scene.{Scene}
use Rattle.dri_base.specs.declared.scene.Window.{Window}
use Rattle.dri_base.specs.declared.shape.Vertex.{Vertex}
use Rattle.dri_base.specs.declared.state.Setting.TheVariants as Setting_is
use Rattle.dri_base.specs.declared.state.TexMode.TheVariants as Mode_is
use Rattle.dri_base.specs.declared.texture.TexFormat.TheVariants.{L8}
use Rattle.dri_base.specs.declared.texture.Texture.{Texture}

-- a colour
abbrev pub rgb : ℕ → ℕ → ℕ → Rgb
rgb r g b = record { r = r; g = g; b = b }

-- a colour with alpha
abbrev pub rgba : ℕ → ℕ → ℕ → ℕ → Rgba
rgba r g b a = record { r = r; g = g; b = b; a = a }

-- a corner with depth 0, at texel (0, 0)
abbrev pub corner : ℕ → ℕ → Rgba → Vertex
corner x y colour = record { x = pos x; y = pos y; z = 0; colour = colour; s = 0; t = 0 }

-- the triangle of a window's upper left corner, with both legs of so many sixteenths
abbrev pub corner_triangle : ℕ → Rgba → Command
corner_triangle leg colour = Triangle (record { a = corner 0 0 colour; b = corner leg 0 colour; c = corner 0 leg colour })

-- a window: number, corner, sides, background and owner; it is mapped
abbrev pub window : ℕ → ℤ → ℤ → ℕ → ℕ → Rgb → ℕ → Window
window number x y width height background owner =
    record { number = number; x = x; y = y; width = width; height = height; background = background; owner = owner; mapped = true }

-- 16 by 16 bytes of one grey
abbrev pub grey_texture : ℕ → Texture
grey_texture grey = record { number = 1; shape = record { format = L8; width = 16; height = 16 }; bytes = replicate 256 grey }

-- a client that draws on the window of its own number
abbrev pub script : ℕ → List Texture → List Command → ClientScript
script number textures commands = record { number = number; window = number; textures = textures; commands = commands }

-- a scene with one region of texture memory, on black
abbrev pub scene : ℕ → ℕ → List Window → List ClientScript → List Change → List Item → Scene
scene width height windows clients changes turns = record {
  width = width;
  height = height;
  root = rgb 0 0 0;
  regions = 1;
  region_size = 256;
  windows = windows;
  clients = clients;
  changes = changes;
  turns = turns;
}

-- so many turns of an actor
abbrev pub turns_of : ℕ → ℕ → List Item
turns_of n actor = replicate n (Turn actor)

-- a frame with a textured triangle
abbrev pub textured_frame : List Command
textured_frame = Clear (rgb 0 0 0) 65535 ∷ corner_triangle 64 (rgba 0xff 0xff 0xff 0xff) ∷ Swap ∷ []

-- so many of them
abbrev pub textured : List Command → List Command
textured frames = Set (Setting_is.TexMode Mode_is.Replace) ∷ Set (Setting_is.Bind (Some 1)) ∷ frames
