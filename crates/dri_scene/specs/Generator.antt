-- The scene that is made for load: n clients, each with a window, three textures and twenty frames of two triangles, while
-- the server changes the windows forty times.
use Rattle.std.specs.Prelude.{ℕ, ◌+◌, ◌-◌, ◌*◌, ◌%◌, ℤ, pos, List, [], ◌∷◌, ◌++◌, map, true, ◌==◌, if◌then◌else◌, Some}
use Rattle.std.specs.List.{range_with_len, flat_map}
use Rattle.dri_base.specs.declared.command.Change.{Change}
use Rattle.dri_base.specs.declared.command.Change.TheVariants as Change_is
use Rattle.dri_base.specs.declared.command.Command.{Command}
use Rattle.dri_base.specs.declared.command.Command.TheVariants as Command_is
use Rattle.dri_base.specs.declared.scene.ClientScript.{ClientScript}
use Rattle.dri_base.specs.declared.scene.Scene.{Scene}
use Rattle.dri_base.specs.declared.scene.Window.{Window}
use Rattle.dri_base.specs.declared.shape.Triangle.{Triangle}
use Rattle.dri_base.specs.declared.shape.Vertex.{Vertex}
use Rattle.dri_base.specs.declared.state.DepthFunc.TheVariants.{Less}
use Rattle.dri_base.specs.declared.state.Setting.TheVariants as Setting_is
use Rattle.dri_base.specs.declared.state.TexMode.TheVariants.{Modulate}
use Rattle.dri_base.specs.declared.texture.TexFormat.TheVariants.{L8}
use Rattle.dri_base.specs.declared.texture.Texture.{Texture}
use Rattle.dri_base.specs.Planes.{plane}

-- the numbers from 1 to n
abbrev pub from_one : ℕ → List ℕ
from_one n = range_with_len 1 n

-- window w, of client w: 280 by 220 pixels
abbrev pub window : ℕ → Window
window w = record { number = w; x = pos (61 * w % 320); y = pos (43 * w % 200); width = 280; height = 220; background = record { r = 7 * w; g = 64; b = 128 }; owner = w; mapped = true }

-- the grey of texture t of client c in column x and row y
abbrev pub grey : ℕ → ℕ → ℕ → ℕ → ℕ
grey c t x y = (x * t + y * c) % 256

-- texture t of client c: 64 by 64 texels
abbrev pub texture : ℕ → ℕ → Texture
texture c t = record { number = t; shape = record { format = L8; width = 64; height = 64 }; bytes = plane 64 64 (grey c t) }

-- a corner of the far triangle: white, at depth 1,000
abbrev pub far : ℤ → ℤ → ℕ → ℕ → Vertex
far x y s t = record { x = x; y = y; z = 1000; colour = record { r = 255; g = 255; b = 255; a = 255 }; s = s; t = t }

-- a corner of the near triangle: green, at depth 500
abbrev pub near : ℤ → ℤ → ℕ → ℕ → Vertex
near x y s t = record { x = x; y = y; z = 500; colour = record { r = 128; g = 255; b = 128; a = 255 }; s = s; t = t }

-- the far triangle: the window's upper left half
abbrev pub far_triangle : Triangle
far_triangle = record { a = far (pos 0) (pos 0) 0 0; b = far (pos 4480) (pos 0) 1023 0; c = far (pos 0) (pos 3520) 0 1023 }

-- the near triangle of frame f: the window's lower right corner, a pixel lower in each frame
abbrev pub near_triangle : ℕ → Triangle
near_triangle f = record { a = near (pos 4480) (pos (16 * f)) 0 0; b = near (pos 4480) (pos 3520) 1023 0; c = near (pos 0) (pos 3520) 0 1023 }

-- frame f of client c: a clear, one of the textures in turn, two triangles and a swap
abbrev pub frame_commands : ℕ → ℕ → List Command
frame_commands c f =
    Command_is.Clear (record { r = 10 * f; g = 7 * c; b = 0 }) 65535
    ∷ Command_is.Set (Setting_is.Bind (Some ((f - 1) % 3 + 1)))
    ∷ Command_is.Triangle far_triangle
    ∷ Command_is.Triangle (near_triangle f)
    ∷ Command_is.Swap
    ∷ []

-- what is set before the first frame
abbrev pub first_settings : List Command
first_settings = Command_is.Set (Setting_is.DepthFunc Less) ∷ Command_is.Set (Setting_is.DepthWrite true) ∷ Command_is.Set (Setting_is.TexMode Modulate) ∷ []

-- the script of client c: twenty frames
abbrev pub script_commands : ℕ → List Command
script_commands c = first_settings ++ flat_map (frame_commands c) (from_one 20)

-- client c draws on window c and has three textures
abbrev pub client : ℕ → ClientScript
client c = record { number = c; window = c; textures = map (texture c) (from_one 3); commands = script_commands c }

-- the window of change i: each in turn, where there are n
abbrev pub changed_window : ℕ → ℕ → ℕ
changed_window n i = (i - 1) % n + 1

-- change i of window w: a raise, a move, a lowering and a resize in turn
abbrev pub change_of : ℕ → ℕ → Change
change_of w i =
    if i % 4 == 1 then Change_is.Raise w
    else (if i % 4 == 2 then Change_is.Move w (pos (53 * i % 320)) (pos (29 * i % 200))
    else (if i % 4 == 3 then Change_is.Lower w
    else Change_is.Resize w (200 + i) (150 + i)))

-- change i, where there are n windows
abbrev pub change : ℕ → ℕ → Change
change n i = change_of (changed_window n i) i

-- the scene of n clients; no schedule, so all is done in rounds
unfoldable pub generator : ℕ → Scene
generator n = record {
  width = 640;
  height = 480;
  root = record { r = 32; g = 48; b = 64 };
  regions = 16;
  region_size = 4096;
  windows = map window (from_one n);
  clients = map client (from_one n);
  changes = map (change n) (from_one 40);
  turns = [];
}
