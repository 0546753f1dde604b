-- Scenes that were worked by hand.
use Rattle.std.specs.Prelude.{ℕ, List, [], ◌∷◌, ◌++◌, pos, neg_ℤ, true, false, Some, None, map, replicate}
use Rattle.dri_base.specs.declared.colour.Rgba.{Rgba}
use Rattle.dri_base.specs.declared.command.Change.TheVariants.{Map, Unmap, Move, Resize, Raise, Lower}
use Rattle.dri_base.specs.declared.command.Change.{Change}
use Rattle.dri_base.specs.declared.command.Command.TheVariants.{Set, Clear, Triangle, Swap, Yield, Die}
use Rattle.dri_base.specs.declared.command.Command.{Command}
use Rattle.dri_base.specs.declared.command.Item.TheVariants.{Turn, Kill}
use Rattle.dri_base.specs.declared.command.Item.{Item}
use Rattle.dri_base.specs.declared.scene.ClientScript.{ClientScript}
use Rattle.dri_base.specs.declared.scene.Scene.{Scene}
use Rattle.dri_base.specs.declared.shape.Vertex.{Vertex}
use Rattle.dri_base.specs.declared.state.Blend.TheVariants as Blend_is
use Rattle.dri_base.specs.declared.state.DepthFunc.TheVariants as Depth_is
use Rattle.dri_base.specs.declared.state.Setting.TheVariants as Setting_is
use Rattle.dri_base.specs.declared.state.Setting.{Setting}
use Rattle.dri_base.specs.declared.state.Shade.TheVariants as Shade_is
use Rattle.dri_base.specs.declared.state.TexMode.TheVariants as Mode_is
use Rattle.dri_base.specs.declared.state.Wrap.TheVariants as Wrap_is
use Rattle.dri_base.specs.declared.texture.TexFormat.TheVariants.{L8, Rgb565}
use Rattle.dri_base.specs.declared.texture.Texture.{Texture}
use Rattle.dri_core.specs.ExampleParts.{rgb, rgba, corner, corner_triangle, window, grey_texture, script, scene, turns_of, textured_frame, textured}

-- bytes of one grey, in a square of 8 by 8
abbrev pub small_texture : ℕ → ℕ → Texture
small_texture number grey = record { number = number; shape = record { format = L8; width = 8; height = 8 }; bytes = replicate 64 grey }

-- and in 12 by 11
abbrev pub large_texture : ℕ → ℕ → Texture
large_texture number grey = record { number = number; shape = record { format = L8; width = 12; height = 11 }; bytes = replicate 132 grey }

-- a triangle of six pixels
abbrev pub one_triangle : Scene
one_triangle = record (scene 4 4
    (window 1 (pos 0) (pos 0) 4 4 (rgb 0x10 0x10 0x10) 1 ∷ [])
    (script 1 [] (Clear (rgb 0 0 0) 65535 ∷ corner_triangle 64 (rgba 0xff 0 0 0xff) ∷ Swap ∷ []) ∷ [])
    [] []) { root = rgb 0 0 0x40 }

-- two frames by one client
abbrev pub two_frames : Scene
two_frames = scene 2 1
    (window 1 (pos 0) (pos 0) 2 1 (rgb 0x11 0x11 0x11) 1 ∷ [])
    (script 1 [] (Clear (rgb 0xff 0 0) 65535 ∷ Swap ∷ Clear (rgb 0 0 0xff) 65535 ∷ Swap ∷ []) ∷ [])
    [] []

-- a window in front of it all
abbrev pub under_another : Scene
under_another = record two_frames { windows = window 2 (pos 0) (pos 0) 2 1 (rgb 0x22 0x22 0x22) 0 ∷ two_frames.windows }

-- the client is killed before its first hold
abbrev pub killed_first : Scene
killed_first = record two_frames { turns = Kill 1 ∷ Turn 1 ∷ [] }

-- the client dies by itself after its first frame
abbrev pub dies : Scene
dies = record two_frames { clients = script 1 [] (Clear (rgb 0xff 0 0) 65535 ∷ Swap ∷ Die ∷ []) ∷ [] }

-- a client that yields between its clear and its swap
abbrev pub yielding : List ClientScript
yielding = script 1 [] (Clear (rgb 0xff 0 0) 65535 ∷ Yield ∷ Swap ∷ []) ∷ []

-- between which window 2 is raised and lowered again
abbrev pub raised_and_lowered : List Item
raised_and_lowered = turns_of 8 1 ++ turns_of 2 0

-- two windows at one place
abbrev pub covered : Scene
covered = scene 2 2
    (window 1 (pos 0) (pos 0) 2 2 (rgb 0x11 0x11 0x11) 1 ∷ window 2 (pos 0) (pos 0) 2 2 (rgb 0x22 0x22 0x22) 0 ∷ [])
    yielding
    (Raise 2 ∷ Lower 2 ∷ []) raised_and_lowered

-- two windows side by side
abbrev pub beside : Scene
beside = scene 4 2
    (window 1 (pos 0) (pos 0) 2 2 (rgb 0x11 0x11 0x11) 1 ∷ window 2 (pos 2) (pos 0) 2 2 (rgb 0x22 0x22 0x22) 0 ∷ [])
    yielding
    (Raise 2 ∷ Lower 2 ∷ []) raised_and_lowered

-- a client waits for another that holds
abbrev pub waiting_one : Scene
waiting_one = scene 4 2
    (window 1 (pos 0) (pos 0) 2 2 (rgb 0x11 0x11 0x11) 1 ∷ window 2 (pos 2) (pos 0) 2 2 (rgb 0x22 0x22 0x22) 2 ∷ [])
    (script 1 [] (Clear (rgb 0xff 0 0) 65535 ∷ corner_triangle 64 (rgba 0 0 0xff 0xff) ∷ corner_triangle 64 (rgba 0xff 0xff 0xff 0xff) ∷ Swap ∷ []) ∷
    script 2 [] (Clear (rgb 0 0xff 0) 65535 ∷ Swap ∷ []) ∷ [])
    [] (turns_of 8 1 ++ turns_of 2 2)

-- and the holder is killed
abbrev pub killed : Scene
killed = record waiting_one { turns = waiting_one.turns ++ Kill 1 ∷ [] }

-- two clients, each with a texture of the whole heap
abbrev pub one_region : Scene
one_region = scene 2 1
    (window 1 (pos 0) (pos 0) 1 1 (rgb 0 0 0) 1 ∷ window 2 (pos 1) (pos 0) 1 1 (rgb 0 0 0) 2 ∷ [])
    (script 1 (grey_texture 0x40 ∷ []) (textured (textured_frame ++ textured_frame)) ∷
    script 2 (grey_texture 0x80 ∷ []) (textured textured_frame) ∷ [])
    [] (turns_of 13 1 ++ turns_of 13 2)

-- a triangle with a texture bound before it
abbrev pub drawn_with : ℕ → List Command
drawn_with t = Set (Setting_is.Bind (Some t)) ∷ corner_triangle 64 (rgba 0xff 0xff 0xff 0xff) ∷ []

-- one client draws with its first texture, its second, and its first again, in one region
abbrev pub with_textures : List Texture → Scene
with_textures textures = scene 2 1
    (window 1 (pos 0) (pos 0) 2 1 (rgb 0 0 0) 1 ∷ [])
    (script 1 textures
    (Set (Setting_is.TexMode Mode_is.Replace) ∷ Set (Setting_is.Bind (Some 1)) ∷ Clear (rgb 0 0 0) 65535 ∷ corner_triangle 64 (rgba 0xff 0xff 0xff 0xff) ∷
    drawn_with 2 ++ drawn_with 1 ++ Swap ∷ []) ∷ [])
    [] []

-- two small ones share the region
abbrev pub two_small : Scene
two_small = with_textures (small_texture 1 0x40 ∷ small_texture 2 0x80 ∷ [])

-- a small one, and one that isn't, take it from each other
abbrev pub small_and_large : Scene
small_and_large = with_textures (small_texture 1 0x40 ∷ large_texture 2 0x80 ∷ [])

-- of half a region, in 16 by 8
abbrev pub half_texture : ℕ → ℕ → Texture
half_texture number grey = record { number = number; shape = record { format = L8; width = 16; height = 8 }; bytes = replicate 128 grey }

-- three textures of half a region: the first two fill it, so the third frees it, with both
abbrev pub three_halves : Scene
three_halves = scene 2 1
    (window 1 (pos 0) (pos 0) 2 1 (rgb 0 0 0) 1 ∷ [])
    (script 1 (half_texture 1 0x40 ∷ half_texture 2 0x80 ∷ half_texture 3 0xc0 ∷ [])
    (Set (Setting_is.TexMode Mode_is.Replace) ∷ Clear (rgb 0 0 0) 65535 ∷ drawn_with 1 ++ drawn_with 2 ++ drawn_with 3 ++ Swap ∷ []) ∷ [])
    [] []

-- three small textures of one block, one of half a region, and one more of one block, with two regions
abbrev pub five_small : Scene
five_small = record (scene 2 1
    (window 1 (pos 0) (pos 0) 2 1 (rgb 0 0 0) 1 ∷ [])
    (script 1 (small_texture 1 0x40 ∷ small_texture 2 0x80 ∷ small_texture 3 0xc0 ∷ half_texture 4 0xf0 ∷ small_texture 5 0x10 ∷ [])
    (Set (Setting_is.TexMode Mode_is.Replace) ∷ Clear (rgb 0 0 0) 65535 ∷
    drawn_with 1 ++ drawn_with 2 ++ drawn_with 3 ++ drawn_with 4 ++ drawn_with 5 ++ Swap ∷ []) ∷ [])
    [] []) { regions = 2 }

-- two clients, each with a small texture, in one region: client 1 draws, client 2 draws, client 1 draws again
abbrev pub two_owners : Scene
two_owners = scene 2 1
    (window 1 (pos 0) (pos 0) 1 1 (rgb 0 0 0) 1 ∷ window 2 (pos 1) (pos 0) 1 1 (rgb 0 0 0) 2 ∷ [])
    (script 1 (small_texture 1 0x40 ∷ []) (textured (textured_frame ++ textured_frame)) ∷
    script 2 (small_texture 1 0x80 ∷ []) (textured textured_frame) ∷ [])
    [] (turns_of 13 1 ++ turns_of 13 2)

-- a scissor in a window that begins left of the screen
abbrev pub cut_out : Scene
cut_out = scene 8 1
    (window 1 (neg_ℤ (pos 5)) (pos 0) 10 1 (rgb 0x11 0x11 0x11) 1 ∷ [])
    (script 1 [] (Clear (rgb 0xff 0 0) 65535 ∷ Set (Setting_is.Scissor (Some (record { x1 = 5; y1 = 0; x2 = 6; y2 = 1 }))) ∷
    corner_triangle 320 (rgba 0 0xff 0 0xff) ∷ Swap ∷ []) ∷ [])
    [] []

-- two blends under another window
abbrev pub blended_twice : Scene
blended_twice = scene 3 1
    (window 2 (pos 1) (pos 0) 1 1 (rgb 0x22 0x22 0x22) 0 ∷ window 1 (pos 0) (pos 0) 3 1 (rgb 0x11 0x11 0x11) 1 ∷ [])
    (script 1 [] (Clear (rgb 0 0 0) 65535 ∷ Set (Setting_is.Blend Blend_is.Add) ∷ corner_triangle 320 (rgba 0x80 0x80 0x80 0xff) ∷
    Set (Setting_is.Blend Blend_is.Alpha) ∷ corner_triangle 320 (rgba 0xff 0xff 0xff 0x80) ∷ Swap ∷ []) ∷ [])
    [] []

-- a window of three pixels, under which another lies that is raised and lowered again
abbrev pub partly_covered : Scene
partly_covered = scene 3 1
    (window 1 (pos 0) (pos 0) 3 1 (rgb 0x11 0x11 0x11) 1 ∷ window 2 (pos 1) (pos 0) 1 1 (rgb 0x22 0x22 0x22) 0 ∷ [])
    (script 1 [] (Clear (rgb 0xff 0 0) 65535 ∷ Swap ∷ []) ∷ [])
    (Raise 2 ∷ Lower 2 ∷ []) raised_and_lowered

-- three windows whose corners aren't 0, each kind of change in its turn, and one that is refused
abbrev pub moved_about : Scene
moved_about = scene 4 3
    (window 1 (pos 1) (pos 1) 1 1 (rgb 0x11 0x11 0x11) 0 ∷ window 2 (pos 1) (pos 1) 2 2 (rgb 0x22 0x22 0x22) 0 ∷
    window 3 (pos 1) (pos 1) 3 1 (rgb 0x33 0x33 0x33) 0 ∷ [])
    []
    (Move 1 (pos 2) (pos 1) ∷ Resize 1 2 1 ∷ Raise 2 ∷ Unmap 1 ∷ Map 1 ∷ Lower 2 ∷ Move 2 (pos 1025) (pos 1) ∷ []) []

-- changes that are refused where window 1 is unmapped and window 2 is mapped
abbrev pub refused_changes : List Change
refused_changes =
    Move 9 (pos 1025) (pos 0) ∷ Move 1 (pos 1025) (pos 0) ∷ Move 1 (pos 0) (neg_ℤ (pos 1025)) ∷ Resize 1 0 1 ∷ Resize 1 1 1025 ∷ Map 2 ∷ Unmap 1 ∷ []

-- and changes that aren't
abbrev pub allowed_changes : List Change
allowed_changes = Move 1 (neg_ℤ (pos 1024)) (pos 1024) ∷ Resize 1 1024 1 ∷ Map 1 ∷ Unmap 2 ∷ Raise 2 ∷ Lower 1 ∷ []

-- a client that owns two windows is killed
abbrev pub two_windows : Scene
two_windows = scene 2 1
    (window 1 (pos 0) (pos 0) 1 1 (rgb 0x11 0x11 0x11) 1 ∷ window 3 (pos 1) (pos 0) 1 1 (rgb 0x33 0x33 0x33) 1 ∷ [])
    (script 1 [] (Swap ∷ []) ∷ [])
    [] (Kill 1 ∷ [])

-- a second frame without a clear
abbrev pub shown_twice : Scene
shown_twice = scene 2 1
    (window 1 (pos 0) (pos 0) 2 1 (rgb 0x11 0x11 0x11) 1 ∷ [])
    (script 1 [] (Clear (rgb 0xff 0 0) 65535 ∷ Swap ∷ corner_triangle 32 (rgba 0 0xff 0 0xff) ∷ Swap ∷ []) ∷ [])
    [] []

-- a client that comes back by the kernel while the card is still its own
abbrev pub taken_again : Scene
taken_again = scene 4 1
    (window 1 (pos 0) (pos 0) 2 1 (rgb 0x11 0x11 0x11) 1 ∷ window 2 (pos 2) (pos 0) 2 1 (rgb 0x22 0x22 0x22) 0 ∷ [])
    (script 1 [] (Clear (rgb 0 0 0) 65535 ∷ corner_triangle 320 (rgba 0xff 0 0 0xff) ∷ Yield ∷ corner_triangle 320 (rgba 0 0xff 0 0xff) ∷ Swap ∷ []) ∷ [])
    (Raise 2 ∷ []) (turns_of 10 1 ++ turns_of 1 0)

-- the client that waits at the front is stopped, and the server waits behind it
abbrev pub stopped_in_the_queue : Scene
stopped_in_the_queue = record waiting_one { changes = Raise 2 ∷ []; turns = waiting_one.turns ++ Kill 2 ∷ Turn 0 ∷ [] }

-- the same at a depth, over the whole window
abbrev pub deep_triangle : ℕ → Rgba → Command
deep_triangle z colour = Triangle (record {
  a = record (corner 0 0 colour) { z = z };
  b = record (corner 320 0 colour) { z = z };
  c = record (corner 0 320 colour) { z = z };
})

-- a client alone on a row of so many pixels
abbrev pub on_a_row : ℕ → List Texture → List Command → Scene
on_a_row width textures commands = scene width 1 (window 1 (pos 0) (pos 0) width 1 (rgb 0x11 0x11 0x11) 1 ∷ []) (script 1 textures commands ∷ []) [] []

-- a near triangle in a scissor, and one behind it
abbrev pub in_depth : Scene
in_depth = on_a_row 3 [] (Clear (rgb 0 0 0) 65535 ∷ Set (Setting_is.DepthFunc Depth_is.Less) ∷ Set (Setting_is.DepthWrite true) ∷
    Set (Setting_is.Scissor (Some (record { x1 = 0; y1 = 0; x2 = 2; y2 = 1 }))) ∷ deep_triangle 50 (rgba 0xff 0 0 0xff) ∷
    Set (Setting_is.Scissor None) ∷ deep_triangle 60 (rgba 0 0xff 0 0xff) ∷ Swap ∷ [])

-- a triangle of three colours in the default state, and then one that isn't less deep than the clear
abbrev pub by_default : Scene
by_default = on_a_row 1 [] (Clear (rgb 0 0 0) 0 ∷
    Triangle (record { a = record (corner 0 0 (rgba 0xff 0 0 0xff)) { z = 9 }; b = record (corner 64 0 (rgba 0 0xff 0 0xff)) { z = 9 }; c = record (corner 0 64 (rgba 0 0 0xff 0xff)) { z = 9 } }) ∷
    Set (Setting_is.DepthFunc Depth_is.Less) ∷ deep_triangle 5 (rgba 0xff 0 0 0xff) ∷ Swap ∷ [])

-- a texture of two by two greys, whose columns run along the row
abbrev pub along_the_row : Scene
along_the_row = on_a_row 2 (record { number = 1; shape = record { format = L8; width = 2; height = 2 }; bytes = 1 ∷ 2 ∷ 3 ∷ 4 ∷ [] } ∷ [])
    (textured (Clear (rgb 0 0 0) 65535 ∷
    Triangle (record { a = corner 0 0 (rgba 0 0 0 0xff); b = record (corner 64 0 (rgba 0 0 0 0xff)) { s = 64 }; c = corner 0 64 (rgba 0 0 0 0xff) }) ∷ Swap ∷ []))

-- two textures that aren't small, in a region each
abbrev pub two_regions : Scene
two_regions = record (on_a_row 1 (large_texture 1 0x40 ∷ large_texture 2 0x80 ∷ []) (textured (Clear (rgb 0 0 0) 65535 ∷ deep_triangle 0 (rgba 0 0 0 0xff) ∷
    Set (Setting_is.Bind (Some 2)) ∷ deep_triangle 0 (rgba 0 0 0 0xff) ∷ Set (Setting_is.Bind (Some 1)) ∷ deep_triangle 0 (rgba 0 0 0 0xff) ∷ Swap ∷ []))) { regions = 2 }

-- a texture of two by two greys, and one of one texel with sixteen bits
abbrev pub two_images : List Texture
two_images =
    record { number = 1; shape = record { format = L8; width = 2; height = 2 }; bytes = 10 ∷ 20 ∷ 30 ∷ 40 ∷ [] } ∷
    record { number = 2; shape = record { format = Rgb565; width = 1; height = 1 }; bytes = 0x4a ∷ 0x9b ∷ [] } ∷ []

-- a red corner at the window's upper left
abbrev pub red_corner : Vertex
red_corner = corner 0 0 (rgba 0xff 0 0 0xff)

-- a green one four pixels to the right, with a depth and a column of its own
abbrev pub green_corner : Vertex
green_corner = record (corner 64 0 (rgba 0 0xff 0 0xff)) { z = 64; s = 64 }

-- half a blue one four pixels below, with a row of its own
abbrev pub blue_corner : Vertex
blue_corner = record (corner 0 64 (rgba 101 200 250 0x80)) { t = 128 }

-- a triangle of three corners that differ in all: along the first row its depths are 8, 24 and 40
abbrev pub probe : Command
probe = Triangle (record { a = red_corner; b = green_corner; c = blue_corner })

-- the same, written the other way round
abbrev pub turned_probe : Command
turned_probe = Triangle (record { a = red_corner; b = blue_corner; c = green_corner })

-- a frame: a clear of depth 24, then these commands
abbrev pub on_depth_24 : List Command → List Command
on_depth_24 commands = Clear (rgb 16 32 48) 24 ∷ commands ++ Swap ∷ []

-- the triangle in the default state with these settings
abbrev pub probed : List Setting → List Command
probed settings = on_depth_24 (map Set settings ++ probe ∷ [])

-- a scissor of the first row without its first pixel
abbrev pub to_the_right : Setting
to_the_right = Setting_is.Scissor (Some (record { x1 = 1; y1 = 0; x2 = 3; y2 = 1 }))

-- one of the second row's first pixel
abbrev pub below : Setting
below = Setting_is.Scissor (Some (record { x1 = 0; y1 = 1; x2 = 1; y2 = 2 }))

-- and a white triangle of depth 24 where it is less deep than what stands there
abbrev pub then_less_deep : List Setting → List Command
then_less_deep settings = on_depth_24 (map Set settings ++ probe ∷ Set (Setting_is.DepthFunc Depth_is.Less) ∷ deep_triangle 24 (rgba 0xff 0xff 0xff 0xff) ∷ [])

-- each setting otherwise than in the default state
abbrev pub all_on : List Setting
all_on =
    Setting_is.Shade Shade_is.Smooth ∷ Setting_is.DepthFunc Depth_is.Never ∷ Setting_is.DepthWrite true ∷ Setting_is.Blend Blend_is.Add ∷
    Setting_is.TexMode Mode_is.Replace ∷ Setting_is.Wrap Wrap_is.Clamp ∷ Setting_is.Bind (Some 1) ∷ below ∷ []

-- and each as it is there
abbrev pub all_off : List Setting
all_off =
    Setting_is.Shade Shade_is.Flat ∷ Setting_is.DepthFunc Depth_is.Always ∷ Setting_is.DepthWrite false ∷ Setting_is.Blend Blend_is.Off ∷
    Setting_is.TexMode Mode_is.Off ∷ Setting_is.Wrap Wrap_is.Repeat ∷ Setting_is.Bind None ∷ Setting_is.Scissor None ∷ []
