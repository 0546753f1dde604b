-- The text of a scene: its lines, their words, and their bytes.
use Rattle.std.specs.Prelude.{◌≡◌, ℕ, ◌+◌, ◌/◌, ◌%◌, List, [], ◌∷◌, ◌++◌, map, Bool, true, false, nat_lt, if◌then◌else◌, ◌==◌, codes, decimal, Some, None}
use Rattle.std.specs.Fmt.{signed_decimal}
use Rattle.std.specs.List.{flat_map}
use Rattle.dri_base.specs.declared.colour.Rgb.{Rgb}
use Rattle.dri_base.specs.declared.colour.Rgba.{Rgba}
use Rattle.dri_base.specs.declared.command.Change.{Change}
use Rattle.dri_base.specs.declared.command.Change.TheVariants as Change_is
use Rattle.dri_base.specs.declared.command.Command.{Command}
use Rattle.dri_base.specs.declared.command.Command.TheVariants as Command_is
use Rattle.dri_base.specs.declared.command.Item.{Item}
use Rattle.dri_base.specs.declared.command.Item.TheVariants as Item_is
use Rattle.dri_base.specs.declared.scene.ClientScript.{ClientScript}
use Rattle.dri_base.specs.declared.scene.Scene.{Scene}
use Rattle.dri_base.specs.declared.scene.Window.{Window}
use Rattle.dri_base.specs.declared.shape.Vertex.{Vertex}
use Rattle.dri_base.specs.declared.state.Shade.{Shade}
use Rattle.dri_base.specs.declared.state.Shade.TheVariants as Shade_is
use Rattle.dri_base.specs.declared.state.DepthFunc.{DepthFunc}
use Rattle.dri_base.specs.declared.state.DepthFunc.TheVariants as Depth_is
use Rattle.dri_base.specs.declared.state.Blend.{Blend}
use Rattle.dri_base.specs.declared.state.Blend.TheVariants as Blend_is
use Rattle.dri_base.specs.declared.state.TexMode.{TexMode}
use Rattle.dri_base.specs.declared.state.TexMode.TheVariants as Mode_is
use Rattle.dri_base.specs.declared.state.Wrap.{Wrap}
use Rattle.dri_base.specs.declared.state.Wrap.TheVariants as Wrap_is
use Rattle.dri_base.specs.declared.state.Setting.{Setting}
use Rattle.dri_base.specs.declared.state.Setting.TheVariants as Setting_is
use Rattle.dri_base.specs.declared.texture.TexFormat.{TexFormat}
use Rattle.dri_base.specs.declared.texture.TexFormat.TheVariants as Format_is
use Rattle.dri_base.specs.declared.texture.Texture.{Texture}
use Rattle.dri_scene.specs.declared.words.Word.{Word}
use Rattle.dri_scene.specs.declared.words.Word.TheVariants as words
use Rattle.dri_words.specs.Lines.{line_bytes}

-- a hexadecimal digit in lower case
abbrev pub digit : ℕ → ℕ
digit n = if nat_lt n 10 then n + 48 else n + 87

-- a byte as two hexadecimal digits, the higher first
abbrev pub hex : ℕ → List ℕ
hex n = digit (n / 16) ∷ digit (n % 16) ∷ []

-- RRGGBB
abbrev pub colour_word : Rgb → List ℕ
colour_word c = hex c.r ++ hex c.g ++ hex c.b

-- RRGGBBAA
abbrev pub colour_alpha_word : Rgba → List ℕ
colour_alpha_word c = hex c.r ++ hex c.g ++ hex c.b ++ hex c.a

-- up or down
abbrev pub mapped_word : Bool → List ℕ
mapped_word true = codes "up"
mapped_word false = codes "down"

-- the words of a window line
abbrev pub window_words : Window → List (List ℕ)
window_words w = codes "window" ∷ decimal w.number ∷ signed_decimal w.x ∷ signed_decimal w.y ∷ decimal w.width ∷ decimal w.height ∷ colour_word w.background ∷ decimal w.owner ∷ mapped_word w.mapped ∷ []

-- l8 or rgb565
abbrev pub format_word : TexFormat → List ℕ
format_word Format_is.L8 = codes "l8"
format_word Format_is.Rgb565 = codes "rgb565"

-- a word's bytes
abbrev pub spelled : Word → List ℕ
spelled (words.Number n) = decimal n
spelled (words.Small n) = decimal n
spelled (words.Signed z) = signed_decimal z
spelled (words.Colour c) = colour_word c
spelled (words.ColourAlpha c) = colour_alpha_word c
spelled (words.Mapped is_up) = mapped_word is_up
spelled (words.Format format) = format_word format

-- a space and a word's bytes
abbrev pub spaced : Word → List ℕ
spaced word = 32 ∷ spelled word

-- the words of a texture line
abbrev pub texture_words : Texture → List (List ℕ)
texture_words t = codes "texture" ∷ decimal t.number ∷ format_word t.shape.format ∷ decimal t.shape.width ∷ decimal t.shape.height ∷ flat_map hex t.bytes ∷ []

-- flat or smooth
abbrev pub shade_word : Shade → List ℕ
shade_word Shade_is.Flat = codes "flat"
shade_word Shade_is.Smooth = codes "smooth"

-- the depth functions
abbrev pub depth_func_word : DepthFunc → List ℕ
depth_func_word Depth_is.Never = codes "never"
depth_func_word Depth_is.Less = codes "less"
depth_func_word Depth_is.Equal = codes "equal"
depth_func_word Depth_is.LessEqual = codes "lequal"
depth_func_word Depth_is.Greater = codes "greater"
depth_func_word Depth_is.NotEqual = codes "notequal"
depth_func_word Depth_is.GreaterEqual = codes "gequal"
depth_func_word Depth_is.Always = codes "always"

-- on or off
abbrev pub switch_word : Bool → List ℕ
switch_word true = codes "on"
switch_word false = codes "off"

-- off, alpha or add
abbrev pub blend_word : Blend → List ℕ
blend_word Blend_is.Off = codes "off"
blend_word Blend_is.Alpha = codes "alpha"
blend_word Blend_is.Add = codes "add"

-- off, replace or modulate
abbrev pub tex_mode_word : TexMode → List ℕ
tex_mode_word Mode_is.Off = codes "off"
tex_mode_word Mode_is.Replace = codes "replace"
tex_mode_word Mode_is.Modulate = codes "modulate"

-- repeat or clamp
abbrev pub wrap_word : Wrap → List ℕ
wrap_word Wrap_is.Repeat = codes "repeat"
wrap_word Wrap_is.Clamp = codes "clamp"

-- the words of a setting: its name and its value
abbrev pub setting_words : Setting → List (List ℕ)
setting_words (Setting_is.Shade v) = codes "shade" ∷ shade_word v ∷ []
setting_words (Setting_is.DepthFunc v) = codes "depth" ∷ depth_func_word v ∷ []
setting_words (Setting_is.DepthWrite v) = codes "write" ∷ switch_word v ∷ []
setting_words (Setting_is.Blend v) = codes "blend" ∷ blend_word v ∷ []
setting_words (Setting_is.TexMode v) = codes "texmode" ∷ tex_mode_word v ∷ []
setting_words (Setting_is.Wrap v) = codes "wrap" ∷ wrap_word v ∷ []
setting_words (Setting_is.Bind None) = codes "bind" ∷ codes "none" ∷ []
setting_words (Setting_is.Bind (Some t)) = codes "bind" ∷ decimal t ∷ []
setting_words (Setting_is.Scissor None) = codes "scissor" ∷ codes "none" ∷ []
setting_words (Setting_is.Scissor (Some r)) = codes "scissor" ∷ decimal r.x1 ∷ decimal r.y1 ∷ decimal r.x2 ∷ decimal r.y2 ∷ []

-- the words of a corner, before other words
abbrev pub corner_words : Vertex → List (List ℕ) → List (List ℕ)
corner_words v more = signed_decimal v.x ∷ signed_decimal v.y ∷ decimal v.z ∷ colour_alpha_word v.colour ∷ decimal v.s ∷ decimal v.t ∷ more

-- the words of a command line
abbrev pub command_words : Command → List (List ℕ)
command_words (Command_is.Set setting) = codes "set" ∷ setting_words setting
command_words (Command_is.Clear colour depth) = codes "clear" ∷ colour_word colour ∷ decimal depth ∷ []
command_words (Command_is.Triangle t) = codes "triangle" ∷ corner_words t.a (corner_words t.b (corner_words t.c []))
command_words Command_is.Swap = codes "swap" ∷ []
command_words Command_is.Yield = codes "yield" ∷ []
command_words Command_is.Die = codes "die" ∷ []

-- the words of a change line
abbrev pub change_words : Change → List (List ℕ)
change_words (Change_is.Map w) = codes "map" ∷ decimal w ∷ []
change_words (Change_is.Unmap w) = codes "unmap" ∷ decimal w ∷ []
change_words (Change_is.Move w x y) = codes "move" ∷ decimal w ∷ signed_decimal x ∷ signed_decimal y ∷ []
change_words (Change_is.Resize w width height) = codes "resize" ∷ decimal w ∷ decimal width ∷ decimal height ∷ []
change_words (Change_is.Raise w) = codes "raise" ∷ decimal w ∷ []
change_words (Change_is.Lower w) = codes "lower" ∷ decimal w ∷ []

-- the word of an item: s for the server's turn, the number for a client's, x before it for a kill
abbrev pub item_words : Item → List (List ℕ)
item_words (Item_is.Turn actor) = (if actor == 0 then codes "s" else decimal actor) ∷ []
item_words (Item_is.Kill c) = (120 ∷ decimal c) ∷ []

-- the line that ends a block
abbrev pub end_words : List (List ℕ)
end_words = codes "end" ∷ []

-- the lines of a client's block
abbrev pub client_lines : ClientScript → List (List (List ℕ))
client_lines c = (codes "client" ∷ decimal c.number ∷ decimal c.window ∷ []) ∷ (map texture_words c.textures ++ (map command_words c.commands ++ (end_words ∷ [])))

-- a block's name, its lines and its end; no line where there is nothing in it
abbrev pub block_lines : List ℕ → List (List (List ℕ)) → List (List (List ℕ))
block_lines name [] = []
block_lines name (line ∷ more) = (name ∷ []) ∷ ((line ∷ more) ++ (end_words ∷ []))

-- the words of the screen's line
abbrev pub screen_words : Scene → List (List ℕ)
screen_words s = codes "screen" ∷ decimal s.width ∷ decimal s.height ∷ colour_word s.root ∷ []

-- the lines of the head: the title, the screen and the heap
abbrev pub head_lines : Scene → List (List (List ℕ))
head_lines s = (codes "dri" ∷ codes "1" ∷ []) ∷ screen_words s ∷ (codes "heap" ∷ decimal s.regions ∷ decimal s.region_size ∷ []) ∷ []

-- the lines behind the windows: the clients' blocks, the server's, the turns, and done
abbrev pub lines_behind_windows : Scene → List (List (List ℕ))
lines_behind_windows s =
    flat_map client_lines s.clients ++ (block_lines (codes "server") (map change_words s.changes) ++ (block_lines (codes "turns") (map item_words s.turns) ++ ((codes "done" ∷ []) ∷ [])))

-- the lines of a scene, each as its words
unfoldable pub scene_lines : Scene → List (List (List ℕ))
scene_lines s = head_lines s ++ (map window_words s.windows ++ lines_behind_windows s)

-- the text after is the text before and a piece more
pub record Adds (before piece after : List ℕ) : Type 0 where
  pub is : after ≡ before ++ piece

-- the text of a scene
unfoldable pub scene_text : Scene → List ℕ
scene_text s = flat_map line_bytes (scene_lines s)
