-- The forms of a line, each a reading of its words, with the numbers as they are written.
use Rattle.std.specs.Prelude.{ℕ, ℤ, List, [], ◌∷◌, Bool, true, false, not, ◌==◌, ◌&&◌, ◌||◌, nat_le, codes, if◌then◌else◌, Some, None}
use Rattle.std.specs.Str.{bytes_eq}
use Rattle.std.specs.List.{list_all}
use Rattle.std.specs.declared.option.Option.{Option}
use Rattle.dri_base.specs.declared.state.Shade.{Shade}
use Rattle.dri_base.specs.declared.state.Shade.TheVariants as Shade_is
use Rattle.dri_base.specs.declared.state.DepthFunc.{DepthFunc}
use Rattle.dri_base.specs.declared.state.DepthFunc.TheVariants as Depth_is
use Rattle.dri_base.specs.declared.state.Blend.{Blend}
use Rattle.dri_base.specs.declared.state.Blend.TheVariants as Blend_is
use Rattle.dri_base.specs.declared.state.TexMode.{TexMode}
use Rattle.dri_base.specs.declared.state.TexMode.TheVariants as Mode_is
use Rattle.dri_base.specs.declared.state.Wrap.{Wrap}
use Rattle.dri_base.specs.declared.state.Wrap.TheVariants as Wrap_is
use Rattle.dri_base.specs.declared.texture.TexFormat.{TexFormat}
use Rattle.dri_base.specs.declared.texture.TexFormat.TheVariants as Format_is
use Rattle.dri_scene.specs.declared.form.CornerForm.{CornerForm}
use Rattle.dri_scene.specs.declared.form.SettingForm.{SettingForm}
use Rattle.dri_scene.specs.declared.form.SettingForm.TheVariants as settings
use Rattle.dri_scene.specs.declared.form.CommandForm.TheVariants as commands
use Rattle.dri_scene.specs.declared.form.ChangeForm.{ChangeForm}
use Rattle.dri_scene.specs.declared.form.ChangeForm.TheVariants as changes
use Rattle.dri_scene.specs.declared.form.ItemForm.{ItemForm}
use Rattle.dri_scene.specs.declared.form.ItemForm.TheVariants as items
use Rattle.dri_scene.specs.declared.form.Form.{Form}
use Rattle.dri_scene.specs.declared.form.Form.TheVariants as forms
use Rattle.dri_words.specs.Parts.{parts_at, is_nil}
use Rattle.dri_words.specs.Words.{◌>>=◌, word_at, number_at, colour_at, colour_alpha_at, alone}

-- the number that a whole word spells
abbrev pub number_in : List ℕ → Option ℤ
number_in word = do
  number ← number_at (parts_at 32 word)
  alone number.0 number.1

-- a hexadecimal digit in lower case
abbrev pub is_hex_digit : ℕ → Bool
is_hex_digit c = (nat_le 48 c && nat_le c 57) || (nat_le 97 c && nat_le c 102)

-- the digits of an image: at least one, and nothing else
abbrev pub is_image : List ℕ → Bool
is_image word = not (is_nil word) && list_all is_hex_digit word

-- dri 1
unfoldable pub title_of : List (List ℕ) → Option Form
title_of fields = do
  version ← word_at fields
  if bytes_eq version.0 (codes "1") then alone forms.Title version.1 else None

-- screen W H RRGGBB
unfoldable pub screen_of : List (List ℕ) → Option Form
screen_of fields = do
  width ← number_at fields
  height ← number_at width.1
  root ← colour_at height.1
  alone (forms.Screen width.0 height.0 root.0) root.1

-- heap N SIZE
unfoldable pub heap_of : List (List ℕ) → Option Form
heap_of fields = do
  regions ← number_at fields
  size ← number_at regions.1
  alone (forms.Heap regions.0 size.0) size.1

-- up: the window is mapped; down: it isn't
unfoldable pub mapped_of : List ℕ → Option Bool
mapped_of word = if bytes_eq word (codes "up") then Some true else if bytes_eq word (codes "down") then Some false else None

-- window W X Y WIDTH HEIGHT RRGGBB OWNER up, or down
unfoldable pub window_of : List (List ℕ) → Option Form
window_of fields = do
  number ← number_at fields
  x ← number_at number.1
  y ← number_at x.1
  width ← number_at y.1
  height ← number_at width.1
  background ← colour_at height.1
  owner ← number_at background.1
  state ← word_at owner.1
  mapped ← mapped_of state.0
  alone (forms.Window (record { number = number.0; x = x.0; y = y.0; width = width.0; height = height.0; background = background.0; owner = owner.0; mapped = mapped })) state.1

-- client C W
unfoldable pub client_of : List (List ℕ) → Option Form
client_of fields = do
  number ← number_at fields
  window ← number_at number.1
  alone (forms.Client number.0 window.0) window.1

-- l8 or rgb565
unfoldable pub format_of : List ℕ → Option TexFormat
format_of word = if bytes_eq word (codes "l8") then Some Format_is.L8 else if bytes_eq word (codes "rgb565") then Some Format_is.Rgb565 else None

-- texture T l8 WIDTH HEIGHT HEX, or rgb565
unfoldable pub texture_of : List (List ℕ) → Option Form
texture_of fields = do
  number ← number_at fields
  word ← word_at number.1
  format ← format_of word.0
  width ← number_at word.1
  height ← number_at width.1
  image ← word_at height.1
  if is_image image.0 then alone (forms.Texture (record { number = number.0; format = format; width = width.0; height = height.0; image = image.0 })) image.1 else None

-- flat or smooth
unfoldable pub shade_of : List ℕ → Option Shade
shade_of word = if bytes_eq word (codes "flat") then Some Shade_is.Flat else if bytes_eq word (codes "smooth") then Some Shade_is.Smooth else None

-- the depth functions
unfoldable pub depth_func_of : List ℕ → Option DepthFunc
depth_func_of word =
    if bytes_eq word (codes "never") then Some Depth_is.Never
    else if bytes_eq word (codes "less") then Some Depth_is.Less
    else if bytes_eq word (codes "equal") then Some Depth_is.Equal
    else if bytes_eq word (codes "lequal") then Some Depth_is.LessEqual
    else if bytes_eq word (codes "greater") then Some Depth_is.Greater
    else if bytes_eq word (codes "notequal") then Some Depth_is.NotEqual
    else if bytes_eq word (codes "gequal") then Some Depth_is.GreaterEqual
    else if bytes_eq word (codes "always") then Some Depth_is.Always
    else None

-- on or off
unfoldable pub switch_of : List ℕ → Option Bool
switch_of word = if bytes_eq word (codes "on") then Some true else if bytes_eq word (codes "off") then Some false else None

-- off, alpha or add
unfoldable pub blend_of : List ℕ → Option Blend
blend_of word =
    if bytes_eq word (codes "off") then Some Blend_is.Off
    else if bytes_eq word (codes "alpha") then Some Blend_is.Alpha
    else if bytes_eq word (codes "add") then Some Blend_is.Add
    else None

-- off, replace or modulate
unfoldable pub tex_mode_of : List ℕ → Option TexMode
tex_mode_of word =
    if bytes_eq word (codes "off") then Some Mode_is.Off
    else if bytes_eq word (codes "replace") then Some Mode_is.Replace
    else if bytes_eq word (codes "modulate") then Some Mode_is.Modulate
    else None

-- repeat or clamp
unfoldable pub wrap_of : List ℕ → Option Wrap
wrap_of word = if bytes_eq word (codes "repeat") then Some Wrap_is.Repeat else if bytes_eq word (codes "clamp") then Some Wrap_is.Clamp else None

-- a setting by a word alone, behind its name
unfoldable pub plain_of : List ℕ → List ℕ → Option SettingForm
plain_of name word =
    if bytes_eq name (codes "shade") then (shade_of word >>= λ v. Some (settings.Shade v))
    else if bytes_eq name (codes "depth") then (depth_func_of word >>= λ v. Some (settings.DepthFunc v))
    else if bytes_eq name (codes "write") then (switch_of word >>= λ v. Some (settings.DepthWrite v))
    else if bytes_eq name (codes "blend") then (blend_of word >>= λ v. Some (settings.Blend v))
    else if bytes_eq name (codes "texmode") then (tex_mode_of word >>= λ v. Some (settings.TexMode v))
    else if bytes_eq name (codes "wrap") then (wrap_of word >>= λ v. Some (settings.Wrap v))
    else None

-- T or none, behind bind
unfoldable pub bind_of : List ℕ → Option SettingForm
bind_of word = if bytes_eq word (codes "none") then Some (settings.Bind None) else (number_in word >>= λ n. Some (settings.Bind (Some n)))

-- X1 Y1 X2 Y2, behind scissor
unfoldable pub corners_of : List ℕ → List (List ℕ) → Option SettingForm
corners_of word fields = do
  x1 ← number_in word
  y1 ← number_at fields
  x2 ← number_at y1.1
  y2 ← number_at x2.1
  alone (settings.Scissor (Some (record { x1 = x1; y1 = y1.0; x2 = x2.0; y2 = y2.0 }))) y2.1

-- X1 Y1 X2 Y2 or none, behind scissor
unfoldable pub scissor_of : List ℕ → List (List ℕ) → Option SettingForm
scissor_of word fields = if bytes_eq word (codes "none") then alone (settings.Scissor None) fields else corners_of word fields

-- what stands behind set: a name, and its value
unfoldable pub setting_of : List ℕ → List ℕ → List (List ℕ) → Option SettingForm
setting_of name word fields =
    if bytes_eq name (codes "bind") then (bind_of word >>= λ s. alone s fields)
    else if bytes_eq name (codes "scissor") then scissor_of word fields
    else (plain_of name word >>= λ s. alone s fields)

-- set and a setting
unfoldable pub set_of : List (List ℕ) → Option Form
set_of fields = do
  name ← word_at fields
  word ← word_at name.1
  setting ← setting_of name.0 word.0 word.1
  Some (forms.Command (commands.Set setting))

-- clear RRGGBB Z
unfoldable pub clear_of : List (List ℕ) → Option Form
clear_of fields = do
  colour ← colour_at fields
  depth ← number_at colour.1
  alone (forms.Command (commands.Clear colour.0 depth.0)) depth.1

-- X Y Z RRGGBBAA S T
unfoldable pub corner_at : List (List ℕ) → Option (CornerForm × List (List ℕ))
corner_at fields = do
  x ← number_at fields
  y ← number_at x.1
  z ← number_at y.1
  colour ← colour_alpha_at z.1
  s ← number_at colour.1
  t ← number_at s.1
  Some (record { x = x.0; y = y.0; z = z.0; colour = colour.0; s = s.0; t = t.0 }, t.1)

-- triangle and three corners
unfoldable pub triangle_of : List (List ℕ) → Option Form
triangle_of fields = do
  a ← corner_at fields
  b ← corner_at a.1
  c ← corner_at b.1
  alone (forms.Command (commands.Triangle a.0 b.0 c.0)) c.1

-- W alone, behind the name of a change that has no other number
unfoldable pub plain_change_of : (ℤ → ChangeForm) → List (List ℕ) → Option Form
plain_change_of change fields = do
  window ← number_at fields
  alone (forms.Change (change window.0)) window.1

-- move W X Y
unfoldable pub move_of : List (List ℕ) → Option Form
move_of fields = do
  window ← number_at fields
  x ← number_at window.1
  y ← number_at x.1
  alone (forms.Change (changes.Move window.0 x.0 y.0)) y.1

-- resize W WIDTH HEIGHT
unfoldable pub resize_of : List (List ℕ) → Option Form
resize_of fields = do
  window ← number_at fields
  width ← number_at window.1
  height ← number_at width.1
  alone (forms.Change (changes.Resize window.0 width.0 height.0)) height.1

-- an item of the schedule: s, x and a number, or a number
unfoldable pub item_in : List ℕ → Option ItemForm
item_in [] = None
item_in (c ∷ cs) =
    if bytes_eq (c ∷ cs) (codes "s") then Some items.Server
    else if c == 120 then (number_in cs >>= λ n. Some (items.Kill n))
    else (number_in (c ∷ cs) >>= λ n. Some (items.Turn n))

-- a line of one item
unfoldable pub item_of : List ℕ → List (List ℕ) → Option Form
item_of word fields = item_in word >>= λ item. alone (forms.Item item) fields

-- a change, by its first word, or else an item
unfoldable pub change_of : List ℕ → List (List ℕ) → Option Form
change_of name fields =
    if bytes_eq name (codes "map") then plain_change_of changes.Map fields
    else if bytes_eq name (codes "unmap") then plain_change_of changes.Unmap fields
    else if bytes_eq name (codes "move") then move_of fields
    else if bytes_eq name (codes "resize") then resize_of fields
    else if bytes_eq name (codes "raise") then plain_change_of changes.Raise fields
    else if bytes_eq name (codes "lower") then plain_change_of changes.Lower fields
    else item_of name fields

-- a command, by its first word, or else a change or an item
unfoldable pub command_of : List ℕ → List (List ℕ) → Option Form
command_of name fields =
    if bytes_eq name (codes "set") then set_of fields
    else if bytes_eq name (codes "clear") then clear_of fields
    else if bytes_eq name (codes "triangle") then triangle_of fields
    else if bytes_eq name (codes "swap") then alone (forms.Command commands.Swap) fields
    else if bytes_eq name (codes "yield") then alone (forms.Command commands.Yield) fields
    else if bytes_eq name (codes "die") then alone (forms.Command commands.Die) fields
    else change_of name fields

-- a line that begins or ends a block, or a texture, by its first word, or else a line within a block
unfoldable pub block_of : List ℕ → List (List ℕ) → Option Form
block_of name fields =
    if bytes_eq name (codes "client") then client_of fields
    else if bytes_eq name (codes "texture") then texture_of fields
    else if bytes_eq name (codes "server") then alone forms.Server fields
    else if bytes_eq name (codes "turns") then alone forms.Turns fields
    else if bytes_eq name (codes "end") then alone forms.End fields
    else command_of name fields

-- a line outside the blocks, by its first word, or else a block's line
unfoldable pub head_of : List ℕ → List (List ℕ) → Option Form
head_of name fields =
    if bytes_eq name (codes "dri") then title_of fields
    else if bytes_eq name (codes "screen") then screen_of fields
    else if bytes_eq name (codes "heap") then heap_of fields
    else if bytes_eq name (codes "window") then window_of fields
    else if bytes_eq name (codes "done") then alone forms.Done fields
    else block_of name fields

-- the form of a line's words
unfoldable pub form_of : List (List ℕ) → Option Form
form_of words = do
  name ← word_at words
  head_of name.0 name.1
