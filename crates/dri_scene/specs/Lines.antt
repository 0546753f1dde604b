-- A line: a form whose numbers are in their ranges.
use Rattle.std.specs.Prelude.{◌*◌, ℤ, pos, neg_ℤ, length, ◌==◌, if◌then◌else◌, Some, None}
use Rattle.std.specs.declared.option.Option.{Option}
use Rattle.dri_base.specs.declared.colour.Rgb.{Rgb}
use Rattle.dri_base.specs.declared.command.Change.{Change}
use Rattle.dri_base.specs.declared.command.Change.TheVariants as Change_is
use Rattle.dri_base.specs.declared.command.Command.{Command}
use Rattle.dri_base.specs.declared.command.Command.TheVariants as Command_is
use Rattle.dri_base.specs.declared.command.Item.{Item}
use Rattle.dri_base.specs.declared.command.Item.TheVariants as Item_is
use Rattle.dri_base.specs.declared.shape.ClipRect.{ClipRect}
use Rattle.dri_base.specs.declared.shape.Vertex.{Vertex}
use Rattle.dri_base.specs.declared.state.Setting.{Setting}
use Rattle.dri_base.specs.declared.state.Setting.TheVariants as Setting_is
use Rattle.dri_base.specs.Limits.{most_scissor, most_side}
use Rattle.dri_base.specs.Ranges.{is_region_size}
use Rattle.dri_base.specs.Scenes.{texel_bytes}
use Rattle.dri_scene.specs.declared.form.WindowForm.{WindowForm}
use Rattle.dri_scene.specs.declared.form.TextureForm.{TextureForm}
use Rattle.dri_scene.specs.declared.form.CornerForm.{CornerForm}
use Rattle.dri_scene.specs.declared.form.ScissorForm.{ScissorForm}
use Rattle.dri_scene.specs.declared.form.SettingForm.{SettingForm}
use Rattle.dri_scene.specs.declared.form.SettingForm.TheVariants as settings
use Rattle.dri_scene.specs.declared.form.CommandForm.{CommandForm}
use Rattle.dri_scene.specs.declared.form.CommandForm.TheVariants as commands
use Rattle.dri_scene.specs.declared.form.ChangeForm.{ChangeForm}
use Rattle.dri_scene.specs.declared.form.ChangeForm.TheVariants as changes
use Rattle.dri_scene.specs.declared.form.ItemForm.{ItemForm}
use Rattle.dri_scene.specs.declared.form.ItemForm.TheVariants as items
use Rattle.dri_scene.specs.declared.form.Form.{Form}
use Rattle.dri_scene.specs.declared.form.Form.TheVariants as forms
use Rattle.dri_scene.specs.declared.line.Line.{Line}
use Rattle.dri_scene.specs.declared.line.Line.TheVariants as lines
use Rattle.dri_words.specs.Words.{◌>>=◌}
use Rattle.dri_words.specs.Ranges.{within, signed_within}

-- screen: sides 1 to 1,024
unfoldable pub screen_in : ℤ → ℤ → Rgb → Option Line
screen_in w h root = do
  width ← within 1 most_side w
  height ← within 1 most_side h
  Some (lines.Screen width height root)

-- heap: 1 to 64 regions of a size
unfoldable pub heap_in : ℤ → ℤ → Option Line
heap_in n s = do
  regions ← within 1 64 n
  size ← within 256 65536 s
  if is_region_size size then Some (lines.Heap regions size) else None

-- window: a number 1 to 64, a place from -1,024 to 1,024, sides 1 to 1,024, an owner 0 to 32
unfoldable pub window_in : WindowForm → Option Line
window_in w = do
  number ← within 1 64 w.number
  x ← signed_within (neg_ℤ (pos most_side)) (pos most_side) w.x
  y ← signed_within (neg_ℤ (pos most_side)) (pos most_side) w.y
  width ← within 1 most_side w.width
  height ← within 1 most_side w.height
  owner ← within 0 32 w.owner
  Some (lines.Window (record { number = number; x = x; y = y; width = width; height = height; background = w.background; owner = owner; mapped = w.mapped }))

-- client: a number 1 to 32, a window 1 to 64
unfoldable pub client_in : ℤ → ℤ → Option Line
client_in c w = do
  number ← within 1 32 c
  window ← within 1 64 w
  Some (lines.Client number window)

-- texture: a number 1 to 64, sides 1 to 256, two digits for each byte of the shape
unfoldable pub texture_in : TextureForm → Option Line
texture_in t = do
  number ← within 1 64 t.number
  width ← within 1 256 t.width
  height ← within 1 256 t.height
  if length t.image == 2 * (texel_bytes t.format * (width * height)) then Some (lines.Texture number (record { format = t.format; width = width; height = height }) t.image) else None

-- a scissor: four numbers 0 to 2,048
unfoldable pub scissor_in : ScissorForm → Option ClipRect
scissor_in s = do
  x1 ← within 0 most_scissor s.x1
  y1 ← within 0 most_scissor s.y1
  x2 ← within 0 most_scissor s.x2
  y2 ← within 0 most_scissor s.y2
  Some record { x1 = x1; y1 = y1; x2 = x2; y2 = y2 }

-- a setting: a texture's number 1 to 64
unfoldable pub setting_in : SettingForm → Option Setting
setting_in (settings.Shade v) = Some (Setting_is.Shade v)
setting_in (settings.DepthFunc v) = Some (Setting_is.DepthFunc v)
setting_in (settings.DepthWrite v) = Some (Setting_is.DepthWrite v)
setting_in (settings.Blend v) = Some (Setting_is.Blend v)
setting_in (settings.TexMode v) = Some (Setting_is.TexMode v)
setting_in (settings.Wrap v) = Some (Setting_is.Wrap v)
setting_in (settings.Bind None) = Some (Setting_is.Bind None)
setting_in (settings.Bind (Some t)) = within 1 64 t >>= λ n. Some (Setting_is.Bind (Some n))
setting_in (settings.Scissor None) = Some (Setting_is.Scissor None)
setting_in (settings.Scissor (Some s)) = scissor_in s >>= λ r. Some (Setting_is.Scissor (Some r))

-- a corner: a place from -32,768 to 32,767, z, s and t 0 to 65,535
unfoldable pub corner_in : CornerForm → Option Vertex
corner_in c = do
  x ← signed_within (neg_ℤ (pos 32768)) (pos 32767) c.x
  y ← signed_within (neg_ℤ (pos 32768)) (pos 32767) c.y
  z ← within 0 65535 c.z
  s ← within 0 65535 c.s
  t ← within 0 65535 c.t
  Some record { x = x; y = y; z = z; colour = c.colour; s = s; t = t }

-- three corners
unfoldable pub triangle_in : CornerForm → CornerForm → CornerForm → Option Command
triangle_in a b c = do
  first ← corner_in a
  second ← corner_in b
  third ← corner_in c
  Some (Command_is.Triangle (record { a = first; b = second; c = third }))

-- a command: a clear's depth 0 to 65,535
unfoldable pub command_in : CommandForm → Option Command
command_in (commands.Set s) = setting_in s >>= λ setting. Some (Command_is.Set setting)
command_in (commands.Clear colour z) = within 0 65535 z >>= λ depth. Some (Command_is.Clear colour depth)
command_in (commands.Triangle a b c) = triangle_in a b c
command_in commands.Swap = Some Command_is.Swap
command_in commands.Yield = Some Command_is.Yield
command_in commands.Die = Some Command_is.Die

-- a move: a window 1 to 64, a place from -1,024 to 1,024
unfoldable pub move_in : ℤ → ℤ → ℤ → Option Change
move_in w across down = do
  window ← within 1 64 w
  x ← signed_within (neg_ℤ (pos most_side)) (pos most_side) across
  y ← signed_within (neg_ℤ (pos most_side)) (pos most_side) down
  Some (Change_is.Move window x y)

-- a resize: a window 1 to 64, sides 1 to 1,024
unfoldable pub resize_in : ℤ → ℤ → ℤ → Option Change
resize_in w across down = do
  window ← within 1 64 w
  width ← within 1 most_side across
  height ← within 1 most_side down
  Some (Change_is.Resize window width height)

-- a change: a window 1 to 64
unfoldable pub change_in : ChangeForm → Option Change
change_in (changes.Map w) = within 1 64 w >>= λ window. Some (Change_is.Map window)
change_in (changes.Unmap w) = within 1 64 w >>= λ window. Some (Change_is.Unmap window)
change_in (changes.Move w x y) = move_in w x y
change_in (changes.Resize w width height) = resize_in w width height
change_in (changes.Raise w) = within 1 64 w >>= λ window. Some (Change_is.Raise window)
change_in (changes.Lower w) = within 1 64 w >>= λ window. Some (Change_is.Lower window)

-- an item: a client 1 to 32
unfoldable pub item_in : ItemForm → Option Item
item_in items.Server = Some (Item_is.Turn 0)
item_in (items.Turn c) = within 1 32 c >>= λ client. Some (Item_is.Turn client)
item_in (items.Kill c) = within 1 32 c >>= λ client. Some (Item_is.Kill client)

-- the line of a form, where each number is in its range
unfoldable pub line_in : Form → Option Line
line_in forms.Title = Some lines.Title
line_in (forms.Screen width height root) = screen_in width height root
line_in (forms.Heap regions size) = heap_in regions size
line_in (forms.Window window) = window_in window
line_in (forms.Client number window) = client_in number window
line_in (forms.Texture texture) = texture_in texture
line_in (forms.Command command) = command_in command >>= λ c. Some (lines.Command c)
line_in forms.Server = Some lines.Server
line_in (forms.Change change) = change_in change >>= λ c. Some (lines.Change c)
line_in forms.Turns = Some lines.Turns
line_in (forms.Item item) = item_in item >>= λ i. Some (lines.Item i)
line_in forms.End = Some lines.End
line_in forms.Done = Some lines.Done
