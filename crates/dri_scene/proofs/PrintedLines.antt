-- Each printed line has its form, and the form its line.
use Rattle.std.proofs.Common.{◌≡◌, ℕ, zero, suc, ◌+◌, ◌*◌, ◌%◌, ◌<◌, ◌≤◌, Bool, true, false, List, [], ◌∷◌, ◌++◌, length, Some, None, Option, ℤ, pos, neg_ℤ, refl, sym, ap, ◌∙◌, codes, ◌==◌, if◌then◌else◌, eq-eqb, mul-le-mul, arith}
use Rattle.std.specs.List.{All, flat_map}
use Rattle.std.specs.Str.{bytes_eq}
use Rattle.std.specs.Fmt.{decimal, signed_decimal}
use Rattle.std.proofs.lemmas.Bool.{ne_eqb}
use Rattle.std.proofs.lemmas.Fmt.{decimal_by_steps}
use Rattle.dri_base.specs.declared.colour.Rgb.{Rgb}
use Rattle.dri_base.specs.declared.colour.Rgba.{Rgba}
use Rattle.dri_base.specs.declared.command.Change.{Change}
use Rattle.dri_base.specs.declared.command.Change.TheVariants as Change_is
use Rattle.dri_base.specs.declared.command.Command.{Command}
use Rattle.dri_base.specs.declared.command.Command.TheVariants as Command_is
use Rattle.dri_base.specs.declared.command.Item.{Item}
use Rattle.dri_base.specs.declared.command.Item.TheVariants as Item_is
use Rattle.dri_base.specs.declared.scene.Window.{Window}
use Rattle.dri_base.specs.declared.shape.ClipRect.{ClipRect}
use Rattle.dri_base.specs.declared.shape.Vertex.{Vertex}
use Rattle.dri_base.specs.declared.state.Setting.{Setting}
use Rattle.dri_base.specs.declared.state.Setting.TheVariants as Setting_is
use Rattle.dri_base.specs.declared.state.Shade.{Shade}
use Rattle.dri_base.specs.declared.state.Shade.TheVariants as Shade_is
use Rattle.dri_base.specs.declared.state.DepthFunc.{DepthFunc}
use Rattle.dri_base.specs.declared.state.DepthFunc.TheVariants as Depth_is
use Rattle.dri_base.specs.declared.state.Blend.{Blend}
use Rattle.dri_base.specs.declared.state.Blend.TheVariants as Blend_is
use Rattle.dri_base.specs.declared.state.TexMode.{TexMode}
use Rattle.dri_base.specs.declared.state.TexMode.TheVariants as Mode_is
use Rattle.dri_base.specs.declared.state.Wrap.{Wrap}
use Rattle.dri_base.specs.declared.state.Wrap.TheVariants as Wrap_is
use Rattle.dri_base.specs.declared.texture.TexFormat.{TexFormat}
use Rattle.dri_base.specs.declared.texture.TexFormat.TheVariants as Format_is
use Rattle.dri_base.specs.declared.texture.Texture.{Texture}
use Rattle.dri_base.specs.Ranges.{IsWithin, IsSide, IsPlace, IsRegionSize, WindowInRange, TextureInRange, TriangleInRange, VertexInRange, ScissorInRange, IsVertexPlace}
use Rattle.dri_base.specs.Scenes.{named_by, texel_bytes}
use Rattle.dri_base.proofs.RegionSizes.{region_size_tested, region_size_within}
use Rattle.dri_words.specs.Ranges.{signed_within}
use Rattle.dri_words.specs.Words.{◌>>=◌, number_at, colour_at, colour_alpha_at}
use Rattle.dri_scene.specs.declared.form.CommandForm.{CommandForm}
use Rattle.dri_scene.specs.declared.form.CommandForm.TheVariants as commands
use Rattle.dri_scene.specs.declared.form.CornerForm.{CornerForm}
use Rattle.dri_scene.specs.declared.form.SettingForm.{SettingForm}
use Rattle.dri_scene.specs.declared.form.SettingForm.TheVariants as settings
use Rattle.dri_scene.specs.declared.form.ChangeForm.{ChangeForm}
use Rattle.dri_scene.specs.declared.form.ChangeForm.TheVariants as changes
use Rattle.dri_scene.specs.declared.form.ItemForm.{ItemForm}
use Rattle.dri_scene.specs.declared.form.ItemForm.TheVariants as items
use Rattle.dri_scene.specs.declared.form.Form.{Form}
use Rattle.dri_scene.specs.declared.form.Form.TheVariants as forms
use Rattle.dri_scene.specs.declared.line.Line.{Line}
use Rattle.dri_scene.specs.declared.line.Line.TheVariants as lines
use Rattle.dri_scene.specs.Forms.{number_in, is_image, title_of, screen_of, heap_of, mapped_of, window_of, client_of, format_of, texture_of, shade_of, depth_func_of, switch_of, blend_of, tex_mode_of, wrap_of, plain_of, bind_of, corners_of, scissor_of, setting_of, set_of, clear_of, corner_at, triangle_of, plain_change_of, move_of, resize_of, item_in, item_of, change_of, command_of, block_of, head_of, form_of}
use Rattle.dri_scene.specs.Lines.{screen_in, heap_in, window_in, client_in, texture_in, scissor_in, setting_in, corner_in, triangle_in, command_in, move_in, resize_in, change_in, line_in}
use Rattle.dri_scene.specs.Shapes.{IsChangeRanged}
use Rattle.dri_scene.specs.Stored.{IsColour, IsColourAlpha, IsCorner, IsStoredCommand, IsStoredTexture}
use Rattle.dri_scene.specs.Texts.{colour_word, colour_alpha_word, mapped_word, format_word, shade_word, depth_func_word, switch_word, blend_word, tex_mode_word, wrap_word, setting_words, corner_words, command_words, window_words, texture_words, change_words, item_words, hex}
use Rattle.dri_words.proofs.Splitting.{split_last}
use Rattle.dri_words.proofs.Written.{unsigned_read, number_there}
use Rattle.dri_words.proofs.PrintedNumbers.{decimal_word, kept}
use Rattle.dri_scene.proofs.PrintedWords.{signed_back, signed_kept, colour_read, colour_alpha_read, image_digits, image_size}
use Rattle.dri_scene.specs.Lines.{item_in as item_line_in}

-- a word whose first byte is below the letters
record StartsLow (w : List ℕ) : Type 0 where
  first : ℕ
  rest : List ℕ
  is : w ≡ first ∷ rest
  low : first < 58

-- the words of a printed line have this form, and the form is this line
pub record IsRead (words : List (List ℕ)) (form : Form) (line : Line) : Type 0 where
  pub is : form_of words ≡ Some form
  pub ranged : line_in form ≡ Some line

-- the next word's number
unsigned_there : (n : ℕ) (ws : List (List ℕ)) → n < 10000000000 → number_at (decimal n ∷ ws) ≡ Some (pos n, ws)
unsigned_there n ws small = number_there (decimal n) ws (pos n) (unsigned_read n small)

-- and one of either sign
place_there : (z : ℤ) (ws : List (List ℕ)) → IsPlace z → number_at (signed_decimal z ∷ ws) ≡ Some (z, ws)
place_there z ws is = number_there (signed_decimal z) ws z (signed_back z 1024 1024 (omega arith) (omega arith) (record { above = is.0; below = is.1 }))

colour_there : (c : Rgb) (ws : List (List ℕ)) → IsColour c → colour_at (colour_word c ∷ ws) ≡ Some (c, ws)
unfolding colour_at
colour_there c ws is = ap (λ (o : Option Rgb). o >>= λ x. Some (x, ws)) (colour_read c is.r is.g is.b)

-- a side
side_there : (n : ℕ) (ws : List (List ℕ)) → IsSide n → number_at (decimal n ∷ ws) ≡ Some (pos n, ws)
side_there n ws is = unsigned_there n ws (omega (arith, is.1))

-- a number of at most a thousand and some
few_there : (high n : ℕ) (ws : List (List ℕ)) → high < 1000000 → n ≤ high → number_at (decimal n ∷ ws) ≡ Some (pos n, ws)
few_there high n ws small is = unsigned_there n ws (omega (arith, is, small))

place_kept : (z : ℤ) → IsPlace z → signed_within (neg_ℤ (pos 1024)) (pos 1024) z ≡ Some z
place_kept z is = signed_kept z 1024 1024 (record { above = is.0; below = is.1 })

-- lines without numbers
pub title_read : IsRead (codes "dri" ∷ codes "1" ∷ []) forms.Title lines.Title
unfolding form_of head_of title_of line_in
title_read = record { is = refl; ranged = refl }

pub done_read : IsRead (codes "done" ∷ []) forms.Done lines.Done
unfolding form_of head_of line_in
done_read = record { is = refl; ranged = refl }

pub server_read : IsRead (codes "server" ∷ []) forms.Server lines.Server
unfolding form_of head_of block_of line_in
server_read = record { is = refl; ranged = refl }

pub turns_read : IsRead (codes "turns" ∷ []) forms.Turns lines.Turns
unfolding form_of head_of block_of line_in
turns_read = record { is = refl; ranged = refl }

pub end_read : IsRead (codes "end" ∷ []) forms.End lines.End
unfolding form_of head_of block_of line_in
end_read = record { is = refl; ranged = refl }

-- the screen
pub screen_read : (w h : ℕ) (root : Rgb) → IsSide w → IsSide h → IsColour root → IsRead (codes "screen" ∷ decimal w ∷ decimal h ∷ colour_word root ∷ []) (forms.Screen (pos w) (pos h) root) (lines.Screen w h root)
unfolding form_of head_of screen_of line_in screen_in
screen_read w h root wide high colour = record {
  is = rw (side_there w (decimal h ∷ colour_word root ∷ []) wide, side_there h (colour_word root ∷ []) high, colour_there root [] colour) refl;
  ranged = rw (kept 1 1024 w wide.0 wide.1, kept 1 1024 h high.0 high.1) refl;
}

mapped_read : (b : Bool) → mapped_of (mapped_word b) ≡ Some b
unfolding mapped_of
mapped_read true = refl
mapped_read false = refl

-- a window
pub window_read : (w : Window) → WindowInRange w → IsColour w.background →
    IsRead (window_words w) (forms.Window (record { number = pos w.number; x = w.x; y = w.y; width = pos w.width; height = pos w.height; background = w.background; owner = pos w.owner; mapped = w.mapped })) (lines.Window w)
unfolding form_of head_of window_of line_in window_in
window_read w range colour = record {
  is = rw (few_there 64 w.number _ (omega arith) range.numbered.1, place_there w.x _ range.left, place_there w.y _ range.top, side_there w.width _ range.wide, side_there w.height _ range.high, colour_there w.background _ colour, few_there 32 w.owner _ (omega arith) range.owned, mapped_read w.mapped) refl;
  ranged = rw (kept 1 64 w.number range.numbered.0 range.numbered.1, place_kept w.x range.left, place_kept w.y range.top, kept 1 1024 w.width range.wide.0 range.wide.1, kept 1 1024 w.height range.high.0 range.high.1, kept 0 32 w.owner (omega arith) range.owned) refl;
}

-- the heap
pub heap_read : (n size : ℕ) → IsWithin 1 64 n → IsRegionSize size → IsRead (codes "heap" ∷ decimal n ∷ decimal size ∷ []) (forms.Heap (pos n) (pos size)) (lines.Heap n size)
unfolding form_of head_of heap_of line_in heap_in
heap_read n size few sized =
    let is = region_size_within size sized in
    record {
      is = rw (few_there 64 n (decimal size ∷ []) (omega arith) few.1, few_there 65536 size [] (omega arith) is.1) refl;
      ranged = rw (kept 1 64 n few.0 few.1, kept 256 65536 size is.0 is.1, region_size_tested size sized) refl;
    }

-- a client's head
pub client_read : (c w : ℕ) → IsWithin 1 32 c → IsWithin 1 64 w → IsRead (codes "client" ∷ decimal c ∷ decimal w ∷ []) (forms.Client (pos c) (pos w)) (lines.Client c w)
unfolding form_of head_of block_of client_of line_in client_in
client_read c w client window = record {
  is = rw (few_there 32 c (decimal w ∷ []) (omega arith) client.1, few_there 64 w [] (omega arith) window.1) refl;
  ranged = rw (kept 1 32 c client.0 client.1, kept 1 64 w window.0 window.1) refl;
}

format_read : (f : TexFormat) → format_of (format_word f) ≡ Some f
unfolding format_of
format_read Format_is.L8 = refl
format_read Format_is.Rgb565 = refl

some_bytes : (f : TexFormat) (w h n : ℕ) → 1 ≤ w → 1 ≤ h → n ≡ texel_bytes f * (w * h) → 1 ≤ n
some_bytes Format_is.L8 w h n wide high is = let area = mul-le-mul wide high in omega (arith, is, area)
some_bytes Format_is.Rgb565 w h n wide high is = let area = mul-le-mul wide high in omega (arith, is, area)

image_is : (bytes : List ℕ) → 1 ≤ length bytes → All (λ b. b < 256) bytes → is_image (flat_map hex bytes) ≡ true
image_is [] some all = absurd (omega (arith, some))
image_is (b ∷ bs) some all = image_digits (b ∷ bs) all

-- a texture
pub texture_read : (heap : ℕ) (t : Texture) → TextureInRange heap t → IsStoredTexture t →
    IsRead (texture_words t) (forms.Texture (record { number = pos t.number; format = t.shape.format; width = pos t.shape.width; height = pos t.shape.height; image = flat_map hex t.bytes })) (lines.Texture t.number t.shape (flat_map hex t.bytes))
unfolding form_of head_of block_of texture_of line_in texture_in
texture_read heap t range stored =
    let some = some_bytes t.shape.format t.shape.width t.shape.height (length t.bytes) range.wide.0 range.high.0 range.whole in
    let size : length (flat_map hex t.bytes) ≡ 2 * (texel_bytes t.shape.format * (t.shape.width * t.shape.height)) = image_size t.bytes ∙ ap (λ n. 2 * n) range.whole in
    record {
      is = rw (few_there 64 t.number _ (omega arith) range.numbered.1, format_read t.shape.format, few_there 256 t.shape.width _ (omega arith) range.wide.1, few_there 256 t.shape.height _ (omega arith) range.high.1, image_is t.bytes some stored) refl;
      ranged = rw (kept 1 64 t.number range.numbered.0 range.numbered.1, kept 1 256 t.shape.width range.wide.0 range.wide.1, kept 1 256 t.shape.height range.high.0 range.high.1, eq-eqb _ _ size) refl;
    }

-- a whole word's number
number_in_read : (n : ℕ) → n < 10000000000 → number_in (decimal n) ≡ Some (pos n)
number_in_read n small = rw (split_last 32 32 (decimal n) (omega arith) (decimal_word n (omega (arith, small))), unsigned_there n [] small) refl

shade_read : (v : Shade) → shade_of (shade_word v) ≡ Some v
unfolding shade_of
shade_read Shade_is.Flat = refl
shade_read Shade_is.Smooth = refl

depth_func_read : (v : DepthFunc) → depth_func_of (depth_func_word v) ≡ Some v
unfolding depth_func_of
depth_func_read Depth_is.Never = refl
depth_func_read v = refl

switch_read : (v : Bool) → switch_of (switch_word v) ≡ Some v
unfolding switch_of
switch_read true = refl
switch_read false = refl

blend_read : (v : Blend) → blend_of (blend_word v) ≡ Some v
unfolding blend_of
blend_read Blend_is.Off = refl
blend_read v = refl

tex_mode_read : (v : TexMode) → tex_mode_of (tex_mode_word v) ≡ Some v
unfolding tex_mode_of
tex_mode_read Mode_is.Off = refl
tex_mode_read v = refl

wrap_read : (v : Wrap) → wrap_of (wrap_word v) ≡ Some v
unfolding wrap_of
wrap_read Wrap_is.Repeat = refl
wrap_read Wrap_is.Clamp = refl

-- what a setting is written as
abbrev pub written_scissor : ClipRect → SettingForm
written_scissor r = settings.Scissor (Some (record { x1 = pos r.x1; y1 = pos r.y1; x2 = pos r.x2; y2 = pos r.y2 }))

abbrev pub written_setting : Setting → SettingForm
written_setting (Setting_is.Shade v) = settings.Shade v
written_setting (Setting_is.DepthFunc v) = settings.DepthFunc v
written_setting (Setting_is.DepthWrite v) = settings.DepthWrite v
written_setting (Setting_is.Blend v) = settings.Blend v
written_setting (Setting_is.TexMode v) = settings.TexMode v
written_setting (Setting_is.Wrap v) = settings.Wrap v
written_setting (Setting_is.Bind None) = settings.Bind None
written_setting (Setting_is.Bind (Some t)) = settings.Bind (Some (pos t))
written_setting (Setting_is.Scissor None) = settings.Scissor None
written_setting (Setting_is.Scissor (Some r)) = written_scissor r

-- the numbers of a setting
abbrev pub IsWritable : Setting → Type 0
IsWritable (Setting_is.Bind (Some t)) = IsWithin 1 64 t
IsWritable (Setting_is.Scissor (Some r)) = ScissorInRange r
IsWritable setting = Unit {0}

-- a number's first byte is a digit
digit_first : (n : ℕ) → n < 10000000000 → StartsLow (decimal n)
digit_first n small = decimal_by_steps (λ m ds. StartsLow ds) one more n (omega (arith, small)) where
  one : (m : ℕ) → m < 10 → StartsLow ((48 + m) ∷ [])
  one m below = record { first = 48 + m; rest = []; is = refl; low = omega (arith, below) }

  more : (m : ℕ) (ds : List ℕ) → 10 ≤ m → StartsLow ds → StartsLow (ds ++ ((48 + m % 10) ∷ []))
  more m ds large before = record { first = before.first; rest = before.rest ++ ((48 + m % 10) ∷ []); is = ap (λ t. t ++ ((48 + m % 10) ∷ [])) before.is; low = before.low }

-- a word that is a number isn't none
number_not_none : (n : ℕ) → n < 10000000000 → bytes_eq (decimal n) (codes "none") ≡ false
number_not_none n small =
    let starts = digit_first n small in
    let low = starts.low in
    ap (λ (t : List ℕ). bytes_eq t (codes "none")) starts.is ∙ rw (ne_eqb starts.first 110 (λ e. omega (arith, e, low))) refl

set_read : (s : Setting) → IsWritable s → form_of (codes "set" ∷ setting_words s) ≡ Some (forms.Command (commands.Set (written_setting s)))
unfolding form_of head_of block_of command_of set_of setting_of plain_of bind_of scissor_of corners_of
set_read (Setting_is.Shade v) ok = rw (shade_read v) refl
set_read (Setting_is.DepthFunc v) ok = rw (depth_func_read v) refl
set_read (Setting_is.DepthWrite v) ok = rw (switch_read v) refl
set_read (Setting_is.Blend v) ok = rw (blend_read v) refl
set_read (Setting_is.TexMode v) ok = rw (tex_mode_read v) refl
set_read (Setting_is.Wrap v) ok = rw (wrap_read v) refl
set_read (Setting_is.Bind None) ok = refl
set_read (Setting_is.Scissor None) ok = refl
set_read (Setting_is.Bind (Some t)) ok = rw (number_not_none t (omega (arith, ok.1)), number_in_read t (omega (arith, ok.1))) refl
set_read (Setting_is.Scissor (Some r)) ok =
    rw (number_not_none r.x1 (omega (arith, ok.left)), number_in_read r.x1 (omega (arith, ok.left)), few_there 2048 r.y1 _ (omega arith) ok.top, few_there 2048 r.x2 _ (omega arith) ok.right, few_there 2048 r.y2 _ (omega arith) ok.bottom) refl

scissor_kept : (r : ClipRect) → ScissorInRange r → scissor_in (record { x1 = pos r.x1; y1 = pos r.y1; x2 = pos r.x2; y2 = pos r.y2 }) ≡ Some r
unfolding scissor_in
scissor_kept r ok = rw (kept 0 2048 r.x1 (omega arith) ok.left, kept 0 2048 r.y1 (omega arith) ok.top, kept 0 2048 r.x2 (omega arith) ok.right, kept 0 2048 r.y2 (omega arith) ok.bottom) refl

setting_kept : (s : Setting) → IsWritable s → setting_in (written_setting s) ≡ Some s
unfolding setting_in
setting_kept (Setting_is.Bind (Some t)) ok = rw (kept 1 64 t ok.0 ok.1) refl
setting_kept (Setting_is.Scissor (Some r)) ok = rw (scissor_kept r ok) refl
setting_kept (Setting_is.Bind None) ok = refl
setting_kept (Setting_is.Scissor None) ok = refl
setting_kept (Setting_is.Shade v) ok = refl
setting_kept (Setting_is.DepthFunc v) ok = refl
setting_kept (Setting_is.DepthWrite v) ok = refl
setting_kept (Setting_is.Blend v) ok = refl
setting_kept (Setting_is.TexMode v) ok = refl
setting_kept (Setting_is.Wrap v) ok = refl

colour_alpha_there : (c : Rgba) (ws : List (List ℕ)) → IsColourAlpha c → colour_alpha_at (colour_alpha_word c ∷ ws) ≡ Some (c, ws)
unfolding colour_alpha_at
colour_alpha_there c ws is = ap (λ (o : Option Rgba). o >>= λ x. Some (x, ws)) (colour_alpha_read c is.r is.g is.b is.a)

vertex_there : (z : ℤ) (ws : List (List ℕ)) → IsVertexPlace z → number_at (signed_decimal z ∷ ws) ≡ Some (z, ws)
vertex_there z ws is = number_there (signed_decimal z) ws z (signed_back z 32768 32767 (omega arith) (omega arith) (record { above = is.0; below = is.1 }))

vertex_kept : (z : ℤ) → IsVertexPlace z → signed_within (neg_ℤ (pos 32768)) (pos 32767) z ≡ Some z
vertex_kept z is = signed_kept z 32768 32767 (record { above = is.0; below = is.1 })

-- a corner
abbrev pub written_corner : Vertex → CornerForm
written_corner v = record { x = v.x; y = v.y; z = pos v.z; colour = v.colour; s = pos v.s; t = pos v.t }

corner_there : (v : Vertex) (ws : List (List ℕ)) → VertexInRange v → IsCorner v → corner_at (corner_words v ws) ≡ Some (written_corner v, ws)
unfolding corner_at
corner_there v ws range is =
    rw (vertex_there v.x _ range.0, vertex_there v.y _ range.1, few_there 65535 v.z _ (omega arith) (omega (arith, is.z)), colour_alpha_there v.colour _ is.colour, few_there 65535 v.s _ (omega arith) (omega (arith, is.s)), few_there 65535 v.t ws (omega arith) (omega (arith, is.t))) refl

corner_kept : (v : Vertex) → VertexInRange v → IsCorner v → corner_in (written_corner v) ≡ Some v
unfolding corner_in
corner_kept v range is =
    rw (vertex_kept v.x range.0, vertex_kept v.y range.1, kept 0 65535 v.z (omega arith) (omega (arith, is.z)), kept 0 65535 v.s (omega arith) (omega (arith, is.s)), kept 0 65535 v.t (omega arith) (omega (arith, is.t))) refl

-- what a command is written as
abbrev pub written_command : Command → CommandForm
written_command (Command_is.Set s) = commands.Set (written_setting s)
written_command (Command_is.Clear colour depth) = commands.Clear colour (pos depth)
written_command (Command_is.Triangle t) = commands.Triangle (written_corner t.a) (written_corner t.b) (written_corner t.c)
written_command Command_is.Swap = commands.Swap
written_command Command_is.Yield = commands.Yield
written_command Command_is.Die = commands.Die

-- the numbers of a command
abbrev pub IsWritableCommand : Command → Type 0
IsWritableCommand (Command_is.Set s) = IsWritable s
IsWritableCommand (Command_is.Triangle t) = TriangleInRange t
IsWritableCommand command = Unit {0}

-- a command
pub command_read : (c : Command) → IsWritableCommand c → IsStoredCommand c → IsRead (command_words c) (forms.Command (written_command c)) (lines.Command c)
unfolding form_of head_of block_of command_of clear_of triangle_of line_in command_in triangle_in
command_read (Command_is.Set s) ok stored = record { is = set_read s ok; ranged = rw (setting_kept s ok) refl }
command_read (Command_is.Clear colour depth) ok stored = record {
  is = rw (colour_there colour _ stored.0, few_there 65535 depth [] (omega arith) (omega (arith, stored.1))) refl;
  ranged = rw (kept 0 65535 depth (omega arith) (omega (arith, stored.1))) refl;
}
command_read (Command_is.Triangle t) ok stored = record {
  is = rw (corner_there t.a (corner_words t.b (corner_words t.c [])) ok.0 stored.0, corner_there t.b (corner_words t.c []) ok.1 stored.1, corner_there t.c [] ok.2 stored.2) refl;
  ranged = rw (corner_kept t.a ok.0 stored.0, corner_kept t.b ok.1 stored.1, corner_kept t.c ok.2 stored.2) refl;
}
command_read Command_is.Swap ok stored = record { is = refl; ranged = refl }
command_read Command_is.Yield ok stored = record { is = refl; ranged = refl }
command_read Command_is.Die ok stored = record { is = refl; ranged = refl }

-- what a change is written as
abbrev pub written_change : Change → ChangeForm
written_change (Change_is.Map w) = changes.Map (pos w)
written_change (Change_is.Unmap w) = changes.Unmap (pos w)
written_change (Change_is.Move w x y) = changes.Move (pos w) x y
written_change (Change_is.Resize w width height) = changes.Resize (pos w) (pos width) (pos height)
written_change (Change_is.Raise w) = changes.Raise (pos w)
written_change (Change_is.Lower w) = changes.Lower (pos w)

-- a change
pub change_read : (c : Change) → IsWithin 1 64 (named_by c) → IsChangeRanged c → IsRead (change_words c) (forms.Change (written_change c)) (lines.Change c)
unfolding form_of head_of block_of command_of change_of plain_change_of move_of resize_of line_in change_in move_in resize_in
change_read (Change_is.Map w) there ok = record { is = rw (few_there 64 w [] (omega arith) there.1) refl; ranged = rw (kept 1 64 w there.0 there.1) refl }
change_read (Change_is.Unmap w) there ok = record { is = rw (few_there 64 w [] (omega arith) there.1) refl; ranged = rw (kept 1 64 w there.0 there.1) refl }
change_read (Change_is.Move w x y) there ok = record { is = rw (few_there 64 w _ (omega arith) there.1, place_there x _ ok.0, place_there y [] ok.1) refl; ranged = rw (kept 1 64 w there.0 there.1, place_kept x ok.0, place_kept y ok.1) refl }
change_read (Change_is.Resize w width height) there ok = record { is = rw (few_there 64 w _ (omega arith) there.1, side_there width _ ok.0, side_there height [] ok.1) refl; ranged = rw (kept 1 64 w there.0 there.1, kept 1 1024 width ok.0.0 ok.0.1, kept 1 1024 height ok.1.0 ok.1.1) refl }
change_read (Change_is.Raise w) there ok = record { is = rw (few_there 64 w [] (omega arith) there.1) refl; ranged = rw (kept 1 64 w there.0 there.1) refl }
change_read (Change_is.Lower w) there ok = record { is = rw (few_there 64 w [] (omega arith) there.1) refl; ranged = rw (kept 1 64 w there.0 there.1) refl }

-- a number alone is a turn
turn_form : (c : ℕ) (cs : List ℕ) (z : ℤ) → c < 58 → number_in (c ∷ cs) ≡ Some z → form_of ((c ∷ cs) ∷ []) ≡ Some (forms.Item (items.Turn z))
unfolding form_of head_of block_of command_of change_of item_of item_in
turn_form c cs z low is =
    rw (ne_eqb c 100 (λ e. omega (arith, e, low)), ne_eqb c 115 (λ e. omega (arith, e, low)), ne_eqb c 104 (λ e. omega (arith, e, low)), ne_eqb c 119 (λ e. omega (arith, e, low)), ne_eqb c 99 (λ e. omega (arith, e, low)), ne_eqb c 116 (λ e. omega (arith, e, low)), ne_eqb c 101 (λ e. omega (arith, e, low)), ne_eqb c 121 (λ e. omega (arith, e, low)), ne_eqb c 109 (λ e. omega (arith, e, low)), ne_eqb c 117 (λ e. omega (arith, e, low)), ne_eqb c 114 (λ e. omega (arith, e, low)), ne_eqb c 108 (λ e. omega (arith, e, low)), ne_eqb c 120 (λ e. omega (arith, e, low)), is) refl

-- what an item is written as
abbrev pub written_item : Item → ItemForm
written_item (Item_is.Turn actor) = if actor == 0 then items.Server else items.Turn (pos actor)
written_item (Item_is.Kill c) = items.Kill (pos c)

-- the client of an item
abbrev pub IsNamed : Item → Type 0
IsNamed (Item_is.Turn actor) = actor ≤ 32
IsNamed (Item_is.Kill c) = IsWithin 1 32 c

-- an item
pub item_read : (i : Item) → IsNamed i → IsRead (item_words i) (forms.Item (written_item i)) (lines.Item i)
unfolding form_of head_of block_of command_of change_of item_of item_in line_in item_line_in
item_read (Item_is.Turn zero) ok = record { is = refl; ranged = refl }
item_read (Item_is.Turn (suc c)) ok =
    let starts = digit_first (suc c) (omega (arith, ok)) in
    let number = number_in_read (suc c) (omega (arith, ok)) in
    let positive = ne_eqb (suc c) 0 (λ e. omega (arith, e)) in
    record {
      is = rw positive (ap (λ (w : List ℕ). form_of (w ∷ [])) starts.is ∙ turn_form starts.first starts.rest (pos (suc c)) starts.low (ap number_in (sym starts.is) ∙ number));
      ranged = rw (positive, kept 1 32 (suc c) (omega arith) ok) refl;
    }
item_read (Item_is.Kill c) ok = record { is = rw (number_in_read c (omega (arith, ok.1))) refl; ranged = rw (kept 1 32 c ok.0 ok.1) refl }
