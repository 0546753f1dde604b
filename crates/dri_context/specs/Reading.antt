-- How register words are read, one by one.
use Rattle.std.specs.Prelude.{ℕ, ◌≡◌, ◌≤◌, ◌+◌, ◌-◌, ◌/◌, ◌%◌, List, [], ◌∷◌, Bool, true, ◌&&◌, ◌||◌, ◌==◌, nat_lt, nat_le, if◌then◌else◌, Option, Some, None}
use Rattle.dri_base.specs.declared.state.Registers.{Registers}
use Rattle.dri_base.specs.declared.state.Shade.{Shade}
use Rattle.dri_base.specs.declared.state.Shade.TheVariants as Shade_is
use Rattle.dri_base.specs.declared.state.DepthFunc.{DepthFunc}
use Rattle.dri_base.specs.declared.state.DepthFunc.TheVariants as Depth_is
use Rattle.dri_base.specs.declared.state.Blend.{Blend}
use Rattle.dri_base.specs.declared.state.Blend.TheVariants as Blend_is
use Rattle.dri_base.specs.declared.state.TexMode.{TexMode}
use Rattle.dri_base.specs.declared.state.TexMode.TheVariants as Mode_is
use Rattle.dri_base.specs.declared.state.Wrap.{Wrap}
use Rattle.dri_base.specs.declared.state.Wrap.TheVariants as Wrap_is
use Rattle.dri_base.specs.declared.shape.ClipRect.{ClipRect}
use Rattle.dri_base.specs.declared.texture.BoundTexture.{BoundTexture}
use Rattle.dri_base.specs.declared.texture.TexFormat.{TexFormat}
use Rattle.dri_base.specs.declared.texture.TexFormat.TheVariants.{L8, Rgb565}
pub use Rattle.dri_context.specs.declared.reader.Reader.{Reader}

-- the value of a word
abbrev pub shade_of : ℕ → Shade
shade_of w = if w == 0 then Shade_is.Flat else Shade_is.Smooth

abbrev pub depth_of : ℕ → DepthFunc
depth_of w = if w == 0 then Depth_is.Never else (if w == 1 then Depth_is.Less else (if w == 2 then Depth_is.Equal else (if w == 3 then Depth_is.LessEqual else (if w == 4 then Depth_is.Greater else (if w == 5 then Depth_is.NotEqual else (if w == 6 then Depth_is.GreaterEqual else Depth_is.Always))))))

abbrev pub blend_of : ℕ → Blend
blend_of w = if w == 0 then Blend_is.Off else (if w == 1 then Blend_is.Alpha else Blend_is.Add)

abbrev pub mode_of : ℕ → TexMode
mode_of w = if w == 0 then Mode_is.Off else (if w == 1 then Mode_is.Replace else Mode_is.Modulate)

abbrev pub wrap_of : ℕ → Wrap
wrap_of w = if w == 0 then Wrap_is.Repeat else Wrap_is.Clamp

abbrev pub format_of : ℕ → TexFormat
format_of w = if w == 1 then L8 else Rgb565

-- the bound texture of a group's three words
abbrev pub bound_of : ℕ → ℕ → ℕ → Option BoundTexture
bound_of format base sides = if format == 0 then None else Some (record { shape = record { format = format_of format; width = sides % 65536; height = sides / 65536 }; base = base })

-- the scissor of a group's three words
abbrev pub scissor_of : ℕ → ℕ → ℕ → Option ClipRect
scissor_of flag upper lower = if flag == 0 then None else Some (record { x1 = upper % 65536; y1 = upper / 65536; x2 = lower % 65536; y2 = lower / 65536 })

-- how many words a group has behind its header
abbrev pub size : ℕ → ℕ
size g = if g == 1 then 2 else (if g == 5 || g == 6 then 3 else 1)

-- a side of a bound image
abbrev pub is_texture_side : ℕ → Bool
is_texture_side n = nat_le 1 n && nat_le n 256

-- word `at` of a bound texture, counted from 1, behind its first word
abbrev pub fits_bound : ℕ → ℕ → ℕ → Bool
fits_bound at first w = if at == 1 then nat_lt w 3 else (if first == 0 then w == 0 else (if at == 2 then true else is_texture_side (w % 65536) && is_texture_side (w / 65536)))

-- and of a scissor
abbrev pub fits_scissor : ℕ → ℕ → ℕ → Bool
fits_scissor at first w = if at == 1 then nat_lt w 2 else (if first == 0 then w == 0 else nat_le (w % 65536) 2048 && nat_le (w / 65536) 2048)

-- and of any group
abbrev pub fits : ℕ → ℕ → ℕ → ℕ → Bool
fits g at first w =
    if g == 0 then nat_lt w 2 else (if g == 1 then (if at == 1 then nat_lt w 8 else nat_lt w 2) else (if g == 2 then nat_lt w 3 else (if g == 3 then nat_lt w 3 else (if g == 4 then nat_lt w 2 else (if g == 5 then fits_bound at first w else fits_scissor at first w)))))

-- the registers with a group's words
abbrev pub with_group : ℕ → ℕ → ℕ → ℕ → Registers → Registers
with_group g first second w r =
    if g == 0 then record r { shade = shade_of w } else (if g == 1 then record r { depth_func = depth_of first; depth_write = w == 1 } else (if g == 2 then record r { blend = blend_of w } else (if g == 3 then record r { tex_mode = mode_of w } else (if g == 4 then record r { wrap = wrap_of w } else (if g == 5 then record r { bound = bound_of first second w } else record r { scissor = scissor_of first second w })))))

-- between groups: the header of a group that may come
abbrev pub header_read : Reader → ℕ → Option Reader
header_read r w = if nat_le (0x52000000 + r.group) w && nat_le w 0x52000006 then Some (record r { group = w - 0x52000000; at = 1 }) else None

-- within a group: the reader after a word that fits
abbrev pub word_taken : Reader → ℕ → Reader
word_taken r w =
    if r.at == size r.group then record r { registers = with_group r.group r.first r.second w r.registers; group = r.group + 1; at = 0 }
    else (if r.at == 1 then record r { first = w; at = 2 } else record r { second = w; at = 3 })

-- the reader after one word more, where register words can go on with it
abbrev pub after : Reader → ℕ → Option Reader
after r w = if r.at == 0 then header_read r w else (if fits r.group r.at r.first w then Some (word_taken r w) else None)

-- a reader stands between groups, or at one of a group's words
pub record IsReader (r : Reader) : Type 0 where
  pub group : r.group ≤ 7
  pub within : (r.at ≡ 0 → ⊥) → r.group ≤ 6
  pub place : r.at ≤ size r.group

-- the reader after words
abbrev pub run : Option Reader → List ℕ → Option Reader
run None ws = None
run (Some r) [] = Some r
run (Some r) (w ∷ ws) = run (after r w) ws

-- the reader before the first word
abbrev pub opened : Registers → Reader
opened r = record { registers = r; group = 0; at = 0; first = 0; second = 0 }
