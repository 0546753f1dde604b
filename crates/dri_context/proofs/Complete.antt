-- Words that spell some groups are taken to their end.
use Rattle.std.proofs.Common.{◌≡◌, ℕ, ◌+◌, ◌-◌, ◌/◌, ◌%◌, ◌≤◌, List, [], ◌∷◌, ◌++◌, Option, Some, None, Bool, true, false, ◌&&◌, nat_le, refl, ap, ◌∙◌, arith}
use Rattle.std.proofs.lemmas.Bool.{cond-true, and_from, le-leb}
use Rattle.dri_base.specs.declared.state.Registers.{Registers}
use Rattle.dri_base.specs.declared.state.Shade.{Shade}
use Rattle.dri_base.specs.declared.state.Shade.TheVariants as Shade_is
use Rattle.dri_base.specs.declared.state.DepthFunc.{DepthFunc}
use Rattle.dri_base.specs.declared.state.DepthFunc.TheVariants as Depth_is
use Rattle.dri_base.specs.declared.state.Blend.{Blend}
use Rattle.dri_base.specs.declared.state.Blend.TheVariants as Blend_is
use Rattle.dri_base.specs.declared.state.TexMode.{TexMode}
use Rattle.dri_base.specs.declared.state.TexMode.TheVariants as Mode_is
use Rattle.dri_base.specs.declared.state.Wrap.{Wrap}
use Rattle.dri_base.specs.declared.state.Wrap.TheVariants as Wrap_is
use Rattle.dri_base.specs.declared.texture.BoundTexture.{BoundTexture}
use Rattle.dri_base.specs.declared.texture.TexFormat.{TexFormat}
use Rattle.dri_base.specs.declared.texture.TexFormat.TheVariants.{L8, Rgb565}
use Rattle.dri_base.specs.declared.shape.ClipRect.{ClipRect}
use Rattle.dri_model.specs.Groups.{Groups, shade_word, depth_word, flag_word, blend_word, mode_word, wrap_word}
use Rattle.dri_model.specs.Words.{format_word, halves, group_words, bound_words, scissor_words, IsBoundInRange, IsScissorInRange, Spelled}
use Rattle.dri_context.specs.Reading.{Reader, is_texture_side, run, opened, depth_of, bound_of, scissor_of}
use Rattle.dri_context.proofs.Numbers.{sides_fit, corner_fits}
use Rattle.dri_context.proofs.Accepted.{between, within, from1, from2, from3, from4, from5, from6}

-- a header of a group that may come
header_ok : (j k : ℕ) (r : Registers) (f s : ℕ) (ws : List ℕ) → j ≤ k → k ≤ 6 → run (Some (between j r f s)) ((0x52000000 + k) ∷ ws) ≡ run (Some (within k r f s)) ws
header_ok j k r f s ws may last =
    let w : ℕ = 0x52000000 + k in
    let number : w - 0x52000000 ≡ k = omega arith in
    ap (λ o. run o ws) (cond-true (nat_le (0x52000000 + j) w && nat_le w 0x52000006) (Some (record { registers = r; group = w - 0x52000000; at = 1; first = f; second = s })) None
    (and_from (nat_le (0x52000000 + j) w) (nat_le w 0x52000006) (le-leb (0x52000000 + j) w (omega arith)) (le-leb w 0x52000006 (omega arith))))
    ∙ ap (λ n. run (Some (record { registers = r; group = n; at = 1; first = f; second = s })) ws) number

-- the words of a group's value
shade_read : (v : Shade) (r : Registers) (f s : ℕ) (ws : List ℕ) → run (Some (within 0 r f s)) (shade_word v ∷ ws) ≡ run (Some (between 1 (record r { shade = v }) f s)) ws
shade_read Shade_is.Flat r f s ws = refl
shade_read Shade_is.Smooth r f s ws = refl

depth_read : (v : DepthFunc) (r : Registers) (f s : ℕ) (ws : List ℕ) → run (Some (within 1 r f s)) (depth_word v ∷ ws) ≡ run (Some (record { registers = r; group = 1; at = 2; first = depth_word v; second = s })) ws
depth_read Depth_is.Never r f s ws = refl
depth_read Depth_is.Less r f s ws = refl
depth_read Depth_is.Equal r f s ws = refl
depth_read Depth_is.LessEqual r f s ws = refl
depth_read Depth_is.Greater r f s ws = refl
depth_read Depth_is.NotEqual r f s ws = refl
depth_read Depth_is.GreaterEqual r f s ws = refl
depth_read Depth_is.Always r f s ws = refl

flag_read : (b : Bool) (r : Registers) (f s : ℕ) (ws : List ℕ) → run (Some (record { registers = r; group = 1; at = 2; first = f; second = s })) (flag_word b ∷ ws) ≡ run (Some (between 2 (record r { depth_func = depth_of f; depth_write = b }) f s)) ws
flag_read true r f s ws = refl
flag_read false r f s ws = refl

blend_read : (v : Blend) (r : Registers) (f s : ℕ) (ws : List ℕ) → run (Some (within 2 r f s)) (blend_word v ∷ ws) ≡ run (Some (between 3 (record r { blend = v }) f s)) ws
blend_read Blend_is.Off r f s ws = refl
blend_read Blend_is.Alpha r f s ws = refl
blend_read Blend_is.Add r f s ws = refl

mode_read : (v : TexMode) (r : Registers) (f s : ℕ) (ws : List ℕ) → run (Some (within 3 r f s)) (mode_word v ∷ ws) ≡ run (Some (between 4 (record r { tex_mode = v }) f s)) ws
mode_read Mode_is.Off r f s ws = refl
mode_read Mode_is.Replace r f s ws = refl
mode_read Mode_is.Modulate r f s ws = refl

wrap_read : (v : Wrap) (r : Registers) (f s : ℕ) (ws : List ℕ) → run (Some (within 4 r f s)) (wrap_word v ∷ ws) ≡ run (Some (between 5 (record r { wrap = v }) f s)) ws
wrap_read Wrap_is.Repeat r f s ws = refl
wrap_read Wrap_is.Clamp r f s ws = refl

format_read : (v : TexFormat) (base : ℕ) (r : Registers) (f s : ℕ) (ws : List ℕ) → run (Some (within 5 r f s)) (format_word v ∷ base ∷ ws) ≡ run (Some (record { registers = r; group = 5; at = 3; first = format_word v; second = base })) ws
format_read L8 base r f s ws = refl
format_read Rgb565 base r f s ws = refl

sides_read : (v : TexFormat) (w h : ℕ) (r : Registers) (base : ℕ) (ws : List ℕ) → 1 ≤ w → w ≤ 256 → 1 ≤ h → h ≤ 256
    → run (Some (record { registers = r; group = 5; at = 3; first = format_word v; second = base })) (halves w h ∷ ws) ≡ run (Some (between 6 (record r { bound = bound_of (format_word v) base (halves w h) }) (format_word v) base)) ws
sides_read L8 w h r base ws a b c d =
    ap (λ o. run o ws) (cond-true (is_texture_side (halves w h % 65536) && is_texture_side (halves w h / 65536)) (Some (between 6 (record r { bound = bound_of 1 base (halves w h) }) 1 base)) None (sides_fit w h a b c d))
sides_read Rgb565 w h r base ws a b c d =
    ap (λ o. run o ws) (cond-true (is_texture_side (halves w h % 65536) && is_texture_side (halves w h / 65536)) (Some (between 6 (record r { bound = bound_of 2 base (halves w h) }) 2 base)) None (sides_fit w h a b c d))

-- the reader comes between groups
record Ends (o : Option Reader) : Type 0 where
  reader : Reader
  comes : o ≡ Some reader
  done : reader.at ≡ 0

along : (o p : Option Reader) → o ≡ p → Ends p → Ends o
along o p e ends = record { reader = ends.reader; comes = e ∙ ends.comes; done = ends.done }

bound_taken : (b : Option BoundTexture) → IsBoundInRange b → (r : Registers) (f s : ℕ) (ws : List ℕ) → (r' : Registers) × (f' : ℕ) × (s' : ℕ) × (run (Some (within 5 r f s)) (bound_words b ++ ws) ≡ run (Some (between 6 r' f' s')) ws)
bound_taken None range r f s ws = (record r { bound = None }, 0, 0, refl)
bound_taken (Some b) range r f s ws = (
  record r { bound = bound_of (format_word b.shape.format) b.base (halves b.shape.width b.shape.height) },
  format_word b.shape.format,
  b.base,
  format_read b.shape.format b.base r f s (halves b.shape.width b.shape.height ∷ ws) ∙ sides_read b.shape.format b.shape.width b.shape.height r b.base ws range.0.0 range.0.1 range.1.0 range.1.1,
)

scissor_taken : (c : Option ClipRect) → IsScissorInRange c → (r : Registers) (f s : ℕ) → Ends (run (Some (within 6 r f s)) (scissor_words c))
scissor_taken None range r f s = record { reader = between 7 (record r { scissor = None }) 0 0; comes = refl; done = refl }
scissor_taken (Some c) range r f s =
    let upper : ℕ = halves c.x1 c.y1 in
    let lower : ℕ = halves c.x2 c.y2 in
    let third : Reader = record { registers = r; group = 6; at = 3; first = 1; second = upper } in
    let end : Reader = between 7 (record r { scissor = scissor_of 1 upper lower }) 1 upper in
    record {
      reader = end;
      comes = ap (λ o. run o (lower ∷ [])) (cond-true (nat_le (upper % 65536) 2048 && nat_le (upper / 65536) 2048) (Some third) None (corner_fits c.x1 c.y1 range.left range.top))
          ∙ ap (λ o. run o []) (cond-true (nat_le (lower % 65536) 2048 && nat_le (lower / 65536) 2048) (Some end) None (corner_fits c.x2 c.y2 range.right range.bottom));
      done = refl;
    }

complete6 : (named : Bool) (c : Option ClipRect) (j : ℕ) (r : Registers) (f s : ℕ) → IsScissorInRange c → j ≤ 6 → Ends (run (Some (between j r f s)) (group_words named 6 (scissor_words c)))
complete6 false c j r f s range may = record { reader = between j r f s; comes = refl; done = refl }
complete6 true c j r f s range may = along _ _ (header_ok j 6 r f s (scissor_words c) may (omega arith)) (scissor_taken c range r f s)

complete5 : (named : Bool) (g : Groups) (v : Registers) (j : ℕ) (r : Registers) (f s : ℕ) → IsBoundInRange v.bound → IsScissorInRange v.scissor → j ≤ 5 → Ends (run (Some (between j r f s)) (group_words named 5 (bound_words v.bound) ++ from6 g v))
complete5 false g v j r f s bound scissor may = complete6 g.scissor v.scissor j r f s scissor (omega arith)
complete5 true g v j r f s bound scissor may =
    let t = bound_taken v.bound bound r f s (from6 g v) in
    along _ _ (header_ok j 5 r f s (bound_words v.bound ++ from6 g v) may (omega arith) ∙ t.3) (complete6 g.scissor v.scissor 6 t.0 t.1 t.2 scissor (omega arith))

complete4 : (named : Bool) (g : Groups) (v : Registers) (j : ℕ) (r : Registers) (f s : ℕ) → IsBoundInRange v.bound → IsScissorInRange v.scissor → j ≤ 4 → Ends (run (Some (between j r f s)) (group_words named 4 (wrap_word v.wrap ∷ []) ++ from5 g v))
complete4 false g v j r f s bound scissor may = complete5 g.bound g v j r f s bound scissor (omega arith)
complete4 true g v j r f s bound scissor may = along _ _ (header_ok j 4 r f s (wrap_word v.wrap ∷ from5 g v) may (omega arith) ∙ wrap_read v.wrap r f s (from5 g v)) (complete5 g.bound g v 5 (record r { wrap = v.wrap }) f s bound scissor (omega arith))

complete3 : (named : Bool) (g : Groups) (v : Registers) (j : ℕ) (r : Registers) (f s : ℕ) → IsBoundInRange v.bound → IsScissorInRange v.scissor → j ≤ 3 → Ends (run (Some (between j r f s)) (group_words named 3 (mode_word v.tex_mode ∷ []) ++ from4 g v))
complete3 false g v j r f s bound scissor may = complete4 g.wrap g v j r f s bound scissor (omega arith)
complete3 true g v j r f s bound scissor may = along _ _ (header_ok j 3 r f s (mode_word v.tex_mode ∷ from4 g v) may (omega arith) ∙ mode_read v.tex_mode r f s (from4 g v)) (complete4 g.wrap g v 4 (record r { tex_mode = v.tex_mode }) f s bound scissor (omega arith))

complete2 : (named : Bool) (g : Groups) (v : Registers) (j : ℕ) (r : Registers) (f s : ℕ) → IsBoundInRange v.bound → IsScissorInRange v.scissor → j ≤ 2 → Ends (run (Some (between j r f s)) (group_words named 2 (blend_word v.blend ∷ []) ++ from3 g v))
complete2 false g v j r f s bound scissor may = complete3 g.mode g v j r f s bound scissor (omega arith)
complete2 true g v j r f s bound scissor may = along _ _ (header_ok j 2 r f s (blend_word v.blend ∷ from3 g v) may (omega arith) ∙ blend_read v.blend r f s (from3 g v)) (complete3 g.mode g v 3 (record r { blend = v.blend }) f s bound scissor (omega arith))

complete1 : (named : Bool) (g : Groups) (v : Registers) (j : ℕ) (r : Registers) (f s : ℕ) → IsBoundInRange v.bound → IsScissorInRange v.scissor → j ≤ 1 → Ends (run (Some (between j r f s)) (group_words named 1 (depth_word v.depth_func ∷ flag_word v.depth_write ∷ []) ++ from2 g v))
complete1 false g v j r f s bound scissor may = complete2 g.blend g v j r f s bound scissor (omega arith)
complete1 true g v j r f s bound scissor may =
    let d : ℕ = depth_word v.depth_func in
    along _ _ (header_ok j 1 r f s (d ∷ flag_word v.depth_write ∷ from2 g v) may (omega arith) ∙ depth_read v.depth_func r f s (flag_word v.depth_write ∷ from2 g v) ∙ flag_read v.depth_write r d s (from2 g v))
    (complete2 g.blend g v 2 (record r { depth_func = depth_of d; depth_write = v.depth_write }) d s bound scissor (omega arith))

complete0 : (named : Bool) (g : Groups) (v : Registers) (r : Registers) (f s : ℕ) → IsBoundInRange v.bound → IsScissorInRange v.scissor → Ends (run (Some (between 0 r f s)) (group_words named 0 (shade_word v.shade ∷ []) ++ from1 g v))
complete0 false g v r f s bound scissor = complete1 g.depth g v 0 r f s bound scissor (omega arith)
complete0 true g v r f s bound scissor = along _ _ (header_ok 0 0 r f s (shade_word v.shade ∷ from1 g v) (omega arith) (omega arith) ∙ shade_read v.shade r f s (from1 g v)) (complete1 g.depth g v 1 (record r { shade = v.shade }) f s bound scissor (omega arith))

pub complete : (old : Registers) (words : List ℕ) → Spelled words → (e : Reader) × (run (Some (opened old)) words ≡ Some e) × (e.at ≡ 0)
complete old words t =
    let ends = complete0 t.groups.shade t.groups t.registers old 0 0 t.bound t.scissor in
    (ends.reader, ap (run (Some (opened old))) t.spells ∙ ends.comes, ends.done)
