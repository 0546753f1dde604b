-- What words of all seven groups spell, and the texture that a job binds.
use Rattle.std.proofs.Common.{◌≡◌, ◌≤◌, ◌/◌, ◌%◌, ◌==◌, ℕ, List, Bool, true, false, Option, Some, None, refl, ◌∙◌, ap, arith}
use Rattle.dri_base.specs.declared.shape.ClipRect.{ClipRect}
use Rattle.dri_base.specs.declared.state.Blend.{Blend}
use Rattle.dri_base.specs.declared.state.Blend.TheVariants as Blend_is
use Rattle.dri_base.specs.declared.state.DepthFunc.{DepthFunc}
use Rattle.dri_base.specs.declared.state.DepthFunc.TheVariants as Depth_is
use Rattle.dri_base.specs.declared.state.Registers.{Registers}
use Rattle.dri_base.specs.declared.state.Shade.{Shade}
use Rattle.dri_base.specs.declared.state.Shade.TheVariants as Shade_is
use Rattle.dri_base.specs.declared.state.TexMode.{TexMode}
use Rattle.dri_base.specs.declared.state.TexMode.TheVariants as Mode_is
use Rattle.dri_base.specs.declared.state.Wrap.{Wrap}
use Rattle.dri_base.specs.declared.state.Wrap.TheVariants as Wrap_is
use Rattle.dri_base.specs.declared.texture.BoundTexture.{BoundTexture}
use Rattle.dri_context.specs.Reading.{blend_of, depth_of, mode_of, shade_of, wrap_of}
use Rattle.dri_model.specs.Groups.{Groups, all_groups, blend_word, depth_word, flag_word, mode_word, shade_word, wrap_word}
use Rattle.dri_model.specs.Words.{IsScissorInRange, Spelled, halves, loaded, register_words, rules_in}
use Rattle.dri_ring.specs.Jobs.{spelled_rules}

shade_back : (a : Shade) → shade_of (shade_word a) ≡ a
shade_back Shade_is.Flat = refl
shade_back Shade_is.Smooth = refl

depth_back : (a : DepthFunc) → depth_of (depth_word a) ≡ a
depth_back Depth_is.Never = refl
depth_back Depth_is.Less = refl
depth_back Depth_is.Equal = refl
depth_back Depth_is.LessEqual = refl
depth_back Depth_is.Greater = refl
depth_back Depth_is.NotEqual = refl
depth_back Depth_is.GreaterEqual = refl
depth_back Depth_is.Always = refl

flag_back : (a : Bool) → (flag_word a == 1) ≡ a
flag_back false = refl
flag_back true = refl

blend_back : (a : Blend) → blend_of (blend_word a) ≡ a
blend_back Blend_is.Off = refl
blend_back Blend_is.Alpha = refl
blend_back Blend_is.Add = refl

mode_back : (a : TexMode) → mode_of (mode_word a) ≡ a
mode_back Mode_is.Off = refl
mode_back Mode_is.Replace = refl
mode_back Mode_is.Modulate = refl

wrap_back : (a : Wrap) → wrap_of (wrap_word a) ≡ a
wrap_back Wrap_is.Repeat = refl
wrap_back Wrap_is.Clamp = refl

-- two numbers of sixteen bits, out of one word
low_half : (a b : ℕ) → a ≤ 2048 → halves a b % 65536 ≡ a
low_half a b small = omega (arith, small)

high_half : (a b : ℕ) → a ≤ 2048 → halves a b / 65536 ≡ b
high_half a b small = omega (arith, small)

-- the words of all groups of these registers give their rules
values : (r : Registers) (b : Option BoundTexture) (c : Option ClipRect) → IsScissorInRange c → spelled_rules (register_words all_groups (record r { bound = b; scissor = c })) ≡ rules_in (record r { bound = b; scissor = c })
values r None None range = λ k. record { shade = shade_back r.shade k; depth_func = depth_back r.depth_func k; depth_write = flag_back r.depth_write k; blend = blend_back r.blend k; tex_mode = mode_back r.tex_mode k; wrap = wrap_back r.wrap k; scissor = None }
values r (Some b) None range = λ k. record { shade = shade_back r.shade k; depth_func = depth_back r.depth_func k; depth_write = flag_back r.depth_write k; blend = blend_back r.blend k; tex_mode = mode_back r.tex_mode k; wrap = wrap_back r.wrap k; scissor = None }
values r None (Some c) range = λ k. record { shade = shade_back r.shade k; depth_func = depth_back r.depth_func k; depth_write = flag_back r.depth_write k; blend = blend_back r.blend k; tex_mode = mode_back r.tex_mode k; wrap = wrap_back r.wrap k; scissor = Some (record { x1 = low_half c.x1 c.y1 range.left k; y1 = high_half c.x1 c.y1 range.left k; x2 = low_half c.x2 c.y2 range.right k; y2 = high_half c.x2 c.y2 range.right k }) }
values r (Some b) (Some c) range = λ k. record { shade = shade_back r.shade k; depth_func = depth_back r.depth_func k; depth_write = flag_back r.depth_write k; blend = blend_back r.blend k; tex_mode = mode_back r.tex_mode k; wrap = wrap_back r.wrap k; scissor = Some (record { x1 = low_half c.x1 c.y1 range.left k; y1 = high_half c.x1 c.y1 range.left k; x2 = low_half c.x2 c.y2 range.right k; y2 = high_half c.x2 c.y2 range.right k }) }

-- words that spell all groups give the rules of what they spell
pub rules_spelled : (words : List ℕ) (spelled : Spelled words) → spelled.groups ≡ all_groups → spelled_rules words ≡ rules_in spelled.registers
rules_spelled words spelled all = ap spelled_rules (spelled.spells ∙ ap (λ (g : Groups). register_words g spelled.registers) all) ∙ values spelled.registers spelled.registers.bound spelled.registers.scissor spelled.scissor

-- registers that are all loaded are the new ones
pub all_loaded : (g : Groups) (new old : Registers) → g ≡ all_groups → loaded g new old ≡ new
all_loaded g new old is = rw is refl
