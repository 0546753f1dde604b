-- Values that have one number in a register word are one value.
use Rattle.std.proofs.Common.{◌≡◌, ◌/◌, ◌%◌, ℕ, zero, suc, Bool, true, false, not, Option, Some, None, arith, refl, sym, ap, ◌∙◌}
use Rattle.std.specs.Prelude.{◌==◌}
use Rattle.std.proofs.lemmas.Bool.{true≢false}
use Rattle.std.proofs.lemmas.Bool.Decides.{nat_tests}
use Rattle.dri_base.specs.declared.shape.ClipRect.{ClipRect}
use Rattle.dri_base.specs.declared.state.Shade.{Shade}
use Rattle.dri_base.specs.declared.state.Shade.TheVariants as Shade_is
use Rattle.dri_base.specs.declared.state.DepthFunc.{DepthFunc}
use Rattle.dri_base.specs.declared.state.DepthFunc.TheVariants as Depth_is
use Rattle.dri_base.specs.declared.state.Blend.{Blend}
use Rattle.dri_base.specs.declared.state.Blend.TheVariants as Blend_is
use Rattle.dri_base.specs.declared.state.TexMode.{TexMode}
use Rattle.dri_base.specs.declared.state.TexMode.TheVariants as Mode_is
use Rattle.dri_base.specs.declared.state.Wrap.{Wrap}
use Rattle.dri_base.specs.declared.state.Wrap.TheVariants as Wrap_is
use Rattle.dri_model.specs.Groups.{shade_word, depth_word, blend_word, mode_word, wrap_word, flag_word, same_number, same_rect}
use Rattle.dri_model.specs.Words.{halves}

-- values with one word are one
abbrev pub shade_of : ℕ → Shade
shade_of zero = Shade_is.Flat
shade_of (suc n) = Shade_is.Smooth

pub shade_is : (a : Shade) → shade_of (shade_word a) ≡ a
shade_is Shade_is.Flat = refl
shade_is Shade_is.Smooth = refl

abbrev pub flag_of : ℕ → Bool
flag_of zero = false
flag_of (suc n) = true

pub flag_is : (a : Bool) → flag_of (flag_word a) ≡ a
flag_is false = refl
flag_is true = refl

abbrev pub depth_of : ℕ → DepthFunc
depth_of zero = Depth_is.Never
depth_of (suc zero) = Depth_is.Less
depth_of (suc (suc zero)) = Depth_is.Equal
depth_of (suc (suc (suc zero))) = Depth_is.LessEqual
depth_of (suc (suc (suc (suc zero)))) = Depth_is.Greater
depth_of (suc (suc (suc (suc (suc zero))))) = Depth_is.NotEqual
depth_of (suc (suc (suc (suc (suc (suc zero)))))) = Depth_is.GreaterEqual
depth_of (suc (suc (suc (suc (suc (suc (suc n))))))) = Depth_is.Always

pub depth_is : (a : DepthFunc) → depth_of (depth_word a) ≡ a
depth_is Depth_is.Never = refl
depth_is Depth_is.Less = refl
depth_is Depth_is.Equal = refl
depth_is Depth_is.LessEqual = refl
depth_is Depth_is.Greater = refl
depth_is Depth_is.NotEqual = refl
depth_is Depth_is.GreaterEqual = refl
depth_is Depth_is.Always = refl

abbrev pub blend_of : ℕ → Blend
blend_of zero = Blend_is.Off
blend_of (suc zero) = Blend_is.Alpha
blend_of (suc (suc n)) = Blend_is.Add

pub blend_is : (a : Blend) → blend_of (blend_word a) ≡ a
blend_is Blend_is.Off = refl
blend_is Blend_is.Alpha = refl
blend_is Blend_is.Add = refl

abbrev pub mode_of : ℕ → TexMode
mode_of zero = Mode_is.Off
mode_of (suc zero) = Mode_is.Replace
mode_of (suc (suc n)) = Mode_is.Modulate

pub mode_is : (a : TexMode) → mode_of (mode_word a) ≡ a
mode_is Mode_is.Off = refl
mode_is Mode_is.Replace = refl
mode_is Mode_is.Modulate = refl

abbrev pub wrap_of : ℕ → Wrap
wrap_of zero = Wrap_is.Repeat
wrap_of (suc n) = Wrap_is.Clamp

pub wrap_is : (a : Wrap) → wrap_of (wrap_word a) ≡ a
wrap_is Wrap_is.Repeat = refl
wrap_is Wrap_is.Clamp = refl

pub one_shade : (a b : Shade) → not (shade_word a == shade_word b) ≡ false → a ≡ b
one_shade a b e = sym (shade_is a) ∙ ap shade_of (grind (arith, nat_tests)) ∙ shade_is b

pub one_flag : (a b : Bool) → not (flag_word a == flag_word b) ≡ false → a ≡ b
one_flag a b e = sym (flag_is a) ∙ ap flag_of (grind (arith, nat_tests)) ∙ flag_is b

pub one_depth : (a b : DepthFunc) → not (depth_word a == depth_word b) ≡ false → a ≡ b
one_depth a b e = sym (depth_is a) ∙ ap depth_of (grind (arith, nat_tests)) ∙ depth_is b

pub one_blend : (a b : Blend) → not (blend_word a == blend_word b) ≡ false → a ≡ b
one_blend a b e = sym (blend_is a) ∙ ap blend_of (grind (arith, nat_tests)) ∙ blend_is b

pub one_mode : (a b : TexMode) → not (mode_word a == mode_word b) ≡ false → a ≡ b
one_mode a b e = sym (mode_is a) ∙ ap mode_of (grind (arith, nat_tests)) ∙ mode_is b

pub one_wrap : (a b : Wrap) → not (wrap_word a == wrap_word b) ≡ false → a ≡ b
one_wrap a b e = sym (wrap_is a) ∙ ap wrap_of (grind (arith, nat_tests)) ∙ wrap_is b

pub one_number : (a b : Option ℕ) → not (same_number a b) ≡ false → a ≡ b
one_number None None e = refl
one_number (Some a) (Some b) e = ap Some (grind (arith, nat_tests))
one_number None (Some b) e = absurd (true≢false e)
one_number (Some a) None e = absurd (true≢false e)

pub one_rect : (a b : Option ClipRect) → not (same_rect a b) ≡ false → a ≡ b
one_rect None None e = refl
one_rect None (Some b) e = absurd (true≢false e)
one_rect (Some a) None e = absurd (true≢false e)
one_rect (Some a) (Some b) e = λ i. Some (record { x1 = x1 i; y1 = y1 i; x2 = x2 i; y2 = y2 i })
  where
    x1 : a.x1 ≡ b.x1
    x1 = grind (arith, nat_tests)

    y1 : a.y1 ≡ b.y1
    y1 = grind (arith, nat_tests)

    x2 : a.x2 ≡ b.x2
    x2 = grind (arith, nat_tests)

    y2 : a.y2 ≡ b.y2
    y2 = grind (arith, nat_tests)

-- a word's two halves are the word
pub halved : (w : ℕ) → halves (w % 65536) (w / 65536) ≡ w
halved w = omega arith
