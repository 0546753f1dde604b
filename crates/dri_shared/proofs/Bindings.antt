-- What a script's commands bind and draw is in range.
use Rattle.std.proofs.Common.{◌≡◌, ◌≢◌, ◌<◌, ℕ, zero, suc, List, [], ◌∷◌, take, length, pred, true, ◌==◌, Some, None, slice_get, slice_index_or, sym, subst, arith, inl, inr, All, Contains}
use Rattle.std.proofs.lemmas.Bool.Decides.{eqb_tells, nat_tests}
use Rattle.std.proofs.lemmas.List.Elements.{All-head, All-tail, All-nil}
use Rattle.dri_base.specs.Ranges.{CommandInRange, InRange, SettingInRange, TriangleInRange, texture_numbers}
use Rattle.dri_base.specs.Scenes.{command_at, commands_of, textures_of}
use Rattle.dri_base.specs.States.{default_state, state_after, state_at, states, with_setting}
use Rattle.dri_base.specs.Texels.{texture_in}
use Rattle.dri_base.specs.declared.command.Command.{Command}
use Rattle.dri_base.specs.declared.command.Command.TheVariants.{Clear, Die, Set, Swap, Triangle, Yield}
use Rattle.dri_base.specs.declared.journal.Entry.{Entry}
use Rattle.dri_base.specs.declared.scene.Scene.{Scene}
use Rattle.dri_base.specs.declared.shape.Triangle.{Triangle as TriangleShape}
use Rattle.dri_base.specs.declared.state.Setting.{Setting}
use Rattle.dri_base.specs.declared.state.Setting.TheVariants as Setting_is
use Rattle.dri_base.specs.declared.state.State.{State}
use Rattle.dri_base.specs.declared.texture.Texture.{Texture}
use Rattle.dri_base.proofs.RangeLemmas.{well_formed}
use Rattle.dri_core.specs.Runs.{HoldRun, after}
use Rattle.dri_core.proofs.Kept.{after_kept}
use Rattle.dri_model.specs.Words.{IsScissorInRange}
use Rattle.dri_shared.proofs.Clients.{script_meets}
use Rattle.dri_draw.proofs.Rects.{item_below, item_is}

-- the scissor is in range, and the bound texture is one of these
pub record IsBinding (textures : List ℕ) (state : State) : Type 0 where
  pub scissor : IsScissorInRange state.scissor
  pub bound : (t : ℕ) → state.bound ≡ Some t → Contains textures t

same_some : (a b : ℕ) → Some a ≡ Some b → a ≡ b
same_some a b e = cc

none_some : {n : ℕ} → None ≡ Some n → ⊥
none_some e = cc

setting_keeps : (ts : List ℕ) (v : Setting) (old : State) → SettingInRange ts v → IsBinding ts old → IsBinding ts (with_setting v old)
setting_keeps ts (Setting_is.Shade v) old range is = record { scissor = is.scissor; bound = is.bound }
setting_keeps ts (Setting_is.DepthFunc v) old range is = record { scissor = is.scissor; bound = is.bound }
setting_keeps ts (Setting_is.DepthWrite v) old range is = record { scissor = is.scissor; bound = is.bound }
setting_keeps ts (Setting_is.Blend v) old range is = record { scissor = is.scissor; bound = is.bound }
setting_keeps ts (Setting_is.TexMode v) old range is = record { scissor = is.scissor; bound = is.bound }
setting_keeps ts (Setting_is.Wrap v) old range is = record { scissor = is.scissor; bound = is.bound }
setting_keeps ts (Setting_is.Bind None) old range is = record { scissor = is.scissor; bound = λ t e. absurd (none_some e) }
setting_keeps ts (Setting_is.Bind (Some n)) old range is = record { scissor = is.scissor; bound = λ t e. subst (Contains ts) (same_some n t e) range }
setting_keeps ts (Setting_is.Scissor None) old range is = record { scissor = tt; bound = is.bound }
setting_keeps ts (Setting_is.Scissor (Some r)) old range is = record { scissor = range; bound = is.bound }

command_keeps : (ts : List ℕ) (command : Command) (old : State) → CommandInRange ts command → IsBinding ts old → IsBinding ts (state_after command old)
command_keeps ts (Set v) old range is = setting_keeps ts v old range is
command_keeps ts (Clear colour depth) old range is = is
command_keeps ts (Triangle t) old range is = is
command_keeps ts Swap old range is = is
command_keeps ts Yield old range is = is
command_keeps ts Die old range is = is

states_keep : (ts : List ℕ) (cs : List Command) (n : ℕ) (old : State) → All (CommandInRange ts) cs → IsBinding ts old → IsBinding ts (states old (take n cs))
states_keep ts [] zero old all is = is
states_keep ts [] (suc n) old all is = is
states_keep ts (c ∷ cs) zero old all is = is
states_keep ts (c ∷ cs) (suc n) old all is =
    states_keep ts cs n (state_after c old) (All-tail (CommandInRange ts) c cs all) (command_keeps ts c old (All-head (CommandInRange ts) c cs all) is)

pub state_binds : (s : Scene) (c i : ℕ) → InRange s → IsBinding (texture_numbers (textures_of s c)) (state_at (commands_of s c) i)
state_binds s c i good =
    script_meets (λ p. IsBinding (texture_numbers p.textures) (state_at p.commands i)) s.clients c
    (λ k d below. let script = slice_index_or s.clients k d in
    states_keep (texture_numbers script.textures) script.commands (pred i) default_state (good.scripted.each k d below).commanded.each (opening_binds (texture_numbers script.textures)))
    (states_keep [] [] (pred i) default_state (All-nil (CommandInRange [])) (opening_binds []))
  where
    opening_binds : (ts : List ℕ) → IsBinding ts default_state
    opening_binds ts = record { scissor = tt; bound = λ t e. absurd (none_some e) }

-- a client's state
pub part_binds : (s : Scene) (journal : List Entry) (good : InRange s) (run : HoldRun s journal) (c : ℕ) → IsBinding (texture_numbers (textures_of s c)) ((after s journal).client c).state
part_binds s journal good run c = subst (IsBinding (texture_numbers (textures_of s c))) (sym ((after_kept s journal (well_formed s good) run).state c)) (state_binds s c ((after s journal).client c).place good)

-- a texture of this number is there
pub texture_there : (ps : List Texture) (t : ℕ) → Contains (texture_numbers ps) t → texture_in ps t ≢ None
texture_there ps t there = numbered ps t there.0 there.1 there.2
  where
    numbered : (ps : List Texture) (t k : ℕ) → k < length (texture_numbers ps) → slice_index_or (texture_numbers ps) k t ≡ t → texture_in ps t ≢ None
    numbered [] t k lt e none = omega (arith, lt)
    numbered (p ∷ ps) t zero lt e none = absurd (found none)
      where
        found : texture_in (p ∷ ps) t ≡ None → ⊥
        found h = let same : (p.number == t) ≡ true = grind (arith, nat_tests) in let no : Some p ≡ None = rw same at h in cc
    numbered (p ∷ ps) t (suc k) lt e none =
        elim (eqb_tells p.number t) as (λ _. ⊥) [
          | inl same ↦ let no : Some p ≡ None = rw same.0 at none in cc
          | inr other ↦ numbered ps t k (omega (arith, lt)) e (rw other.0 at none)
        ]

-- a triangle of a script is in range
triangle_among : (ts : List ℕ) (cs : List Command) (n : ℕ) (t : TriangleShape) → All (CommandInRange ts) cs → slice_get cs n ≡ Some (Triangle t) → TriangleInRange t
triangle_among ts cs n t all e = subst (CommandInRange ts) (item_is cs n (Triangle t) (Triangle t) e) (all n (Triangle t) (item_below cs n (Triangle t) e))

pub triangle_in : (s : Scene) (c i : ℕ) (t : TriangleShape) → InRange s → command_at s c i ≡ Some (Triangle t) → TriangleInRange t
triangle_in s c i t good e =
    script_meets (λ p. slice_get p.commands (pred i) ≡ Some (Triangle t) → TriangleInRange t) s.clients c
    (λ k d below f. let script = slice_index_or s.clients k d in triangle_among (texture_numbers script.textures) script.commands (pred i) t (good.scripted.each k d below).commanded.each f)
    (λ f. triangle_among [] [] (pred i) t (All-nil (CommandInRange [])) f) e
