-- A frame drawn alone, command by command, and the picture of it.
use Rattle.std.proofs.Common.{◌≡◌, ◌<◌, ℕ, zero, suc, ◌+◌, ◌-◌, pred, List, Some, ℤ, refl, sym, ap, ◌∙◌, subst, arith}
use Rattle.std.proofs.lemmas.Simd.{map-map}
use Rattle.std.proofs.lemmas.Option.{get_or_from_slice_get, slice_get_within}
use Rattle.std.specs.Prelude.{◌*◌, ◌/◌, ◌%◌, map, pos, slice_get}
use Rattle.std.specs.List.{range_with_len}
use Rattle.dri_base.specs.declared.colour.Pixel.{Pixel}
use Rattle.dri_base.specs.declared.colour.Rgb.{Rgb}
use Rattle.dri_base.specs.declared.command.Command.{Command}
use Rattle.dri_base.specs.declared.scene.ClientScript.{ClientScript}
use Rattle.dri_base.specs.Fragments.{rules_of}
use Rattle.dri_base.specs.Planes.{first_pixels, plane}
use Rattle.dri_base.specs.Ranges.{CommandInRange, texture_numbers}
use Rattle.dri_base.specs.declared.state.State.{State}
use Rattle.dri_base.specs.States.{state_after, state_at}
use Rattle.dri_base.specs.Texels.{own_image}
use Rattle.dri_meaning.specs.Scripts.{ScriptInRange}
use Rattle.dri_core.specs.Solo.{blank, drawn_at, drawn_by, frame, solo, solo_between, solo_frame}
use Rattle.dri_core.proofs.Invariant.{state_on}

-- the pair after the first n commands from the clear on
abbrev pub solo_before : ClientScript → ℕ → ℕ → ℤ → ℤ → Pixel
solo_before p first zero x y = blank
solo_before p first (suc n) x y = solo p first n x y

-- each command is in range
pub command_there : (p : ClientScript) (k : ℕ) (command : Command) → ScriptInRange p → slice_get p.commands k ≡ Some command → CommandInRange (texture_numbers p.textures) command
command_there p k command good here =
    subst (CommandInRange (texture_numbers p.textures)) (get_or_from_slice_get p.commands k command command here) (good.commanded.each k command (slice_get_within p.commands k command here))

last_at : (p : ClientScript) (first n : ℕ) (x y : ℤ) → solo p first n x y ≡ drawn_at p (first + n) x y (solo_before p first n x y)
last_at p first zero x y = let e : first + 0 ≡ first = omega arith in rw e refl
last_at p first (suc n) x y = refl

-- one more command
pub solo_on : (p : ClientScript) (first n k : ℕ) (x y : ℤ) (state : State) (command : Command) (old new : Pixel) → 0 < first → k ≡ first - 1 + n → slice_get p.commands k ≡ Some command
    → state ≡ state_at p.commands (first + n) → old ≡ solo_before p first n x y
    → new ≡ drawn_by (rules_of state) (own_image p.textures state.bound) (Some command) x y old → new ≡ solo_before p first (n + 1) x y
solo_on p first n k x y state command old new positive place here is_state so_far drawn =
    let same : pred (first + n) ≡ k = omega (arith, place) in
    let e : n + 1 ≡ suc n = omega arith in
    let at : slice_get p.commands (pred (first + n)) ≡ Some command = rw same here in
    let there = state_at p.commands (first + n) in
    let by_state = ap (λ s. drawn_by (rules_of s) (own_image p.textures s.bound) (Some command) x y old) is_state in
    let by_command = ap (λ o. drawn_by (rules_of there) (own_image p.textures there.bound) o x y old) (sym at) in
    let by_pixel = ap (λ u. drawn_at p (first + n) x y u) so_far in
    rw e (drawn ∙ by_state ∙ by_command ∙ by_pixel ∙ sym (last_at p first n x y))

-- and its state
pub state_after_on : (cs : List Command) (first n k : ℕ) (command : Command) (old new : State) → 0 < first → k ≡ first - 1 + n → slice_get cs k ≡ Some command
    → old ≡ state_at cs (first + n) → new ≡ state_after command old → new ≡ state_at cs (first + (n + 1))
state_after_on cs first n k command old new positive place here is_state then =
    let same : pred (first + n) ≡ k = omega (arith, place) in
    let e : first + (n + 1) ≡ first + n + 1 = omega arith in
    let at : slice_get cs (pred (first + n)) ≡ Some command = rw same here in
    rw e (rw (state_on cs (first + n) (omega (arith, positive)), at, ← is_state) then)

-- the whole frame
pub solo_whole : (p : ClientScript) (first last : ℕ) (x y : ℤ) → first < last → solo_before p first (last - first) x y ≡ solo p first (last - suc first) x y
solo_whole p first last x y order = let e : last - first ≡ suc (last - suc first) = omega (arith, order) in rw e refl

-- what a plane's pixels become
pub mapped_plane : {A B : Type 0} (g : A → B) (width height : ℕ) (f : ℕ → ℕ → A) → map g (plane width height f) ≡ plane width height (λ x y. g (f x y))
unfolding first_pixels
mapped_plane g width height f = map-map g (λ k. f (k % width) (k / width)) (range_with_len 0 (width * height))

-- the picture of a frame that is there
pub all_drawn : (p : ClientScript) (k first last width height : ℕ) (pixels : List Rgb) → frame p.commands k ≡ Some (first, last)
    → pixels ≡ plane width height (λ x y. (solo p first (last - suc first) (pos x) (pos y)).colour) → map Some pixels ≡ plane width height (λ x y. solo_frame p k (pos x) (pos y))
all_drawn p k first last width height pixels found drawn =
    let colours = λ (x y : ℕ). (solo p first (last - suc first) (pos x) (pos y)).colour in
    let same = ap (λ o. plane width height (λ x y. solo_between p o (pos x) (pos y))) found in
    ap (map Some) drawn ∙ mapped_plane Some width height colours ∙ sym same
