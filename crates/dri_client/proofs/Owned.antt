-- What a client's script gives it.
use Rattle.std.proofs.Common.{◌≡◌, ◌<◌, ◌≤◌, ◌+◌, ℕ, zero, suc, List, [], ◌∷◌, length, drop, get_or, true, false, Option, Some, None, refl, sym, ap, ◌∙◌, subst, arith, inl, inr, ltb, Bor}
use Rattle.std.specs.Prelude.{◌⊎◌, ◌≢◌, ◌==◌, Contains, IfSome, IsSome, if◌then◌else◌, is_none, is_some, pred, slice_get}
use Rattle.std.proofs.lemmas.Bool.Decides.{eqb_tells, nat_tests}
use Rattle.std.proofs.lemmas.List.{drop_more}
use Rattle.std.proofs.lemmas.List.Sums.{sum_by-cons}
use Rattle.std.proofs.lemmas.Option.{get_or_from_slice_get, slice_get-get_or, slice_get-map, slice_get_past, slice_get_within, same_Some}
use Rattle.std.specs.Option.{option_copied, option_map}
use Rattle.dri_base.specs.declared.command.Command.{Command}
use Rattle.dri_base.specs.declared.scene.ClientScript.{ClientScript}
use Rattle.dri_base.specs.declared.scene.Scene.{Scene}
use Rattle.dri_base.specs.declared.state.Setting.{Setting}
use Rattle.dri_base.specs.declared.state.Setting.TheVariants as Setting_is
use Rattle.dri_base.specs.declared.state.State.{State}
use Rattle.dri_base.specs.declared.texture.TexShape.{TexShape}
use Rattle.dri_base.specs.declared.texture.Texture.{Texture}
use Rattle.dri_base.specs.Ranges.{ClientInRange, CommandInRange, InRange, IsWithin, SettingInRange, client_numbers, command_count, heap_bytes, texture_numbers}
use Rattle.dri_base.specs.States.{with_setting}
use Rattle.dri_base.specs.Scenes.{script_in, script_of}
use Rattle.dri_base.specs.Texels.{texture_in}
use Rattle.dri_base.proofs.RangeLemmas.{textures_in_range}
use Rattle.dri_core.specs.Privates.{textured_with}
use Rattle.dri_core.proofs.Parts.{used_bound}
use Rattle.dri_model.specs.Heaps.{Spot}
use Rattle.dri_client.specs.Kept.{IsKept, IsScript}
use Rattle.dri_client.specs.Parts.{PartState, next_command}
use Rattle.dri_client.specs.Textures.{missing_in, shape_in, shape_of}

few_at : (ps : List ClientScript) (i : ℕ) (p : ClientScript) → slice_get ps i ≡ Some p → length p.commands ≤ command_count ps
few_at [] i p e = absurd (cc)
few_at (q ∷ ps) zero p e = rw sum_by-cons (omega (arith, ap (λ (r : ClientScript). length r.commands) (same_Some q p e)))
few_at (q ∷ ps) (suc i) p e = rw sum_by-cons (omega (arith, few_at ps i p e))

-- a client's script, which stands in a scene in range
pub script_in_range : (s : Scene) (c i : ℕ) → InRange s → slice_get s.clients i ≡ Some (script_of s c) → IsScript (script_of s c)
script_in_range s c i good there = record {
  heap = heap_bytes s;
  few = omega (arith, few_at s.clients i (script_of s c) there, good.few);
  commanded = (subst (ClientInRange s.windows (heap_bytes s)) (get_or_from_slice_get s.clients i (script_of s c) (script_of s c) there) (good.scripted.each i (script_of s c) (slice_get_within s.clients i (script_of s c) there))).commanded;
  textured = λ t p found. textures_in_range s c t p good found;
}

-- the script that stands first in what is left of the list
pub script_found : (ps : List ClientScript) (i n : ℕ) (x : ClientScript) → i < length ps → x ≡ get_or ps i x → x.number ≡ n → script_in (drop i ps) n ≡ script_in ps n → slice_get ps i ≡ Some (script_in ps n)
script_found ps i n x l is here same = slice_get-get_or ps i x l ∙ ap Some (sym is ∙ (sym (first x (drop (i + 1) ps) here) ∙ (ap (λ (qs : List ClientScript). script_in qs n) (ap (λ (q : ClientScript). q ∷ drop (i + 1) ps) is ∙ sym (drop_more ps i x l)) ∙ same)))
  where
    first : (q : ClientScript) (qs : List ClientScript) → q.number ≡ n → script_in (q ∷ qs) n ≡ q
    first q qs e = let t : (q.number == n) ≡ true = grind (arith, nat_tests) in rw t refl

-- a script that has another number is passed over
pub script_on : (ps : List ClientScript) (i n : ℕ) (x : ClientScript) → i < length ps → x ≡ get_or ps i x → (x.number ≡ n → ⊥) → script_in (drop i ps) n ≡ script_in ps n → script_in (drop (i + 1) ps) n ≡ script_in ps n
script_on ps i n x l is other same = sym (past x (drop (i + 1) ps) other) ∙ (ap (λ (qs : List ClientScript). script_in qs n) (ap (λ (q : ClientScript). q ∷ drop (i + 1) ps) is ∙ sym (drop_more ps i x l)) ∙ same)
  where
    past : (q : ClientScript) (qs : List ClientScript) → (q.number ≡ n → ⊥) → script_in (q ∷ qs) n ≡ script_in qs n
    past q qs ne = let f : (q.number == n) ≡ false = grind (arith, nat_tests) in rw f refl

-- a script's number stands at its place among the numbers
pub number_stands : (ps : List ClientScript) (i n : ℕ) (x : ClientScript) → i < length ps → x ≡ get_or ps i x → x.number ≡ n → slice_get (client_numbers ps) i ≡ Some n
number_stands ps i n x l is here = slice_get-map (λ (q : ClientScript). q.number) ps i ∙ (ap (option_map (λ (q : ClientScript). q.number)) (slice_get-get_or ps i x l ∙ ap Some (sym is)) ∙ ap Some here)

-- the number of the script that was read
pub number_read : (ps : List ClientScript) (i n : ℕ) (x : ClientScript) → i < length ps → x ≡ get_or ps i x → get_or (client_numbers ps) i n ≡ n → x.number ≡ n
number_read ps i n x l is e = sym (get_or_from_slice_get (client_numbers ps) i x.number n (number_stands ps i x.number x l is refl)) ∙ e

-- what a look into the commands finds, as it is copied
pub looked_up : (xs : List Command) (i : ℕ) (r : Option (Bor Command)) → is_some r ≡ ltb i (length xs) → IfSome r (λ x. x.now ≡ get_or xs i x.now) → option_copied r ≡ slice_get xs i
looked_up xs i None test here = let past : length xs ≤ i = grind (arith, nat_tests) in sym (slice_get_past xs i past)
looked_up xs i (Some x) test here = let l : i < length xs = grind (arith, nat_tests) in ap Some here ∙ sym (slice_get-get_or xs i x.now l)

-- the next command of a script in range is in range
pub command_range : (script : ClientScript) (p : PartState) (command : Command) → IsScript script → next_command script p ≡ Some command → CommandInRange (texture_numbers script.textures) command
command_range script p command ranged next =
    subst (CommandInRange (texture_numbers script.textures)) (get_or_from_slice_get script.commands (pred p.place) command command next)
    (ranged.commanded.each (pred p.place) command (slice_get_within script.commands (pred p.place) command next))

-- the sides of a client's texture
pub shape_sides : (script : ClientScript) (t : ℕ) (shape : TexShape) → IsScript script → shape_in script.textures t ≡ Some shape → IsWithin 1 256 shape.width × IsWithin 1 256 shape.height
shape_sides script t shape ranged found = by_texture (texture_in script.textures t) refl found
  where
    by_texture : (o : Option Texture) → texture_in script.textures t ≡ o → shape_of o ≡ Some shape → IsWithin 1 256 shape.width × IsWithin 1 256 shape.height
    by_texture None is e = absurd (cc)
    by_texture (Some p) is e = let range = ranged.textured t p is in subst (λ (q : TexShape). IsWithin 1 256 q.width × IsWithin 1 256 q.height) (same_Some p.shape shape e) (range.wide, range.high)

-- a texture whose number is among them is there
numbered_texture : (ps : List Texture) (t : ℕ) → Contains (texture_numbers ps) t → IsSome (texture_in ps t)
numbered_texture [] t (k, below, is) = absurd (omega (arith, below))
numbered_texture (p ∷ ps) t has = by_number (eqb_tells p.number t) has (numbered_texture ps t)
  where
    by_number : ((p.number == t) ≡ true) × (p.number ≡ t) ⊎ (((p.number == t) ≡ false) × (p.number ≢ t)) → Contains (texture_numbers (p ∷ ps)) t → (Contains (texture_numbers ps) t → IsSome (texture_in ps t)) → IsSome (texture_in (p ∷ ps) t)
    by_number (inl same) has rest = rw same.0 refl
    by_number (inr other) (zero, below, is) rest = absurd (other.1 is)
    by_number (inr other) (suc k, below, is) rest = rw other.0 (rest (k, omega (arith, below), is))

-- the bound texture is its own after a setting in range
pub setting_bound : (ps : List Texture) (setting : Setting) (old : State) → SettingInRange (texture_numbers ps) setting → ((t : ℕ) → old.bound ≡ Some t → IsSome (texture_in ps t)) → (t : ℕ) → (with_setting setting old).bound ≡ Some t → IsSome (texture_in ps t)
setting_bound ps (Setting_is.Shade v) old range own t is = own t is
setting_bound ps (Setting_is.DepthFunc v) old range own t is = own t is
setting_bound ps (Setting_is.DepthWrite v) old range own t is = own t is
setting_bound ps (Setting_is.Blend v) old range own t is = own t is
setting_bound ps (Setting_is.TexMode v) old range own t is = own t is
setting_bound ps (Setting_is.Wrap v) old range own t is = own t is
setting_bound ps (Setting_is.Scissor v) old range own t is = own t is
setting_bound ps (Setting_is.Bind None) old range own t is = absurd (cc)
setting_bound ps (Setting_is.Bind (Some u)) old range own t is = numbered_texture ps t (subst (Contains (texture_numbers ps)) (same_Some u t is) range)

-- a texture that is found by its number has it
texture_number : (ps : List Texture) (t : ℕ) (p : Texture) → texture_in ps t ≡ Some p → p.number ≡ t
texture_number [] t p found = absurd (cc)
texture_number (q ∷ qs) t p found = by_number (eqb_tells q.number t) (texture_number qs t p) found
  where
    by_number : ((q.number == t) ≡ true) × (q.number ≡ t) ⊎ (((q.number == t) ≡ false) × (q.number ≢ t)) → (texture_in qs t ≡ Some p → p.number ≡ t) → texture_in (q ∷ qs) t ≡ Some p → p.number ≡ t
    by_number (inl same) rest found = ap (λ (r : Texture). r.number) (sym (same_Some q p (rw same.0 at found))) ∙ same.1
    by_number (inr other) rest found = rest (rw other.0 at found)

-- the number of the texture that is used
pub used_number : (script : ClientScript) (n t : ℕ) (p : PartState) → IsScript script → IsKept script n p → textured_with p.state ≡ Some t → IsWithin 1 64 t
used_number script n t p ranged kept used = by_texture (texture_in script.textures t) refl (kept.bound t (used_bound p.state.tex_mode p.state.bound t used))
  where
    by_texture : (o : Option Texture) → texture_in script.textures t ≡ o → IsSome o → IsWithin 1 64 t
    by_texture None is some = absurd (cc)
    by_texture (Some x) is some = subst (IsWithin 1 64) (texture_number script.textures t x is) (ranged.textured t x is).numbered

-- a missing texture is used, and isn't placed
pub missing_parts : (placed : ℕ → Option Spot) (o : Option ℕ) (t : ℕ) → missing_in placed o ≡ Some t → (o ≡ Some t) × (placed t ≡ None)
missing_parts placed None t is = absurd (cc)
missing_parts placed (Some u) t is = by_run (placed u) refl is
  where
    by_run : (r : Option Spot) → placed u ≡ r → (if is_none r then Some u else None) ≡ Some t → (Some u ≡ Some t) × (placed t ≡ None)
    by_run None none is = (is, ap placed (sym (same_Some u t is)) ∙ none)
    by_run (Some run) some is = absurd (cc)
