-- What the card draws is what the client's own state and image draw.
use Rattle.std.proofs.Common.{◌≡◌, ◌<◌, ◌+◌, ◌*◌, ◌/◌, ℕ, suc, List, [], ◌∷◌, length, get_or, Bool, true, Option, Some, None, arith, refl, sym, ap, ◌∙◌, inl}
use Rattle.std.specs.Prelude.{is_some, ℤ}
use Rattle.std.proofs.lemmas.Bool.Decides.{nat_tests}
use Rattle.std.proofs.lemmas.Bool.{true≢false, and_parts}
use Rattle.std.proofs.Math.Nat.{mod-lt, mul-le-mul}
use Rattle.dri_base.specs.declared.colour.Rgba.{Rgba}
use Rattle.dri_base.specs.declared.texture.Texture.{Texture}
use Rattle.dri_base.specs.declared.texture.TexFormat.{TexFormat}
use Rattle.dri_base.specs.declared.texture.TexFormat.TheVariants.{L8, Rgb565}
use Rattle.dri_base.specs.declared.state.TexMode.{TexMode}
use Rattle.dri_base.specs.declared.state.TexMode.TheVariants as Mode_is
use Rattle.dri_base.specs.declared.state.Wrap.{Wrap}
use Rattle.dri_base.specs.declared.state.Wrap.TheVariants.{Repeat, Clamp}
use Rattle.dri_base.specs.declared.command.Command.{Command}
use Rattle.dri_base.specs.declared.command.Command.TheVariants.{Triangle}
use Rattle.dri_base.specs.declared.journal.Entry.{Entry}
use Rattle.dri_base.specs.declared.journal.Entry.TheVariants.{Run}
use Rattle.dri_base.specs.declared.shape.Triangle.{Triangle as Shape}
use Rattle.dri_base.specs.declared.scene.Scene.{Scene}
use Rattle.dri_base.proofs.RangeLemmas.{IsWellFormed}
use Rattle.dri_base.specs.Scenes.{IsWhole, script_of, commands_of, textures_of, command_at, bytes_of, texel_bytes}
use Rattle.dri_base.specs.Texels.{texture_in}
use Rattle.dri_base.specs.States.{state_at}
use Rattle.dri_model.specs.Groups.{is_empty}
use Rattle.dri_base.specs.Texels.{Image, wrapped, texel_at, texel_place, texel, given_image, texture_bound, own_image}
use Rattle.dri_base.specs.declared.colour.Pixel.{Pixel}
use Rattle.dri_base.specs.Fragments.{Rules, rules_of, fragment, with_texel, textured}
use Rattle.dri_model.specs.Words.{rules_in, card_image}
use Rattle.dri_model.specs.Heaps as Heaps
use Rattle.dri_model.specs.Heaps.{base_of}
use Rattle.dri_core.specs.Solo.{drawn_by, drawn_at, image_at}
use Rattle.dri_core.specs.Worlds.{World, clips_in}
use Rattle.dri_core.specs.EntryTable.{LegalEntry, after_entry}
use Rattle.dri_core.specs.Privates.{bound_at, bound_texture, spot_of, is_ready_for, texture_used, can_run, can_draw}
use Rattle.dri_core.specs.Runs.{after, LegalEntries, HoldRun, IsCurrent, HasBytes}
use Rattle.dri_core.specs.Frames.{across, down, OwnAt, Own}
use Rattle.dri_core.proofs.Invariant.{Invariant}
use Rattle.dri_core.proofs.Sound.{Sound, sound_after}
use Rattle.dri_core.proofs.Laws.{LegalEntries-append, acting_is_current}

-- a texel lies in its image
wrapped_below : (wrap : Wrap) (n side : ℕ) → 0 < side → wrapped wrap n side < side
wrapped_below Repeat n side l = mod-lt n l
wrapped_below Clamp n side l = omega arith

place_below : (row column width height : ℕ) → row < height → column < width → row * width + column < width * height
place_below row column width height r c = grind (arith, mul-le-mul {n₁ = suc row} {m₁ = width} {n₂ = height} {m₂ = width} r (omega arith))

byte_same : (format : TexFormat) (f g : ℕ → ℕ) (n texels : ℕ) → n < texels → ((k : ℕ) → k < texel_bytes format * texels → f k ≡ g k) → texel_at format f n ≡ texel_at format g n
byte_same L8 f g n texels l h = rw (h n (omega arith)) refl
byte_same Rgb565 f g n texels l h = rw (h (2 * n) (omega arith), h (2 * n + 1) (omega arith)) refl

pub texel_same : (p : Texture) (f : ℕ → ℕ) (wrap : Wrap) (s t : ℕ) → IsWhole p → ((k : ℕ) → k < length p.bytes → f k ≡ get_or p.bytes k 0) →
    texel (record { shape = p.shape; byte = f }) wrap s t ≡ texel (record { shape = p.shape; byte = λ n. get_or p.bytes n 0 }) wrap s t
texel_same p f wrap s t whole h =
    byte_same p.shape.format f (λ n. get_or p.bytes n 0) (texel_place p.shape wrap s t) (p.shape.width * p.shape.height)
    (place_below (wrapped wrap (t / 16) p.shape.height) (wrapped wrap (s / 16) p.shape.width) p.shape.width p.shape.height (wrapped_below wrap (t / 16) p.shape.height whole.high) (wrapped_below wrap (s / 16) p.shape.width whole.wide))
    (λ k l. h k (omega (arith, whole.bytes, l)))

-- with an image that has the texture's bytes the texel is the same
parts_same : (size : ℕ) (memory : ℕ → ℕ) (mode : TexMode) (wrap : Wrap) (o : Option Texture) (r : Option Heaps.Spot) (t : Shape) (x y : ℤ) (c : Rgba) → is_some r ≡ true →
    ((spot : Heaps.Spot) → r ≡ Some spot → HasBytes memory (base_of size spot) (bytes_of o)) → ((p : Texture) → o ≡ Some p → IsWhole p) →
    with_texel mode (card_image memory (bound_at size o r)) wrap t x y c ≡ with_texel mode (given_image o) wrap t x y c
parts_same size memory mode wrap None r t x y c is has whole = refl
parts_same size memory mode wrap (Some p) None t x y c is has whole = absurd (true≢false (sym is))
parts_same size memory Mode_is.Off wrap (Some p) (Some spot) t x y c is has whole = refl
parts_same size memory Mode_is.Replace wrap (Some p) (Some spot) t x y c is has whole =
    ap (λ u. textured Mode_is.Replace u c) (texel_same p (λ n. memory (base_of size spot + n)) wrap _ _ (whole p refl) (λ k l. has spot refl k l))
parts_same size memory Mode_is.Modulate wrap (Some p) (Some spot) t x y c is has whole =
    ap (λ u. textured Mode_is.Modulate u c) (texel_same p (λ n. memory (base_of size spot + n)) wrap _ _ (whole p refl) (λ k l. has spot refl k l))

textured_same : (size : ℕ) (memory : ℕ → ℕ) (mode : TexMode) (wrap : Wrap) (textures : List Texture) (placed : ℕ → Option Heaps.Spot) (bound : Option ℕ) (t : Shape) (x y : ℤ) (c : Rgba) →
    is_ready_for placed (texture_used mode bound) ≡ true →
    ((u : ℕ) (spot : Heaps.Spot) → placed u ≡ Some spot → HasBytes memory (base_of size spot) (bytes_of (texture_in textures u))) →
    ((u : ℕ) (p : Texture) → texture_in textures u ≡ Some p → IsWhole p) →
    with_texel mode (card_image memory (bound_at size (texture_bound textures bound) (spot_of placed bound))) wrap t x y c ≡ with_texel mode (own_image textures bound) wrap t x y c
textured_same size memory Mode_is.Off wrap textures placed bound t x y c ready has whole = refl
textured_same size memory Mode_is.Replace wrap textures placed None t x y c ready has whole = refl
textured_same size memory Mode_is.Modulate wrap textures placed None t x y c ready has whole = refl
textured_same size memory Mode_is.Replace wrap textures placed (Some u) t x y c ready has whole = parts_same size memory Mode_is.Replace wrap (texture_in textures u) (placed u) t x y c ready (has u) (whole u)
textured_same size memory Mode_is.Modulate wrap textures placed (Some u) t x y c ready has whole = parts_same size memory Mode_is.Modulate wrap (texture_in textures u) (placed u) t x y c ready (has u) (whole u)

pub fragment_same : (r : Rules) (a b : Option Image) (t : Shape) (x y : ℤ) (under : Pixel) → ((c : Rgba) → with_texel r.tex_mode a r.wrap t x y c ≡ with_texel r.tex_mode b r.wrap t x y c) → fragment r a t x y under ≡ fragment r b t x y under
fragment_same r a b t x y under h = rw h refl

-- registers whose groups are all clean have the state's rules
rules_same : (s : Scene) (w : World) (c : ℕ) → Invariant s w → w.owner ≡ c + 1 → is_empty (w.client c).dirty ≡ true → rules_in w.registers ≡ rules_of (w.client c).state
rules_same s w c inv own clean = λ i. record {
  shade = shade i;
  depth_func = depth_func i;
  depth_write = depth_write i;
  blend = blend i;
  tex_mode = tex_mode i;
  wrap = wrap i;
  scissor = scissor i;
}
  where
    shade : w.registers.shade ≡ (w.client c).state.shade
    shade = (inv.clean c own).shade (grind (arith, nat_tests))

    depth_func : w.registers.depth_func ≡ (w.client c).state.depth_func
    depth_func = (inv.clean c own).depth_func (grind (arith, nat_tests))

    depth_write : w.registers.depth_write ≡ (w.client c).state.depth_write
    depth_write = (inv.clean c own).depth_write (grind (arith, nat_tests))

    blend : w.registers.blend ≡ (w.client c).state.blend
    blend = (inv.clean c own).blend (grind (arith, nat_tests))

    tex_mode : w.registers.tex_mode ≡ (w.client c).state.tex_mode
    tex_mode = (inv.clean c own).mode (grind (arith, nat_tests))

    wrap : w.registers.wrap ≡ (w.client c).state.wrap
    wrap = (inv.clean c own).wrap (grind (arith, nat_tests))

    scissor : w.registers.scissor ≡ (w.client c).state.scissor
    scissor = (inv.clean c own).scissor (grind (arith, nat_tests))

bound_same : (s : Scene) (w : World) (c : ℕ) → Invariant s w → w.owner ≡ c + 1 → is_empty (w.client c).dirty ≡ true → w.registers.bound ≡ bound_texture s c (w.client c)
bound_same s w c inv own clean = (inv.clean c own).bound (grind (arith, nat_tests))

-- a triangle by the card is the triangle by the client's own state and image
card_same : (s : Scene) (w : World) (c i : ℕ) (t : Shape) (x y : ℤ) (under : Pixel) → IsWellFormed s → Sound s w → LegalEntry s w (Run c i) → can_draw (w.client c) ≡ true →
    fragment (rules_in w.registers) (card_image w.memory w.registers.bound) t x y under ≡ fragment (rules_of (state_at (commands_of s c) i)) (image_at (script_of s c) i) t x y under
card_same s w c i t x y under good sound legal can =
    ap (λ r. fragment r (card_image w.memory w.registers.bound) t x y under) (rules_same s w c sound.main own parts.0)
    ∙ ap (λ b. fragment (rules_of (w.client c).state) (card_image w.memory b) t x y under) (bound_same s w c sound.main own parts.0)
    ∙ fragment_same (rules_of (w.client c).state) (card_image w.memory (bound_texture s c (w.client c))) (own_image (textures_of s c) (w.client c).state.bound) t x y under
    (λ k. textured_same s.region_size w.memory (w.client c).state.tex_mode (w.client c).state.wrap (textures_of s c) (w.client c).placed (w.client c).state.bound t x y k parts.1 has (good.whole c))
    ∙ ap (λ st. fragment (rules_of st) (own_image (textures_of s c) st.bound) t x y under) is_state
  where
    parts : (is_empty (w.client c).dirty ≡ true) × (is_ready_for (w.client c).placed (texture_used (w.client c).state.tex_mode (w.client c).state.bound) ≡ true)
    parts = and_parts (is_empty (w.client c).dirty) (is_ready_for (w.client c).placed (texture_used (w.client c).state.tex_mode (w.client c).state.bound)) can

    current : IsCurrent s w c
    current = acting_is_current s w sound c (inl legal.0)

    own : w.owner ≡ c + 1
    own = current.owner

    has : (u : ℕ) (spot : Heaps.Spot) → (w.client c).placed u ≡ Some spot → HasBytes w.memory (base_of s.region_size spot) (bytes_of (texture_in (textures_of s c) u))
    has u spot placed = (sound.textures.held c u spot (placed, λ k _. omega (arith, sound.textures.ages k, current.local))).image

    is_state : (w.client c).state ≡ state_at (commands_of s c) i
    is_state = sound.main.state c ∙ ap (state_at (commands_of s c)) (sym legal.1)

drawn_same : (a b : Rules) (f g : Option Image) (ready : Bool) (command : Option Command) (x y : ℤ) (under : Pixel) → can_run ready command ≡ true →
    (ready ≡ true → (t : Shape) → fragment a f t x y under ≡ fragment b g t x y under) → drawn_by a f command x y under ≡ drawn_by b g command x y under
drawn_same a b f g ready (Some (Triangle t)) x y under can same = same can t
drawn_same a b f g ready _ x y under can same = refl

-- after a run, at each pixel of the client's clips
pub ran_back : (s : Scene) (w : World) (c i x y : ℕ) → IsWellFormed s → Sound s w → LegalEntry s w (Run c i) → clips_in s w c x y ≡ true →
    (after_entry s w (Run c i)).back x y ≡ drawn_at (script_of s c) i (across s w c x) (down s w c y) (w.back x y)
ran_back s w c i x y good sound legal inside =
    rw (current.copy x y ∙ inside, current.place)
    (drawn_same (rules_in w.registers) (rules_of (state_at (commands_of s c) i)) (card_image w.memory w.registers.bound) (image_at (script_of s c) i) (can_draw (w.client c)) (command_at s c i)
    (across s w c x) (down s w c y) (w.back x y) legal.2 (λ can t. card_same s w c i t (across s w c x) (down s w c y) (w.back x y) good sound legal can))
  where
    current : IsCurrent s w c
    current = acting_is_current s w sound c (inl legal.0)

pub own_at : (s : Scene) (w : World) (c i : ℕ) → IsWellFormed s → Sound s w → LegalEntry s w (Run c i) → OwnAt s w c i
own_at s w c i good sound legal x y t is inside = ran_back s w c i x y good sound legal inside ∙ rw is refl

pub own_run : (s : Scene) (journal : List Entry) → IsWellFormed s → HoldRun s journal → Own s journal
own_run s journal good run past rest c i e = own_at s (after s past) c i good (sound_after s past good parts.0) parts.1.0
  where
    parts : LegalEntries s (after s []) past × LegalEntries s (after s past) (Run c i ∷ rest)
    parts = LegalEntries-append s (after s []) past (Run c i ∷ rest) (rw e at run)
