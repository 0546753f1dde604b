-- A client's own state and texture, loaded into a card.
use Rattle.std.proofs.Common.{◌≡◌, ◌≤◌, ◌<◌, ◌+◌, ℕ, ℤ, List, length, get_or, Option, Some, None, IfSome, refl, ◌∙◌, sym, ap, arith}
use Rattle.dri_base.proofs.RangeLemmas.{textures_in_range}
use Rattle.dri_base.specs.Fragments.{fragment, rules_of, textured, with_texel}
use Rattle.dri_base.specs.Ranges.{InRange, TextureInRange, heap_bytes}
use Rattle.dri_base.specs.Scenes.{IsWhole, bytes_of, textures_of}
use Rattle.dri_base.specs.Texels.{given_image, own_image, texture_bound}
use Rattle.dri_base.specs.declared.colour.Pixel.{Pixel}
use Rattle.dri_base.specs.declared.colour.Rgba.{Rgba}
use Rattle.dri_base.specs.declared.scene.Scene.{Scene}
use Rattle.dri_base.specs.declared.shape.Triangle.{Triangle}
use Rattle.dri_base.specs.declared.state.Registers.{Registers}
use Rattle.dri_base.specs.declared.state.State.{State}
use Rattle.dri_base.specs.declared.state.TexMode.{TexMode}
use Rattle.dri_base.specs.declared.state.TexMode.TheVariants as Mode_is
use Rattle.dri_base.specs.declared.state.Wrap.{Wrap}
use Rattle.dri_base.specs.declared.texture.BoundTexture.{BoundTexture}
use Rattle.dri_base.specs.declared.texture.Texture.{Texture}
use Rattle.dri_card.specs.Contents.{Contents, memory_of}
use Rattle.dri_card.specs.Drawing.{drawn}
use Rattle.dri_card.specs.Loading.{CanLoad, registers_after}
use Rattle.dri_core.proofs.Draws.{fragment_same, texel_same}
use Rattle.dri_core.proofs.TextureUses.{uploaded_at}
use Rattle.dri_journal.specs.Replays.{ReplayState}
use Rattle.dri_meaning.specs.Canvases.{bound_first}
use Rattle.dri_meaning.specs.Scripts.{HasTexels}
use Rattle.dri_model.specs.Groups.{all_groups}
use Rattle.dri_model.specs.Heaps.{uploaded}
use Rattle.dri_model.specs.Words.{IsBoundInRange, IsScissorInRange, card_image, emitted_words, registers_for, rules_in}
use Rattle.dri_replay.specs.Makings.{state_now}
use Rattle.dri_texel.specs.Pixels.{texel_used}
use Rattle.dri_walk.specs.Samplings.{IsImageWithin}

none_some : (t : Texture) → ◌≡◌ {A = Option Texture} None (Some t) → ⊥
none_some t e = cc

-- a client's texture is in range, where it is there
named_in_range : (s : Scene) (c : ℕ) (number : Option ℕ) (t : Texture) → InRange s → texture_bound (textures_of s c) number ≡ Some t → TextureInRange (heap_bytes s) t
named_in_range s c None t good e = absurd (none_some t e)
named_in_range s c (Some n) t good e = textures_in_range s c n t good e

module _ (s : Scene) (c : ℕ) (number : Option ℕ) (image : Option Texture) (good : InRange s) (found : image ≡ texture_bound (textures_of s c) number) where
  -- its bytes lie in the heap
  pub bytes_fit : length (bytes_of image) ≤ heap_bytes s
  bytes_fit = by image refl
    where
      by : (o : Option Texture) → image ≡ o → length (bytes_of o) ≤ heap_bytes s
      by None e = omega arith
      by (Some t) e = (named_in_range s c number t good (sym found ∙ e)).fits

  -- and so does its image, from the first byte on
  pub image_fits : (bytes : ℕ) → bytes ≡ heap_bytes s → IsImageWithin bytes (bound_first image)
  image_fits bytes all = by image refl
    where
      by : (o : Option Texture) → image ≡ o → IsImageWithin bytes (bound_first o)
      by None e = tt
      by (Some t) e = let range = named_in_range s c number t good (sym found ∙ e) in omega (arith, all, range.whole, range.fits)

  -- it is whole
  pub image_whole : (t : Texture) → image ≡ Some t → IsWhole t
  image_whole t e = let range = named_in_range s c number t good (sym found ∙ e) in record { wide = omega (arith, range.wide.0); high = omega (arith, range.high.0); bytes = range.whole }

-- a texture with texels has sides in range
pub bound_range : (o : Option Texture) → IfSome o HasTexels → IsBoundInRange (bound_first o)
bound_range None whole = tt
bound_range (Some t) whole = (whole.wide, whole.high)

-- the words of a state, with the texture that it binds, can be loaded
pub can_load : (s : Scene) (c : ℕ) (state : State) (image : Option Texture) (bound : Option BoundTexture) (words : List ℕ) (card : Contents) → InRange s → IsScissorInRange state.scissor → image ≡ texture_bound (textures_of s c) state.bound → IfSome image HasTexels →
    bound ≡ bound_first image → words ≡ emitted_words all_groups state bound → length card.memory ≡ heap_bytes s → CanLoad words card
can_load s c state image bound words card good scissor found whole placed emitted bytes = record {
  spelled = record { groups = all_groups; registers = registers_for state bound; bound = rw placed (bound_range image whole); scissor = scissor; spells = emitted };
  within = rw placed (image_fits s c state.bound image good found (length card.memory) bytes);
}

-- a texture whose bytes begin the memory gives the texels of its image
pub texel_given : (memory : ℕ → ℕ) (mode : TexMode) (wrap : Wrap) (o : Option Texture) (t : Triangle) (x y : ℤ) (c : Rgba) → ((k : ℕ) → k < length (bytes_of o) → memory (0 + k) ≡ get_or (bytes_of o) k 0) → ((p : Texture) → o ≡ Some p → IsWhole p)
    → with_texel mode (card_image memory (bound_first o)) wrap t x y c ≡ with_texel mode (given_image o) wrap t x y c
texel_given memory mode wrap None t x y c has whole = refl
texel_given memory Mode_is.Off wrap (Some p) t x y c has whole = refl
texel_given memory Mode_is.Replace wrap (Some p) t x y c has whole = ap (λ u. textured Mode_is.Replace u c) (texel_same p (λ n. memory (0 + n)) wrap _ _ (whole p refl) has)
texel_given memory Mode_is.Modulate wrap (Some p) t x y c has whole = ap (λ u. textured Mode_is.Modulate u c) (texel_same p (λ n. memory (0 + n)) wrap _ _ (whole p refl) has)

-- and what is used of it
pub used_given : (memory : ℕ → ℕ) (mode : TexMode) (wrap : Wrap) (o : Option Texture) (s t : ℕ) → ((k : ℕ) → k < length (bytes_of o) → memory (0 + k) ≡ get_or (bytes_of o) k 0) → ((p : Texture) → o ≡ Some p → IsWhole p)
    → texel_used mode (card_image memory (bound_first o)) wrap s t ≡ texel_used mode (given_image o) wrap s t
used_given memory mode wrap None s t has whole = refl
used_given memory Mode_is.Off wrap (Some p) s t has whole = refl
used_given memory Mode_is.Replace wrap (Some p) s t has whole = ap (λ u. Some u) (texel_same p (λ n. memory (0 + n)) wrap s t (whole p refl) has)
used_given memory Mode_is.Modulate wrap (Some p) s t has whole = ap (λ u. Some u) (texel_same p (λ n. memory (0 + n)) wrap s t (whole p refl) has)

-- a card has the registers of a state and the bytes of the image that it binds, which begin its memory
pub record HasLoaded (state : State) (image : Option Texture) (card : Contents) : Type 0 where
  pub registers : card.registers ≡ registers_for state (bound_first image)
  pub bytes : (k : ℕ) → k < length (bytes_of image) → memory_of card (0 + k) ≡ get_or (bytes_of image) k 0
  pub whole : (t : Texture) → image ≡ Some t → IsWhole t

-- so it does once they are loaded
pub has_loaded : (s : Scene) (c : ℕ) (state : State) (image : Option Texture) (bound : Option BoundTexture) (words bytes : List ℕ) (old mid new : Contents) (good : InRange s) (scissor : IsScissorInRange state.scissor) (found : image ≡ texture_bound (textures_of s c) state.bound) (whole : IfSome image HasTexels)
    (placed : bound ≡ bound_first image) (emitted : words ≡ emitted_words all_groups state bound) → bytes ≡ bytes_of image → memory_of mid ≡ uploaded (memory_of old) 0 bytes → (fits : length mid.memory ≡ heap_bytes s) →
    new ≡ record mid { registers = registers_after (can_load s c state image bound words mid good scissor found whole placed emitted fits).spelled mid } → HasLoaded state image new
unfolding can_load
has_loaded s c state image bound words bytes old mid new good scissor found whole placed emitted is memory fits registers = record {
  registers = ap (λ (k : Contents). k.registers) registers ∙ ap (registers_for state) placed;
  bytes = λ k l. ap (λ (m : ℕ → ℕ). m (0 + k)) there ∙ uploaded_at (memory_of old) 0 (bytes_of image) k l;
  whole = image_whole s c state.bound image good found;
}
  where
    there : memory_of new ≡ uploaded (memory_of old) 0 (bytes_of image)
    there = ap (λ (k : Contents). memory_of k) registers ∙ (memory ∙ ap (λ (bs : List ℕ). uploaded (memory_of old) 0 bs) is)

-- and then it draws by them
pub draws_own : (v : ReplayState) (c : ℕ) (state : State) (image : Option Texture) (card : Contents) → image ≡ texture_bound (textures_of v.scene c) state.bound → state ≡ state_now v c → HasLoaded state image card →
    (t : Triangle) (x y : ℤ) (under : Pixel) → drawn card t x y under ≡ fragment (rules_of (state_now v c)) (own_image (textures_of v.scene c) (state_now v c).bound) t x y under
draws_own v c state image card found own has t x y under =
    ap (λ (r : Registers). fragment (rules_in r) (card_image (memory_of card) r.bound) t x y under) has.registers
    ∙ fragment_same (rules_of state) (card_image (memory_of card) (bound_first image)) (given_image image) t x y under (λ k. texel_given (memory_of card) (rules_of state).tex_mode (rules_of state).wrap image t x y k has.bytes has.whole)
    ∙ (λ k. fragment (rules_of (own k)) (given_image ((found ∙ ap (λ (st : State). texture_bound (textures_of v.scene c) st.bound) own) k)) t x y under)
