-- What a job makes of the card: its effect.
use Rattle.std.proofs.Common.{◌≡◌, ◌<◌, ◌+◌, ◌-ℤ◌, ℕ, ℤ, pos, List, length, Bool, true, false, Option, Some, if◌then◌else◌, refl, sym, ◌∙◌, ap, subst, get_or}
use Rattle.dri_base.specs.declared.colour.Pixel.{Pixel}
use Rattle.dri_base.specs.declared.colour.Rgb.{Rgb}
use Rattle.dri_base.specs.declared.scene.Scene.{Scene}
use Rattle.dri_base.specs.declared.shape.Point.{Point}
use Rattle.dri_base.specs.declared.shape.Rect.{Rect}
use Rattle.dri_base.specs.declared.shape.Triangle.{Triangle}
use Rattle.dri_base.specs.declared.state.Registers.{Registers}
use Rattle.dri_base.specs.declared.texture.BoundTexture.{BoundTexture}
use Rattle.dri_base.specs.declared.texture.Texture.{Texture}
use Rattle.dri_base.specs.Fragments.{Rules, fragment}
use Rattle.dri_base.specs.Ranges.{InRange, heap_bytes}
use Rattle.dri_base.specs.Scenes.{IsWhole, bytes_of, textures_of}
use Rattle.dri_base.specs.Texels.{given_image, own_image, texture_bound}
use Rattle.dri_card.specs.Contents.{IsOpening as IsOpeningCard}
use Rattle.dri_card.specs.Contents.{Contents, HaveSides, Holds, KeepSides, Shows, memory_of}
use Rattle.dri_card.specs.Drawing.{OnlyDrawn, OnlyShown, drawn}
use Rattle.dri_core.proofs.Draws.{fragment_same}
use Rattle.dri_core.proofs.TextureUses.{uploaded_at}
use Rattle.dri_meaning.specs.Canvases.{bound_first}
use Rattle.dri_model.specs.Heaps.{uploaded}
use Rattle.dri_model.specs.Words.{card_image, loaded, rules_in}
use Rattle.dri_walk.specs.Samplings.{IsImageWithin}
use Rattle.dri_draw.specs.Drawing.{OnlyDrawnOn, cleared_in, drawn_in, in_clips, swapped_in}
use Rattle.dri_draw.proofs.Drawn.{holds_same, holds_shown}
use Rattle.dri_replay.proofs.Loading.{image_fits, image_whole, texel_given}
use Rattle.dri_replay.specs.Cards.{OnlyLoaded}
use Rattle.dri_ring.specs.Cards.{IsCardOf}
use Rattle.dri_ring.specs.Jobs.{Planes, SpellAll, effect, spelled_rules}
use Rattle.dri_ring.specs.Rings.{HaveSides as PlaneSides}
use Rattle.dri_ring.specs.Rings.{Show, opening_planes, read}
use Rattle.dri_ring.specs.declared.job.Job.{Job}
use Rattle.dri_ring.specs.declared.job.Job.TheVariants as Job_is
use Rattle.dri_ring.proofs.Kept.{shows_own}
use Rattle.dri_ring.proofs.Spells.{all_loaded, rules_spelled}

-- so its words can be loaded
pub loads_within : (s : Scene) (client : ℕ) (number : Option ℕ) (words : List ℕ) (v : Contents) → InRange s → length v.memory ≡ heap_bytes s → (all : SpellAll s client number words) → IsImageWithin (length v.memory) (loaded all.spelled.groups all.spelled.registers v.registers).bound
loads_within s client number words v good bytes all =
    subst (IsImageWithin (length v.memory)) (sym (ap (λ (r : Registers). r.bound) (all_loaded all.spelled.groups all.spelled.registers v.registers all.all) ∙ all.bound)) (image_fits s client number (texture_bound (textures_of s client) number) good refl (length v.memory) bytes)

-- once a job's texture and its words are loaded, the card draws by them
pub draws_loaded : (s : Scene) (client : ℕ) (number : Option ℕ) (words bytes : List ℕ) (old mid new : Contents) → InRange s → (all : SpellAll s client number words) → bytes ≡ bytes_of (texture_bound (textures_of s client) number)
    → memory_of mid ≡ uploaded (memory_of old) 0 bytes → new ≡ record mid { registers = loaded all.spelled.groups all.spelled.registers mid.registers }
    → (t : Triangle) (x y : ℤ) (under : Pixel) → drawn new t x y under ≡ fragment (spelled_rules words) (own_image (textures_of s client) number) t x y under
draws_loaded s client number words bytes old mid new good all is memory registers t x y under =
    ap (λ (r : Registers). fragment (rules_in r) (card_image (memory_of new) r.bound) t x y under) taken
    ∙ (ap (λ (b : Option BoundTexture). fragment (rules_in all.spelled.registers) (card_image (memory_of new) b) t x y under) all.bound
    ∙ (fragment_same (rules_in all.spelled.registers) (card_image (memory_of new) (bound_first own)) (given_image own) t x y under (λ c. texel_given (memory_of new) (rules_in all.spelled.registers).tex_mode (rules_in all.spelled.registers).wrap own t x y c has whole)
    ∙ ap (λ (r : Rules). fragment r (given_image own) t x y under) (sym (rules_spelled words all.spelled all.all))))
  where
    own : Option Texture
    own = texture_bound (textures_of s client) number

    taken : new.registers ≡ all.spelled.registers
    taken = ap (λ (v : Contents). v.registers) registers ∙ all_loaded all.spelled.groups all.spelled.registers mid.registers all.all

    there : memory_of new ≡ uploaded (memory_of old) 0 (bytes_of own)
    there = ap (λ (v : Contents). memory_of v) registers ∙ (memory ∙ ap (λ (bs : List ℕ). uploaded (memory_of old) 0 bs) is)

    has : (k : ℕ) → k < length (bytes_of own) → memory_of new (0 + k) ≡ get_or (bytes_of own) k 0
    has k l = ap (λ (m : ℕ → ℕ). m (0 + k)) there ∙ uploaded_at (memory_of old) 0 (bytes_of own) k l

    whole : (p : Texture) → own ≡ Some p → IsWhole p
    whole = image_whole s client number own good refl

-- what the registers and the memory don't change
pub loaded_shows : (old new : Contents) (p : Planes) → OnlyLoaded old new → Show old.front old.back old.depth p → Show new.front new.back new.depth p
loaded_shows old new p only is = rw (ap (λ (v : Contents). v.front) only, ap (λ (v : Contents). v.back) only, ap (λ (v : Contents). v.depth) only) is

-- a clear, a triangle whose image and words are loaded, and a copy of back to front
pub ran_clear : (s : Scene) (clips : List Rect) (colour : Rgb) (depth : ℕ) (old new : Contents) (p : Planes) → ((f : ℕ → ℕ → Pixel) → Holds old f → Holds new (cleared_in clips colour depth f)) → OnlyDrawn old new
    → Show old.front old.back old.depth p → Show new.front new.back new.depth (effect s p (Job_is.Clear clips colour depth))
ran_clear s clips colour depth old new p held only is = record { shown = rw (ap (λ (v : Contents). v.front) only) is.shown; held = held p.back is.held }

pub ran_draw : (s : Scene) (clips : List Rect) (origin : Point) (words : List ℕ) (client : ℕ) (texture : Option ℕ) (t : Triangle) (old new : Contents) (p : Planes)
    → ((t : Triangle) (x y : ℤ) (under : Pixel) → drawn old t x y under ≡ fragment (spelled_rules words) (own_image (textures_of s client) texture) t x y under)
    → ((f : ℕ → ℕ → Pixel) → Holds old f → Holds new (drawn_in old origin t clips f)) → OnlyDrawnOn old new
    → Show old.front old.back old.depth p → Show new.front new.back new.depth (effect s p (Job_is.Draw clips origin words client texture t))
ran_draw s clips origin words client texture t old new p draws held only is = record {
  shown = rw (ap (λ (v : Contents). v.front) only) is.shown;
  held = holds_same new (drawn_in old origin t clips p.back) (effect s p (Job_is.Draw clips origin words client texture t)).back (λ x y. by x y (in_clips clips x y)) (held p.back is.held);
}
  where
    by : (x y : ℕ) (b : Bool) → (if b then drawn old t (pos x -ℤ origin.x) (pos y -ℤ origin.y) (p.back x y) else p.back x y)
        ≡ (if b then fragment (spelled_rules words) (own_image (textures_of s client) texture) t (pos x -ℤ origin.x) (pos y -ℤ origin.y) (p.back x y) else p.back x y)
    by x y true = draws t (pos x -ℤ origin.x) (pos y -ℤ origin.y) (p.back x y)
    by x y false = refl

pub ran_swap : (s : Scene) (clips : List Rect) (old new : Contents) (p : Planes) → ((f : ℕ → ℕ → Pixel) (shown : ℕ → ℕ → Rgb) → Holds old f → Shows old shown → Shows new (swapped_in clips f shown)) → OnlyShown old new
    → Show old.front old.back old.depth p → Show new.front new.back new.depth (effect s p (Job_is.Swap clips))
ran_swap s clips old new p shown only is = record { shown = shown p.back p.front is.held is.shown; held = holds_shown old new p.back only is.held }

-- the card stays one of the scene
pub still_there : (s : Scene) (old new : Contents) (p : Planes) → IsCardOf s old → KeepSides old new → length new.memory ≡ length old.memory → Show new.front new.back new.depth p → IsCardOf s new
still_there s old new p is keep bytes show = record {
  sides = keep s.width s.height is.sides;
  bytes = bytes ∙ is.bytes;
  whole = shows_own new.front new.back new.depth p show;
}

pub still_card : (s : Scene) (job : Job) (old new : Contents) → IsCardOf s old → KeepSides old new → length new.memory ≡ length old.memory → ((p : Planes) → Show old.front old.back old.depth p → Show new.front new.back new.depth (effect s p job)) → IsCardOf s new
still_card s job old new is keep bytes made = still_there s old new (effect s (read old.front old.back old.depth) job) is keep bytes (made (read old.front old.back old.depth) is.whole)

-- the opening's card is its scene's
pub opened : (s : Scene) (card : Contents) → IsOpeningCard s card → IsCardOf s card
opened s card is = record {
  sides = is.sides;
  bytes = is.bytes;
  whole = shows_own card.front card.back card.depth (opening_planes s) (record { shown = is.shown; held = is.held });
}

-- the sides of a card's planes
pub plane_sides : (card : Contents) (width height : ℕ) → HaveSides card width height → PlaneSides card.front card.back card.depth width height
plane_sides card width height s = record { front_width = s.front_width; front_height = s.front_height; back_width = s.back_width; back_height = s.back_height; depth_width = s.depth_width; depth_height = s.depth_height }
