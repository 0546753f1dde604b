-- What an emit and a placing make of the world.
use Rattle.std.proofs.Common.{◌≡◌, ◌≢◌, ◌<◌, ◌≤◌, ℕ, ◌+◌, ◌-◌, ◌*◌, List, length, Bool, true, false, if◌then◌else◌, Option, Some, None, refl, ◌∙◌, sym, ap, subst, arith, Result, Ok, Err, IsOk, IsErr}
use Rattle.std.proofs.Math.Nat.{le-div_iff_mul-le, mul-le-mul_right}
use Rattle.dri_base.specs.Ranges.{InRange, TextureInRange, heap_bytes}
use Rattle.dri_base.specs.Scenes.{bytes_of, regions_for, regions_needed, textures_of}
use Rattle.dri_base.specs.Texels.{texture_in}
use Rattle.dri_base.specs.declared.journal.Entry.{Entry}
use Rattle.dri_base.specs.declared.journal.Entry.TheVariants.{Emit, Place}
use Rattle.dri_base.specs.declared.scene.Scene.{Scene}
use Rattle.dri_base.specs.declared.state.Registers.{Registers}
use Rattle.dri_base.specs.declared.texture.BoundTexture.{BoundTexture}
use Rattle.dri_base.specs.declared.texture.Texture.{Texture}
use Rattle.dri_base.proofs.RangeLemmas.{textures_in_range, well_formed}
use Rattle.dri_base.proofs.RegionSizes.{region_size_above, region_size_within}
use Rattle.dri_card.specs.Contents.{Contents, memory_of}
use Rattle.dri_card.specs.Loading.{CanLoad, IsImageWithin}
use Rattle.dri_core.specs.Effects.{heap_placed, placed_by, run_at, spot_for}
use Rattle.dri_core.specs.EntryTable.{LegalEntry, after_entry, is_start_for}
use Rattle.dri_core.specs.Phases.{In}
use Rattle.dri_core.specs.Privates.{Private, bound_texture, is_small, own_registers, room_in, size_of, textured_with}
use Rattle.dri_core.specs.Runs.{HoldRun, IsClean, after}
use Rattle.dri_core.specs.Worlds.{World}
use Rattle.dri_core.proofs.RunLaws.{owner_clean}
use Rattle.dri_core.proofs.Packing.{room_is}
use Rattle.dri_core.proofs.Parts.{used_bound}
use Rattle.dri_core.proofs.Sizes.{small_one}
use Rattle.dri_model.specs.Groups.{Groups, bits, no_groups}
use Rattle.dri_model.specs.Heaps.{Heap, Run, Spot, base_of, is_place_for, uploaded}
use Rattle.dri_model.specs.Words.{loaded, register_words}
use Rattle.std.specs.Prelude.{MatchOption}
use Rattle.dri_shared.specs.Commands.{WantsPlace}
use Rattle.dri_shared.specs.Holdings.{IsWorld}
use Rattle.dri_shared.specs.declared.holdings.Holdings.{Holdings}
use Rattle.dri_shared.proofs.Bindings.{part_binds, texture_there}
use Rattle.dri_shared.proofs.Clients.{current}
use Rattle.dri_shared.proofs.Inside.{IsStand, bound_is, has_bytes, stands_at}
use Rattle.dri_shared.proofs.Places.{places_stay}
use Rattle.dri_texheap.specs.RegionStates.{IsInside, RegionState, heap_of}

-- a value that is loaded or was clean is the client's own
loaded_is : {A : Type 0} (so : Bool) (own old : A) → (so ≡ false → old ≡ own) → (if so then own else old) ≡ own
loaded_is true own old clean = refl
loaded_is false own old clean = clean refl

-- the register words of a client that may act can be loaded
pub can_load : (s : Scene) (journal : List Entry) (h : Holdings) (c : ℕ) (groups : Groups) (words : List ℕ) → (good : InRange s) (run : HoldRun s journal) → IsWorld s h (after s journal) →
    ((after s journal).client c).phase ≡ In → groups ≡ ((after s journal).client c).dirty → words ≡ register_words groups (own_registers s c ((after s journal).client c)) →
    (able : CanLoad words h.card) × (able.spelled.groups ≡ groups) × (able.spelled.registers ≡ own_registers s c ((after s journal).client c))
can_load s journal h c groups words good run is acts g e = (
  record {
    spelled = record { groups = groups; registers = own_registers s c part; bound = (bound_is s journal good run c acts).1; scissor = (part_binds s journal good run c).scissor; spells = e };
    within = subst (λ (b : Option BoundTexture). IsImageWithin (length h.card.memory) b) (sym bound) (rw is.card.bytes (bound_is s journal good run c acts).0);
  },
  refl,
  refl,
)
  where
    part : Private
    part = (after s journal).client c

    clean : IsClean part.dirty (own_registers s c part) (after s journal).registers
    clean = owner_clean s journal good run c (current s journal good run c acts).owner

    bound : (loaded groups (own_registers s c part) h.card.registers).bound ≡ bound_texture s c part
    bound = loaded_is groups.bound (bound_texture s c part) h.card.registers.bound (λ off. ap {A = Registers} (λ r. r.bound) is.card.loaded ∙ clean.bound (ap {A = Groups} (λ k. k.bound) (sym g) ∙ off))

-- what is known of a texture that is to be placed
pub record IsPlaceable (s : Scene) (c t : ℕ) : Type 0 where
  pub some : 0 < length (bytes_of (texture_in (textures_of s c) t))
  pub fits : length (bytes_of (texture_in (textures_of s c) t)) ≤ heap_bytes s
  pub few : regions_needed s c t ≤ s.regions
  pub needed : 1 ≤ regions_needed s c t

pub placeable : (s : Scene) (journal : List Entry) (c t : ℕ) → (good : InRange s) (run : HoldRun s journal) → textured_with ((after s journal).client c).state ≡ Some t → IsPlaceable s c t
placeable s journal c t good run e = by_texture (texture_in (textures_of s c) t) refl
  where
    bound : ((after s journal).client c).state.bound ≡ Some t
    bound = used_bound ((after s journal).client c).state.tex_mode ((after s journal).client c).state.bound t e

    there : texture_in (textures_of s c) t ≢ None
    there = texture_there (textures_of s c) t ((part_binds s journal good run c).bound t bound)

    by_texture : (o : Option Texture) → texture_in (textures_of s c) t ≡ o → IsPlaceable s c t
    by_texture None is = absurd (there is)
    by_texture (Some p) is =
        let range : TextureInRange (heap_bytes s) p = textures_in_range s c t p good is in
        let some : 0 < length p.bytes = has_bytes (heap_bytes s) p range in
        let sized : 0 < s.region_size = region_size_above s.region_size good.card.sized in
        record {
          some = rw is some;
          fits = rw is range.fits;
          few = (well_formed s good).heap c t;
          needed = rw is (at_least_one s.region_size (length p.bytes) sized some);
        }
      where
        at_least_one : (size n : ℕ) → 0 < size → 0 < n → 1 ≤ regions_for size n
        at_least_one size n sized some = (le-div_iff_mul-le {k = size} {x = 1} {y = n + (size - 1)} sized).1 (omega arith)

-- a texture that stands in its room, or in the run that the heap's rule gives, is placed as it may be
pub placed_legal : (s : Scene) (h : Holdings) (w : World) (c t : ℕ) (room : Option Spot) (run : Run) → IsWorld s h w → WantsPlace s w c t → room ≡ room_in s c (w.client c) t →
    MatchOption room (run.count ≡ regions_needed s c t) (λ spot. run.count ≡ spot.run.count) → is_start_for room h.regions.count (heap_of h.regions) run.count run.first ≡ true → LegalEntry s w (Place c t run.first run.count)
placed_legal s h w c t room run is wanted there many start = (wanted.at, wanted.textured, wanted.unplaced, count room there many, (λ i. is_start_for (sym there i) (sym is.regions.count i) (sym is.regions.ages i) run.count run.first) ∙ start)
  where
    count : (o : Option Spot) → o ≡ room_in s c (w.client c) t → MatchOption o (run.count ≡ regions_needed s c t) (λ spot. run.count ≡ spot.run.count) → run.count ≡ regions_needed s c t
    count None e many = many
    count (Some spot) e many = let is = room_is s c (w.client c) t spot (sym e) in many ∙ (is.one ∙ sym (small_one s.region_size (size_of s c t) is.small))

-- what is known of a texture that is put in a spot
pub record IsPut (s : Scene) (journal : List Entry) (c t : ℕ) (spot : Spot) (bytes : ℕ) : Type 0 where
  pub legal : LegalEntry s (after s journal) (Place c t spot.run.first spot.run.count)
  pub inside : IsInside s.regions spot.run
  pub some : 0 < spot.run.count
  pub first : spot.run.first ≤ 64
  pub block : spot.block ≤ 1024
  pub memory : base_of s.region_size spot + bytes ≤ heap_bytes s

pub put_is : (s : Scene) (journal : List Entry) (h : Holdings) (c t : ℕ) (room : Option Spot) (spot : Spot) (size : ℕ) (bytes : List ℕ) → (good : InRange s) (run : HoldRun s journal) → IsWorld s h (after s journal) → WantsPlace s (after s journal) c t →
    room ≡ room_in s c ((after s journal).client c) t → size ≡ s.region_size → bytes ≡ bytes_of (texture_in (textures_of s c) t) → spot ≡ spot_for room spot.run →
    MatchOption room (spot.run.count ≡ regions_for size (length bytes)) (λ r. spot.run.count ≡ r.run.count) → is_start_for room h.regions.count (heap_of h.regions) spot.run.count spot.run.first ≡ true →
    IsPut s journal c t spot (length bytes)
put_is s journal h c t room spot size bytes good run world wanted there sized is same many start = record {
  legal = legal;
  inside = stands.inside;
  some = placed_some;
  first = omega (arith, stands.inside, placed_some, good.card.regions.1);
  block = omega (arith, stands.block);
  memory = omega (arith, stands.memory, length_is);
}
  where
    counts : MatchOption room (spot.run.count ≡ regions_needed s c t) (λ r. spot.run.count ≡ r.run.count)
    counts = subst (λ n. MatchOption room (spot.run.count ≡ n) (λ r. spot.run.count ≡ r.run.count)) (λ i. regions_for (sized i) (length (is i))) many

    legal : LegalEntry s (after s journal) (Place c t spot.run.first spot.run.count)
    legal = placed_legal s h (after s journal) c t room spot.run world wanted there counts start

    length_is : length bytes ≡ size_of s c t
    length_is = ap (λ (b : List ℕ). length b) is

    able : IsPlaceable s c t
    able = placeable s journal c t good run wanted.textured

    placed_some : 1 ≤ spot.run.count
    placed_some = omega (arith, legal.3, able.needed)

    stands : IsStand s spot (size_of s c t)
    stands = subst (λ z. IsStand s z (size_of s c t)) (sym (same ∙ (λ i. spot_for (there i) spot.run))) (stands_at s journal c t spot.run.first spot.run.count good run legal able.some)

module _ (s : Scene) (h : Holdings) (w : World) (c : ℕ) (is : IsWorld s h w) where
  pub emitted : (groups : Groups) (card : Contents) → groups ≡ (w.client c).dirty → card ≡ record h.card { registers = loaded groups (own_registers s c (w.client c)) h.card.registers } →
      IsWorld s (record h { card = card }) (after_entry s w (Emit c (bits groups)))
  emitted groups card g e = record {
    card = record {
      sides = rw e (record { front_width = is.card.sides.front_width; front_height = is.card.sides.front_height; back_width = is.card.sides.back_width; back_height = is.card.sides.back_height; depth_width = is.card.sides.depth_width; depth_height = is.card.sides.depth_height });
      shown = rw (ap {A = Contents} (λ v. v.front) e) is.card.shown;
      held = record { colours = rw (ap {A = Contents} (λ v. v.back) e) is.card.held.colours; depths = rw (ap {A = Contents} (λ v. v.depth) e) is.card.held.depths };
      loaded = ap {A = Contents} (λ v. v.registers) e ∙ rw (g, is.card.loaded) refl;
      bytes = ap {A = Contents} (λ v. length v.memory) e ∙ is.card.bytes;
      uploads = ap {A = Contents} (λ v. memory_of v) e ∙ is.card.uploads;
    };
    board = is.board;
    regions = is.regions;
    places = places_stay w.client c (record (w.client c) { dirty = no_groups }) h.places is.places refl;
    owner = is.owner;
    holder = is.holder;
    left = is.left;
    made = is.made;
  }

  pub placed : (t first count : ℕ) (room : Option Spot) (bytes : List ℕ) (regions : RegionState) (card : Contents) → room ≡ room_in s c (w.client c) t → bytes ≡ bytes_of (texture_in (textures_of s c) t) → regions.count ≡ h.regions.count →
      heap_of regions ≡ heap_placed room (is_small s c t) h.regions.count (heap_of h.regions) (run_at first count) → card ≡ record h.card { memory = card.memory } → length card.memory ≡ length h.card.memory →
      memory_of card ≡ uploaded (memory_of h.card) (base_of s.region_size (spot_for room (run_at first count))) bytes →
      IsWorld s (record h { card = card; regions = regions }) (after_entry s w (Place c t first count))
  placed t first count room bytes regions card there b same ages only len uploads = record {
    card = record {
      sides = rw only (record { front_width = is.card.sides.front_width; front_height = is.card.sides.front_height; back_width = is.card.sides.back_width; back_height = is.card.sides.back_height; depth_width = is.card.sides.depth_width; depth_height = is.card.sides.depth_height });
      shown = rw (ap {A = Contents} (λ v. v.front) only) is.card.shown;
      held = record { colours = rw (ap {A = Contents} (λ v. v.back) only) is.card.held.colours; depths = rw (ap {A = Contents} (λ v. v.depth) only) is.card.held.depths };
      loaded = ap {A = Contents} (λ v. v.registers) only ∙ is.card.loaded;
      bytes = len ∙ is.card.bytes;
      uploads = uploads ∙ (λ i. uploaded (is.card.uploads i) (base_of s.region_size (spot_for (there i) (run_at first count))) (b i));
    };
    board = is.board;
    regions = record { count = same ∙ is.regions.count; ages = ages ∙ (λ i. heap_placed (there i) (is_small s c t) (is.regions.count i) (is.regions.ages i) (run_at first count)) };
    places = places_stay w.client c (placed_by s w c t first count) h.places is.places refl;
    owner = is.owner;
    holder = is.holder;
    left = is.left;
    made = is.made;
  }

-- a place by the heap's rule, in other words
pub place_is : (m n : ℕ) (h k : Heap) (count wanted first : ℕ) → m ≡ n → h ≡ k → wanted ≡ count → is_place_for m h count first ≡ true → is_place_for n k wanted first ≡ true
place_is m n h k count wanted first regions heaps size place = rw (← regions, ← heaps, size) place
