-- The runs of placed textures: they lie inside the regions, are in use, and have room for the texture's bytes.
use Rattle.std.proofs.Common.{◌≡◌, ◌<◌, ◌≤◌, ℕ, ◌+◌, ◌-◌, ◌*◌, ◌/◌, List, [], ◌∷◌, length, Bool, true, false, ◌==◌, Option, Some, None, IfSome, refl, sym, subst, arith, ap, ◌∙◌, inl, inr}
use Rattle.std.specs.Prelude.{◌⊎◌}
use Rattle.std.proofs.lemmas.Bool.Decides.{nat_tests}
use Rattle.std.proofs.Math.Nat.{div-lt_iff_lt-mul, div-mul-le_self}
use Rattle.dri_base.specs.Ranges.{InRange, TextureInRange, heap_bytes}
use Rattle.dri_base.specs.Scenes.{textures_of}
use Rattle.dri_base.specs.Texels.{texture_bound}
use Rattle.dri_base.specs.declared.journal.Entry.{Entry}
use Rattle.dri_base.specs.declared.journal.Entry.TheVariants as Entry_is
use Rattle.dri_base.specs.declared.scene.Scene.{Scene}
use Rattle.dri_base.specs.declared.texture.Texture.{Texture}
use Rattle.dri_base.proofs.RangeLemmas.{textures_in_range, well_formed}
use Rattle.dri_base.proofs.RegionSizes.{region_size_above, region_size_within}
use Rattle.dri_card.specs.Loading.{IsImageWithin, image_bytes}
use Rattle.dri_core.specs.Effects.{after_leave, freed_by, placed_by, placed_with, run_at, run_by, spot_for, taken_in, told}
use Rattle.dri_core.specs.EntryTable.{LegalEntry, after_entry, is_start_for}
use Rattle.dri_core.specs.Phases.{Ask, Dead, In}
use Rattle.dri_core.specs.Privates.{Private, bound_at, bound_texture, blocks_needed, is_small, placed_after, room_in, run_in, size_of, spot_of, textured_with, used_run, used_spot}
use Rattle.dri_core.specs.Runs.{HoldRun, IsLive, LegalEntries, after, after_entries}
use Rattle.dri_core.specs.Worlds.{World, opening, put}
use Rattle.dri_core.proofs.Packing.{kept_level, kept_one, level_cases, no_some, room_is, some_spot}
use Rattle.dri_core.proofs.Parts.{put_here, put_keeps}
use Rattle.dri_core.proofs.Sizes.{small_one}
use Rattle.dri_core.proofs.Sound.{Sound, sound_after, sound_kept}
use Rattle.dri_core.proofs.TextureSizes.{place_inside, some_bytes}
use Rattle.dri_core.proofs.Textures.{Held}
use Rattle.dri_model.specs.Groups.{no_groups}
use Rattle.dri_model.specs.Heaps.{Run, Spot, base_of, in_run, is_newer}
use Rattle.dri_model.specs.Shares.{levels_after}
use Rattle.dri_model.specs.Words.{IsBoundInRange}
use Rattle.dri_shared.proofs.Clients.{current}
use Rattle.dri_texheap.specs.RegionStates.{IsInUse, IsInside}

-- each placed texture's run lies inside so many regions, and each shared region is one of them
abbrev AreInside : ℕ → Private → Type 0
AreInside n p = ((t : ℕ) (spot : Spot) → p.placed t ≡ Some spot → IsInside n spot.run) × ((k level : ℕ) → p.levels k ≡ Some level → k < n)

abbrev AllInside : ℕ → World → Type 0
AllInside n w = (c : ℕ) → AreInside n (w.client c)

kept : (n : ℕ) (f : ℕ → Private) (c : ℕ) (p : Private) → ((d : ℕ) → AreInside n (f d)) → AreInside n p → (d : ℕ) → AreInside n (put f c p d)
kept n f c p all here d = put_keeps (λ k q. AreInside n q) f c p d here (all d)

-- a texture that is put in a spot inside
module _ (s : Scene) (w : World) (c t : ℕ) (run : Run) (all : AreInside s.regions (w.client c)) where
  put_inside : (room : Option Spot) → IsInside s.regions (spot_for room run).run → (is_small s c t ≡ true → (spot_for room run).run.first < s.regions) → AreInside s.regions (placed_with room s w c t run)
  put_inside room inside first = (placed, levels)
    where
      placed : (u : ℕ) (spot : Spot) → placed_after (w.client c).placed (freed_by room s.regions w.heap run.count) t (spot_for room run) u ≡ Some spot → IsInside s.regions spot.run
      placed u spot e = by_case (u == t) refl
        where
          by_case : (b : Bool) → (u == t) ≡ b → IsInside s.regions spot.run
          by_case true h = subst (λ (x : Spot). IsInside s.regions x.run) (some_spot (spot_for room run) spot (rw h at e)) inside
          by_case false h = all.0 u spot (kept_one (freed_by room s.regions w.heap run.count) ((w.client c).placed u) spot (rw h at e)).0

      levels : (k level : ℕ) → levels_after (w.client c).levels (freed_by room s.regions w.heap run.count) (is_small s c t) (spot_for room run) (blocks_needed s c t) k ≡ Some level → k < s.regions
      levels k level e = by_level (level_cases (w.client c).levels (freed_by room s.regions w.heap run.count) (is_small s c t) (spot_for room run) (blocks_needed s c t) k level e)
        where
          by_level : ((is_small s c t ≡ true) × (k ≡ (spot_for room run).run.first) × (level ≡ (spot_for room run).block + blocks_needed s c t))
              ⊎ (((w.client c).levels k ≡ Some level) × (freed_by room s.regions w.heap run.count k ≡ false) × (is_small s c t ≡ true → k ≡ (spot_for room run).run.first → ⊥)) → k < s.regions
          by_level (inl x) = subst (λ j. j < s.regions) (sym x.1) (first x.0)
          by_level (inr x) = all.1 k level x.0

-- the spot of a place lies inside
spot_inside : (s : Scene) (w : World) (c t first count : ℕ) → LegalEntry s w (Entry_is.Place c t first count) → AreInside s.regions (w.client c) →
    IsInside s.regions (spot_for (room_in s c (w.client c) t) (run_at first count)).run × (is_small s c t ≡ true → (spot_for (room_in s c (w.client c) t) (run_at first count)).run.first < s.regions)
spot_inside s w c t first count legal all = by_room (room_in s c (w.client c) t) refl legal.4
  where
    by_room : (o : Option Spot) → room_in s c (w.client c) t ≡ o → is_start_for o s.regions w.heap count first ≡ true →
        IsInside s.regions (spot_for o (run_at first count)).run × (is_small s c t ≡ true → (spot_for o (run_at first count)).run.first < s.regions)
    by_room None e start =
        let inside = place_inside s.regions w.heap count first start in
        (inside, λ small. let one = small_one s.region_size (size_of s c t) small in omega (arith, inside, legal.3, one))
    by_room (Some room) e start =
        let is = room_is s c (w.client c) t room e in
        let below = all.1 room.run.first room.block is.level in
        (omega (arith, below, is.one), λ small. below)

place_inside_all : (s : Scene) (w : World) (c t first count : ℕ) → LegalEntry s w (Entry_is.Place c t first count) → AreInside s.regions (w.client c) → AreInside s.regions (placed_by s w c t first count)
place_inside_all s w c t first count legal all = let spot = spot_inside s w c t first count legal all in put_inside s w c t (run_at first count) all (room_in s c (w.client c) t) spot.0 spot.1

inside_entry : (s : Scene) (w : World) (e : Entry) → LegalEntry s w e → AllInside s.regions w → AllInside s.regions (after_entry s w e)
inside_entry s w (Entry_is.Light c) legal all = kept s.regions w.client c (record (w.client c) { phase = In }) all (all c)
inside_entry s w (Entry_is.Kernel c found) legal all = kept s.regions w.client c (taken_in s w c) all (λ t spot e. (all c).0 t spot (kept_one (is_newer w.heap (w.client c).local) ((w.client c).placed t) spot e).0, λ k level e. (all c).1 k level (kept_level (is_newer w.heap (w.client c).local) (w.client c).levels k level e).0)
inside_entry s w (Entry_is.Stale c) legal all = kept s.regions w.client c (record (w.client c) { phase = Ask }) all (all c)
inside_entry s w (Entry_is.Emit c groups) legal all = kept s.regions w.client c (record (w.client c) { dirty = no_groups }) all (all c)
inside_entry s w (Entry_is.Place c t first count) legal all =
    kept s.regions w.client c (placed_by s w c t first count) all (place_inside_all s w c t first count legal (all c))
inside_entry s w (Entry_is.Run c i) legal all = kept s.regions w.client c (run_by s w c i) all (all c)
inside_entry s w (Entry_is.Leave c) legal all = kept s.regions w.client c (record (w.client c) { phase = after_leave s c (w.client c) }) all (all c)
inside_entry s w (Entry_is.Info c) legal all = kept s.regions w.client c (told s w c) all (all c)
inside_entry s w (Entry_is.Change i) legal all = all
inside_entry s w (Entry_is.Gone c) legal all = kept s.regions w.client c (record (w.client c) { phase = Dead }) all (all c)

inside_along : (s : Scene) (w : World) (es : List Entry) → LegalEntries s w es → AllInside s.regions w → AllInside s.regions (after_entries s w es)
inside_along s w [] legal all = all
inside_along s w (e ∷ es) legal all = inside_along s (after_entry s w e) es legal.1 (inside_entry s w e legal.0 all)

all_inside : (s : Scene) (journal : List Entry) → HoldRun s journal → AllInside s.regions (after s journal)
all_inside s journal run = inside_along s (opening s) journal run (λ d. (λ t spot e. absurd (no_some refl e), λ k level e. absurd (no_level e)))
  where
    no_level : {v : ℕ} → None ≡ Some v → ⊥
    no_level e = grind arith

-- what lies in the regions of a run inside lies in the memory
within_memory : (size regions base bytes : ℕ) (run : Run) → 0 < size → 0 < bytes → IsInside regions run → in_run run ((base + (bytes - 1)) / size) ≡ true → base + bytes ≤ regions * size
within_memory size regions base bytes run sized some inside last =
    let below : (base + (bytes - 1)) / size < regions = grind (arith, nat_tests) in
    let place : base + (bytes - 1) < regions * size = (div-lt_iff_lt-mul {k = size} sized).0 below in
    omega (arith, place, some)

-- a texture in range has some bytes
pub has_bytes : (heap : ℕ) (p : Texture) → TextureInRange heap p → 0 < length p.bytes
has_bytes heap p range = some_bytes p.shape.format p.shape.width p.shape.height (length p.bytes) range.whole range.wide.0 range.high.0

-- a client that may act
module _ (s : Scene) (journal : List Entry) (good : InRange s) (run : HoldRun s journal) (c : ℕ) (acts : ((after s journal).client c).phase ≡ In) where
  -- what holds of its placed textures
  inside_all : AreInside s.regions ((after s journal).client c)
  inside_all = all_inside s journal run c

  pub inside_at : (t : ℕ) (spot : Spot) → ((after s journal).client c).placed t ≡ Some spot → IsInside s.regions spot.run
  inside_at = inside_all.0

  pub fresh_at : (r : Run) → IsLive (after s journal).heap ((after s journal).client c).local r
  fresh_at r k e = rw (current s journal good run c acts).local ((sound_after s journal (well_formed s good) run).textures.ages k)

  pub held_at : (t : ℕ) (spot : Spot) → ((after s journal).client c).placed t ≡ Some spot → Held s (after s journal).heap (after s journal).memory c t spot
  held_at t spot e = (sound_after s journal (well_formed s good) run).textures.held c t spot (e, fresh_at spot.run)

  -- the run that a triangle uses
  by_use : (o : Option ℕ) (u : Option Spot) → spot_of ((after s journal).client c).placed o ≡ u → IfSome (run_in u) (IsInside s.regions) × IfSome (run_in u) (IsInUse (after s journal).heap)
  by_use None None e = (tt, tt)
  by_use None (Some spot) e = absurd (no_some refl e)
  by_use (Some t) None e = (tt, tt)
  by_use (Some t) (Some spot) e = (inside_at t spot e, (held_at t spot e).used)

  pub use_is : (u : Option Run) → u ≡ used_run ((after s journal).client c) → IfSome u (IsInside s.regions) × IfSome u (IsInUse (after s journal).heap)
  use_is u e = subst (λ x. IfSome x (IsInside s.regions) × IfSome x (IsInUse (after s journal).heap)) (sym e) (by_use (textured_with ((after s journal).client c).state) (used_spot ((after s journal).client c)) refl)

  -- the bound texture, where it is placed, lies in the memory and is in range
  by_bound : (b : Option ℕ) (o : Option Texture) (u : Option Spot) → texture_bound (textures_of s c) b ≡ o → spot_of ((after s journal).client c).placed b ≡ u →
      IsImageWithin (heap_bytes s) (bound_at s.region_size o u) × IsBoundInRange (bound_at s.region_size o u)
  by_bound b None u texture placed = (tt, tt)
  by_bound b (Some p) None texture placed = (tt, tt)
  by_bound None (Some p) (Some spot) texture placed = absurd (cc)
  by_bound (Some t) (Some p) (Some spot) texture placed =
      let range : TextureInRange (heap_bytes s) p = textures_in_range s c t p good texture in
      let bytes : image_bytes p.shape ≡ length p.bytes = sym range.whole in
      let sized : size_of s c t ≡ length p.bytes = rw texture refl in
      let some : 0 < length p.bytes = has_bytes (heap_bytes s) p range in
      let last = ((sound_after s journal (well_formed s good) run).textures.packed c).inside t spot placed (length p.bytes - 1) (omega (arith, sized, some)) in
      (rw bytes (within_memory s.region_size s.regions (base_of s.region_size spot) (length p.bytes) spot.run (region_size_above s.region_size good.card.sized) some (inside_at t spot placed) last), (range.wide, range.high))

  pub bound_is : IsImageWithin (heap_bytes s) (bound_texture s c ((after s journal).client c)) × IsBoundInRange (bound_texture s c ((after s journal).client c))
  bound_is = by_bound ((after s journal).client c).state.bound (texture_bound (textures_of s c) ((after s journal).client c).state.bound) (spot_of ((after s journal).client c).placed ((after s journal).client c).state.bound) refl refl

-- where a place puts a texture: inside, at a block of a region, and with its bytes in the memory
pub record IsStand (s : Scene) (spot : Spot) (bytes : ℕ) : Type 0 where
  pub inside : IsInside s.regions spot.run
  pub block : spot.block ≤ 1024
  pub memory : base_of s.region_size spot + bytes ≤ heap_bytes s

pub stands_at : (s : Scene) (journal : List Entry) (c t first count : ℕ) (good : InRange s) (run : HoldRun s journal) → LegalEntry s (after s journal) (Entry_is.Place c t first count) → 0 < size_of s c t →
    IsStand s (spot_for (room_in s c ((after s journal).client c) t) (run_at first count)) (size_of s c t)
stands_at s journal c t first count good run legal some = record {
  inside = inside;
  block = block (room_in s c ((after s journal).client c) t) refl;
  memory = within_memory s.region_size s.regions (base_of s.region_size spot) (size_of s c t) spot.run (region_size_above s.region_size good.card.sized) some inside
      ((later.textures.packed c).inside t spot there (size_of s c t - 1) (omega (arith, some)));
}
  where
    w : World
    w = after s journal

    spot : Spot
    spot = spot_for (room_in s c ((after s journal).client c) t) (run_at first count)

    inside : IsInside s.regions spot.run
    inside = (spot_inside s (after s journal) c t first count legal (all_inside s journal run c)).0

    later : Sound s (after_entry s (after s journal) (Entry_is.Place c t first count))
    later = sound_kept s (after s journal) (Entry_is.Place c t first count) (well_formed s good) (sound_after s journal (well_formed s good) run) legal

    there : ((after_entry s (after s journal) (Entry_is.Place c t first count)).client c).placed t ≡ Some spot
    there = ap (λ (p : Private). p.placed t) (put_here (after s journal).client c (placed_by s (after s journal) c t first count)) ∙ rw (same t) refl
      where
        same : (n : ℕ) → (n == n) ≡ true
        same n = grind (arith, nat_tests)

    block : (o : Option Spot) → room_in s c ((after s journal).client c) t ≡ o → (spot_for o (run_at first count)).block ≤ 1024
    block None e = omega arith
    block (Some room) e = let is = room_is s c ((after s journal).client c) t room e in below room.block (blocks_needed s c t) is.fits
      where
        below : (a b : ℕ) → a + b ≤ s.region_size / 64 → a ≤ 1024
        below a b le =
            let whole : s.region_size / 64 * 64 ≤ s.region_size = div-mul-le_self s.region_size 64 in
            let most = (region_size_within s.region_size good.card.sized).1 in
            omega (arith, le, whole, most)
