-- Triangles and places keep placed textures intact.
use Rattle.std.proofs.Common.{◌≡◌, ◌<◌, ◌≤◌, ◌+◌, ◌-◌, ◌*◌, ◌/◌, ℕ, suc, List, length, Bool, true, false, not, Option, Some, None, arith, refl, sym, ◌∙◌, inl, inr, subst, ap}
use Rattle.std.specs.Prelude.{◌⊎◌, ◌==◌, ◌||◌, ◌&&◌, nat_lt, nat_le, if◌then◌else◌}
use Rattle.std.proofs.lemmas.Bool.Decides.{nat_tests}
use Rattle.std.proofs.lemmas.Bool.{true≢false, cases_eq, and_parts, false_from_ne_true, not-true, not-false}
use Rattle.dri_base.specs.declared.command.Command.{Command}
use Rattle.dri_base.specs.declared.command.Command.TheVariants.{Triangle}
use Rattle.dri_base.specs.declared.journal.Entry.TheVariants.{Place, Run}
use Rattle.dri_base.specs.declared.scene.Scene.{Scene}
use Rattle.dri_base.proofs.RangeLemmas.{IsWellFormed}
use Rattle.dri_base.specs.Scenes.{command_at, textures_of, bytes_of, regions_needed}
use Rattle.dri_base.specs.Texels.{texture_in}
use Rattle.dri_model.specs.Heaps as Heaps
use Rattle.dri_model.specs.Heaps.{Heap, Spot, base_of, in_run, any_in, lose, is_newer, is_oldest, is_room, fits, lowest_place, classes_for, is_place_for, freed_for, age_freed, allocated, touched, uploaded}
use Rattle.dri_model.specs.Shares.{lose_levels}
use Rattle.dri_core.specs.Worlds.{World, put}
use Rattle.dri_core.specs.Privates.{Private, blocks_needed, is_small, room_in, size_of, used_spot}
use Rattle.dri_core.specs.EntryTable.{LegalEntry, after_entry, is_start_for}
use Rattle.dri_core.specs.Effects.{freed_by, heap_placed, placed_with, run_by, run_at, heap_after, local_after, spot_for}
use Rattle.dri_core.specs.Runs.{HasBytes, HasLive, IsLiveAt, IsLiveShared}
use Rattle.dri_model.proofs.Counts.{none_from}
use Rattle.dri_core.proofs.Invariant.{Invariant, is_acting, acting_holds, one_holder}
use Rattle.dri_core.proofs.Packing.{IsRoom, Packed, each_placed, first_region, in_bounds, level_cases, level_here, level_there, only_region, room_is, still_level}
use Rattle.dri_core.proofs.Parts.{put_cases, put_here, put_keeps, put_there}
use Rattle.dri_core.proofs.Sizes.{in_blocks, in_region, small_blocks, small_one}
use Rattle.dri_core.proofs.Textures.{Held, HeldBy, MarkedBy, NoneNew, Textures, alone_put, byte_in_run, none_new}

-- what a command does to the heap
pub record Grown (h new : Heap) : Type 0 where
  pub global : h.global ≤ new.global
  pub ages : (k : ℕ) → new.age k ≤ new.global
  pub age : (k : ℕ) → h.age k ≤ new.age k
  pub used : (k : ℕ) → new.used k ≡ h.used k
  pub shared : (k : ℕ) → new.shared k ≡ h.shared k

pub grown_same : (h : Heap) → ((k : ℕ) → h.age k ≤ h.global) → Grown h h
grown_same h ages = record { global = omega arith; ages = ages; age = λ k. omega arith; used = λ k. refl; shared = λ k. refl }

pub grown_touched : (h : Heap) (run : Heaps.Run) → ((k : ℕ) → h.age k ≤ h.global) → Grown h (touched run h)
grown_touched h run ages = record { global = omega arith; ages = λ k. grind (arith, ages k); age = λ k. grind (arith, ages k); used = λ k. refl; shared = λ k. refl }

pub grown : (h : Heap) (spot : Option Spot) (command : Option Command) → ((k : ℕ) → h.age k ≤ h.global) → Grown h (heap_after h spot command)
grown h (Some spot) (Some (Triangle t)) ages = grown_touched h spot.run ages
grown h None (Some (Triangle t)) ages = grown_same h ages
grown h run _ ages = grown_same h ages

pub local_grown : (h : Heap) (spot : Option Spot) (command : Option Command) (local : ℕ) → local ≡ h.global → local_after local h spot command ≡ (heap_after h spot command).global
local_grown h (Some run) (Some (Triangle t)) local e = refl
local_grown h None (Some (Triangle t)) local e = e
local_grown h run _ local e = e

-- who acts beside c isn't there
pub alone : (s : Scene) (w : World) (c d : ℕ) → Invariant s w → is_acting (w.client c).phase ≡ true → is_acting (w.client d).phase ≡ true → d ≡ c
alone s w c d inv a b = one_holder (inv.holding c (acting_holds _ a)) (inv.holding d (acting_holds _ b))

pub not_free : (s : Scene) (w : World) (c : ℕ) → Invariant s w → is_acting (w.client c).phase ≡ true → w.holder ≡ None → ⊥
not_free s w c inv a none = same (inv.holding c (acting_holds _ a))
  where
    same : w.holder ≡ Some c → ⊥
    same e = grind arith

pub ran : (s : Scene) (w : World) (c i : ℕ) → Invariant s w → Textures s w → LegalEntry s w (Run c i) → Textures s (after_entry s w (Run c i))
ran s w c i inv tex legal = record {
  ages = g.ages;
  locals = λ d. put_keeps (λ k q. q.local ≤ new.global) w.client c (run_by s w c i) d (rw local (omega arith)) (omega (arith, tex.locals d, g.global));
  acting_local = λ d. put_cases (λ k q. is_acting q.phase ≡ true → q.local ≡ new.global) w.client c (run_by s w c i) d (λ h. local) (λ ne h. absurd (ne (alone s w c d inv acts h)));
  light_local = λ d none. absurd (not_free s w c inv acts none);
  held = λ d. put_keeps (HeldBy s new w.memory) w.client c (run_by s w c i) d
      (λ t run live. on (tex.held c t run (own_live t run live)))
      (λ t run live. on (tex.held d t run (was_live d t run live)));
  marks = λ d. put_keeps (λ k q. MarkedBy new q) w.client c (run_by s w c i) d
      (λ k level live. marked_on k (tex.marks c k level (own_shared k level live)))
      (λ k level live. marked_on k (tex.marks d k level (was_shared d k level live)));
  packed = λ d. put_keeps (λ k q. Packed s k q.placed q.levels) w.client c (run_by s w c i) d (tex.packed c) (tex.packed d);
  alone = alone_put w.heap new w.client c (run_by s w c i) (none_new w.heap new (w.client c) (run_by s w c i) own_live own_shared) (λ d. none_new w.heap new (w.client d) (w.client d) (was_live d) (was_shared d)) tex.alone;
}
  where
    new : Heap
    new = heap_after w.heap (used_spot (w.client c)) (command_at s c i)

    g : Grown w.heap new
    g = grown w.heap (used_spot (w.client c)) (command_at s c i) tex.ages

    acts : is_acting (w.client c).phase ≡ true
    acts = rw legal.0 refl

    was : (w.client c).local ≡ w.heap.global
    was = tex.acting_local c acts

    local : (run_by s w c i).local ≡ new.global
    local = local_grown w.heap (used_spot (w.client c)) (command_at s c i) (w.client c).local was

    own_live : (t : ℕ) (spot : Spot) → IsLiveAt new (run_by s w c i) t spot → IsLiveAt w.heap (w.client c) t spot
    own_live t spot live = (live.0, λ k _. omega (arith, tex.ages k, was))

    own_shared : (k level : ℕ) → IsLiveShared new (run_by s w c i) k level → IsLiveShared w.heap (w.client c) k level
    own_shared k level live = (live.0, omega (arith, tex.ages k, was))

    was_live : (d t : ℕ) (spot : Spot) → IsLiveAt new (w.client d) t spot → IsLiveAt w.heap (w.client d) t spot
    was_live d t spot live = (live.0, λ k i. omega (arith, g.age k, live.1 k i))

    was_shared : (d k level : ℕ) → IsLiveShared new (w.client d) k level → IsLiveShared w.heap (w.client d) k level
    was_shared d k level live = (live.0, omega (arith, g.age k, live.1))

    marked_on : (k : ℕ) → (w.heap.used k ≡ true) × (w.heap.shared k ≡ true) → (new.used k ≡ true) × (new.shared k ≡ true)
    marked_on k old = (g.used k ∙ old.0, g.shared k ∙ old.1)

    on : {d t : ℕ} {spot : Spot} → Held s w.heap w.memory d t spot → Held s new w.memory d t spot
    on old = record { used = λ k i. g.used k ∙ old.used k i; image = old.image }

-- a freed region gets an age above all before
pub freed_age : (n : ℕ) (h : Heap) (m k : ℕ) → is_oldest n h m k ≡ true → (if m == 0 then h.global else suc h.global) ≡ suc h.global
freed_age n h m k e = grind (arith, nat_tests)

pub freed_low : (global m : ℕ) → global ≤ (if m == 0 then global else suc global)
freed_low global m = grind (arith, nat_tests)

pub room_at : (n : ℕ) (h : Heap) (m count first k : ℕ) → fits n h m count first ≡ true → first ≤ k → k < first + count → is_room n h m k ≡ true
room_at n h m count first k e le lt = not-false (is_room n h m k) (none_from (λ j. not (is_room n h m j)) first count k (not-true _ (and_parts _ _ e).1) le lt)

pub no_room : (a b : Bool) → a ≡ true → b ≡ false → (not a || b) ≡ false
no_room a b p q = rw (p, q) refl

-- the memory outside of what is written stays
pub uploaded_keeps : (memory : ℕ → ℕ) (base : ℕ) (bytes : List ℕ) (a : ℕ) → ((m : ℕ) → m < length bytes → base + m ≡ a → ⊥) → uploaded memory base bytes a ≡ memory a
uploaded_keeps memory base bytes a out = rw (false_from_ne_true _ hit) refl
  where
    hit : (nat_le base a && nat_lt a (base + length bytes)) ≡ true → ⊥
    hit e = out (a - base) (grind (arith, nat_tests)) (grind (arith, nat_tests))

pub uploaded_at : (memory : ℕ → ℕ) (base : ℕ) (bytes : List ℕ) → HasBytes (uploaded memory base bytes) base bytes
uploaded_at memory base bytes n lt = let e : (base + n) - base ≡ n = omega arith in rw (yes_le, yes_lt, e) refl
  where
    yes_le : nat_le base (base + n) ≡ true
    yes_le = grind (arith, nat_tests)

    yes_lt : nat_lt (base + n) (base + length bytes) ≡ true
    yes_lt = grind (arith, nat_tests)

-- so many bytes from a spot on lie in its run
abbrev pub LieIn : ℕ → Spot → ℕ → Type 0
LieIn size spot bytes = (n : ℕ) → n < bytes → in_run spot.run ((base_of size spot + n) / size) ≡ true

-- what lies in other regions stays
pub keeps_regions : (size : ℕ) (memory : ℕ → ℕ) (spot other : Spot) (bytes its : List ℕ) → LieIn size spot (length bytes) → LieIn size other (length its) →
    ((k : ℕ) → in_run other.run k ≡ true → in_run spot.run k ≡ false) → HasBytes memory (base_of size other) its → HasBytes (uploaded memory (base_of size spot) bytes) (base_of size other) its
keeps_regions size memory spot other bytes its new old out has n lt = uploaded_keeps memory (base_of size spot) bytes (base_of size other + n) apart ∙ has n lt
  where
    apart : (m : ℕ) → m < length bytes → base_of size spot + m ≡ base_of size other + n → ⊥
    apart m small same = true≢false (sym (subst (λ a. in_run spot.run (a / size) ≡ true) same (new m small)) ∙ out ((base_of size other + n) / size) (old n lt))

-- what lies in lower blocks of the region stays
pub keeps_blocks : (size : ℕ) (memory : ℕ → ℕ) (spot other : Spot) (bytes its : List ℕ) (blocks : ℕ) → other.run.first ≡ spot.run.first → ((n : ℕ) → n < length its → n < 64 * blocks) → other.block + blocks ≤ spot.block →
    HasBytes memory (base_of size other) its → HasBytes (uploaded memory (base_of size spot) bytes) (base_of size other) its
keeps_blocks size memory spot other bytes its blocks same few low has n lt = uploaded_keeps memory (base_of size spot) bytes (base_of size other + n) apart ∙ has n lt
  where
    starts : other.run.first * size ≡ spot.run.first * size
    starts = ap (λ f. f * size) same

    apart : (m : ℕ) → m < length bytes → base_of size spot + m ≡ base_of size other + n → ⊥
    apart m small e = absurd (omega (arith, e, starts, low, few n lt))

pub or_true : (a b : Bool) → b ≡ true → (a || b) ≡ true
or_true true b e = refl
or_true false b e = e

-- one that isn't allocated or freed is used and marked as it was
pub used_still : (a b f : Bool) → b ≡ true → f ≡ false → (a || (b && not f)) ≡ true
used_still true b f p q = refl
used_still false b f p q = rw (p, q) refl

pub marked_still : (m b a f : Bool) → b ≡ true → a ≡ false → f ≡ false → (m || (b && not (a || f))) ≡ true
marked_still m b a f p q r = or_true m _ (rw (p, q, r) refl)

-- who acts knows all ages
module _ (s : Scene) (w : World) (c : ℕ) (tex : Textures s w) (acts : is_acting (w.client c).phase ≡ true) where
  pub mine_live : (u : ℕ) (other : Spot) → (w.client c).placed u ≡ Some other → IsLiveAt w.heap (w.client c) u other
  mine_live u other e = (e, λ k i. omega (arith, tex.ages k, tex.acting_local c acts))

  pub shared_live : (k v : ℕ) → (w.client c).levels k ≡ Some v → IsLiveShared w.heap (w.client c) k v
  shared_live k v e = (e, omega (arith, tex.ages k, tex.acting_local c acts))

-- the world after texture t is placed in a room, where there is one, or in the run
abbrev pub world_with : Option Spot → Scene → World → ℕ → ℕ → ℕ → ℕ → World
world_with room s w c t first count = record w {
  heap = heap_placed room (is_small s c t) s.regions w.heap (run_at first count);
  memory = uploaded w.memory (base_of s.region_size (spot_for room (run_at first count))) (bytes_of (texture_in (textures_of s c) t));
  client = put w.client c (placed_with room s w c t (run_at first count));
}

module _ (s : Scene) (w : World) (c t first count : ℕ) (good : IsWellFormed s) (inv : Invariant s w) (tex : Textures s w) (acts : is_acting (w.client c).phase ≡ true) (needed : count ≡ regions_needed s c t) where
  abbrev run : Heaps.Run
  run = run_at first count

  abbrev bytes : List ℕ
  bytes = bytes_of (texture_in (textures_of s c) t)

  was : (w.client c).local ≡ w.heap.global
  was = tex.acting_local c acts

  old_packed : Packed s c (w.client c).placed (w.client c).levels
  old_packed = tex.packed c

  -- in a shared region with room
  module _ (room : Spot) (is : IsRoom s c t (w.client c).levels room) where
    abbrev room_part : Private
    room_part = placed_with (Some room) s w c t run

    abbrev room_memory : ℕ → ℕ
    room_memory = uploaded w.memory (base_of s.region_size room) bytes

    abbrev kept : ℕ → Bool
    kept = freed_by (Some room) s.regions w.heap count

    room_cases : (k v : ℕ) → room_part.levels k ≡ Some v → ((is_small s c t ≡ true) × (k ≡ room.run.first) × (v ≡ room.block + blocks_needed s c t)) ⊎ (((w.client c).levels k ≡ Some v) × (kept k ≡ false) × (is_small s c t ≡ true → k ≡ room.run.first → ⊥))
    room_cases k v e = level_cases (w.client c).levels kept (is_small s c t) room (blocks_needed s c t) k v e

    room_each : (P : ℕ → Spot → Type 0) → P t room → ((u : ℕ) (other : Spot) → (w.client c).placed u ≡ Some other → P u other) → (u : ℕ) (other : Spot) → room_part.placed u ≡ Some other → P u other
    room_each P here there = each_placed P (w.client c).placed kept t room here (λ u other e _. there u other e)

    -- the region had the level at which the room begins
    at_room : (k : ℕ) → in_run room.run k ≡ true → (w.client c).levels k ≡ Some room.block
    at_room k i = subst (λ j. (w.client c).levels j ≡ Some room.block) (sym (only_region room.run k is.one i)) is.level

    room_inside : LieIn s.region_size room (length bytes)
    room_inside n lt = subst (λ k. in_run room.run k ≡ true) (sym (in_region s.region_size room.run.first room.block (blocks_needed s c t) (size_of s c t) n is.fits refl lt)) (first_region room.run is.one)

    -- another texture in the region stands below the room
    below_room : (u : ℕ) (other : Spot) (k : ℕ) → (w.client c).placed u ≡ Some other → in_run room.run k ≡ true → in_run other.run k ≡ true → (is_small s c u ≡ true) × (other.block + blocks_needed s c u ≤ room.block)
    below_room u other k e i j = old_packed.below u other k room.block e j (at_room k i)

    room_below : (k v : ℕ) → in_run room.run k ≡ true → room_part.levels k ≡ Some v → (is_small s c t ≡ true) × (room.block + blocks_needed s c t ≤ v)
    room_below k v i l = by_level (room_cases k v l)
      where
        by_level : ((is_small s c t ≡ true) × (k ≡ room.run.first) × (v ≡ room.block + blocks_needed s c t)) ⊎ (((w.client c).levels k ≡ Some v) × (kept k ≡ false) × (is_small s c t ≡ true → k ≡ room.run.first → ⊥)) → (is_small s c t ≡ true) × (room.block + blocks_needed s c t ≤ v)
        by_level (inl x) = (is.small, omega (arith, x.2))
        by_level (inr x) = absurd (x.2 is.small (only_region room.run k is.one i))

    others_below : (u : ℕ) (other : Spot) → (w.client c).placed u ≡ Some other → (k v : ℕ) → in_run other.run k ≡ true → room_part.levels k ≡ Some v → (is_small s c u ≡ true) × (other.block + blocks_needed s c u ≤ v)
    others_below u other e k v i l = by_level (room_cases k v l)
      where
        by_level : ((is_small s c t ≡ true) × (k ≡ room.run.first) × (v ≡ room.block + blocks_needed s c t)) ⊎ (((w.client c).levels k ≡ Some v) × (kept k ≡ false) × (is_small s c t ≡ true → k ≡ room.run.first → ⊥)) → (is_small s c u ≡ true) × (other.block + blocks_needed s c u ≤ v)
        by_level (inl x) = let old = old_packed.below u other k room.block e i (subst (λ j. (w.client c).levels j ≡ Some room.block) (sym x.1) is.level) in (old.0, omega (arith, old.1, x.2))
        by_level (inr x) = old_packed.below u other k v e i x.0

    others_home : (u : ℕ) (other : Spot) → (w.client c).placed u ≡ Some other → is_small s c u ≡ true → (v : ℕ) × (room_part.levels other.run.first ≡ Some v)
    others_home u other e small = by_region (cases_eq other.run.first room.run.first)
      where
        home : (v : ℕ) × ((w.client c).levels other.run.first ≡ Some v)
        home = old_packed.home u other e small

        by_region : (other.run.first ≡ room.run.first) ⊎ (other.run.first ≡ room.run.first → ⊥) → (v : ℕ) × (room_part.levels other.run.first ≡ Some v)
        by_region (inl same) = (room.block + blocks_needed s c t, rw is.small (level_here (w.client c).levels kept room (blocks_needed s c t) other.run.first same))
        by_region (inr ne) = (home.0, level_there (w.client c).levels kept (is_small s c t) room (blocks_needed s c t) other.run.first ne ∙ still_level kept (w.client c).levels other.run.first home.0 home.1 refl)

    room_packed : Packed s c room_part.placed room_part.levels
    room_packed = record {
      level = λ k v e. elim (room_cases k v e) [ inl x ↦ λ large. omega (arith, x.2, is.fits) | inr x ↦ old_packed.level k v x.0 ];
      count = room_each (λ u z. z.run.count ≡ regions_needed s c u) (is.one ∙ sym (small_one s.region_size (size_of s c t) is.small)) old_packed.count;
      inside = room_each (λ u z. LieIn s.region_size z (size_of s c u)) room_inside old_packed.inside;
      below = λ u z k v e. room_each (λ u z. (k v : ℕ) → in_run z.run k ≡ true → room_part.levels k ≡ Some v → (is_small s c u ≡ true) × (z.block + blocks_needed s c u ≤ v)) room_below others_below u z e k v;
      home = room_each (λ u z. is_small s c u ≡ true → (v : ℕ) × (room_part.levels z.run.first ≡ Some v))
          (λ small. (room.block + blocks_needed s c t, rw is.small (level_here (w.client c).levels kept room (blocks_needed s c t) room.run.first refl)))
          others_home;
      apart = λ u v k a b e f ne i j. apart k u a e v b f ne i j;
    }
      where
        Apart : ℕ → ℕ → Spot → ℕ → Spot → Type 0
        Apart k u a v b = (u ≡ v → ⊥) → in_run a.run k ≡ true → in_run b.run k ≡ true → (a.block + blocks_needed s c u ≤ b.block) ⊎ (b.block + blocks_needed s c v ≤ a.block)

        apart : (k u : ℕ) (a : Spot) → room_part.placed u ≡ Some a → (v : ℕ) (b : Spot) → room_part.placed v ≡ Some b → Apart k u a v b
        apart k = room_each (λ u a. (v : ℕ) (b : Spot) → room_part.placed v ≡ Some b → Apart k u a v b)
            (room_each (Apart k t room) (λ ne. absurd (ne refl)) (λ v b f ne i j. inr (below_room v b k f i j).1))
            (λ u a e. room_each (Apart k u a) (λ ne i j. inl (below_room u a k e j i).1) (λ v b f ne i j. old_packed.apart u v k a b e f ne i j))

    -- the room's region is the client's own, in use and marked
    room_mark : (k : ℕ) → in_run room.run k ≡ true → (w.heap.used k ≡ true) × (w.heap.shared k ≡ true)
    room_mark k i = tex.marks c k room.block (shared_live s w c tex acts k room.block (at_room k i))

    room_has : (k : ℕ) → in_run room.run k ≡ true → HasLive w.heap (w.client c) k
    room_has k i = inr (room.block, shared_live s w c tex acts k room.block (at_room k i))

    room_held : Held s w.heap room_memory c t room
    room_held = record { used = λ k i. (room_mark k i).0; image = uploaded_at w.memory (base_of s.region_size room) bytes }

    -- its own textures elsewhere in the region stay
    mine_held : (u : ℕ) (other : Spot) → (w.client c).placed u ≡ Some other → Held s w.heap room_memory c u other
    mine_held u other e = record { used = old.used; image = by_region (in_run other.run room.run.first) refl }
      where
        old : Held s w.heap w.memory c u other
        old = tex.held c u other (mine_live s w c tex acts u other e)

        its : List ℕ
        its = bytes_of (texture_in (textures_of s c) u)

        by_region : (b : Bool) → in_run other.run room.run.first ≡ b → HasBytes room_memory (base_of s.region_size other) its
        by_region true i = let low = below_room u other room.run.first e (first_region room.run is.one) i in
            keeps_blocks s.region_size w.memory room other bytes its (blocks_needed s c u)
            (sym (only_region other.run room.run.first (old_packed.count u other e ∙ small_one s.region_size (size_of s c u) low.0) i))
            (λ n lt. in_blocks (size_of s c u) n lt) low.1 old.image
        by_region false i = keeps_regions s.region_size w.memory room other bytes its room_inside (old_packed.inside u other e)
            (λ k j. false_from_ne_true _ (λ in_room. true≢false (sym (subst (λ m. in_run other.run m ≡ true) (only_region room.run k is.one in_room) j) ∙ i))) old.image

    -- and so do others'
    their_held : (d : ℕ) → (d ≡ c → ⊥) → (u : ℕ) (other : Spot) → IsLiveAt w.heap (w.client d) u other → Held s w.heap room_memory d u other
    their_held d ne u other live = record {
      used = old.used;
      image = keeps_regions s.region_size w.memory room other bytes (bytes_of (texture_in (textures_of s d) u)) room_inside ((tex.packed d).inside u other live.0)
          (λ k j. false_from_ne_true _ (λ in_room. ne (tex.alone d c k (inl (u, other, live, j)) (room_has k in_room)))) old.image;
    }
      where
        old : Held s w.heap w.memory d u other
        old = tex.held d u other live

    room_new : NoneNew w.heap w.heap (w.client c) room_part
    room_new k (inl x) = room_each (λ u z. in_run z.run k ≡ true → HasLive w.heap (w.client c) k) (λ i. room_has k i) (λ u z e i. inl (u, z, mine_live s w c tex acts u z e, i)) x.0 x.1 x.2.0 x.3
    room_new k (inr x) = elim (room_cases k x.0 x.1.0) [
      | inl y ↦ room_has k (subst (λ j. in_run room.run j ≡ true) (sym y.1) (first_region room.run is.one))
      | inr y ↦ inr (x.0, shared_live s w c tex acts k x.0 y.0)
    ]

    pub placed_room : Textures s (world_with (Some room) s w c t first count)
    placed_room = record {
      ages = tex.ages;
      locals = λ d. put_keeps (λ k q. q.local ≤ w.heap.global) w.client c room_part d (tex.locals c) (tex.locals d);
      acting_local = λ d. put_keeps (λ k q. is_acting q.phase ≡ true → q.local ≡ w.heap.global) w.client c room_part d (tex.acting_local c) (tex.acting_local d);
      light_local = λ d none. absurd (not_free s w c inv acts none);
      held = λ d. put_cases (HeldBy s w.heap room_memory) w.client c room_part d (λ u other live. room_each (Held s w.heap room_memory c) room_held mine_held u other live.0) (λ ne. their_held d ne);
      marks = λ d. put_keeps (λ k q. MarkedBy w.heap q) w.client c room_part d
          (λ k level live. elim (room_cases k level live.0) [
            | inl y ↦ room_mark k (subst (λ j. in_run room.run j ≡ true) (sym y.1) (first_region room.run is.one))
            | inr y ↦ tex.marks c k level (shared_live s w c tex acts k level y.0)
          ]) (tex.marks d);
      packed = λ d. put_keeps (λ k q. Packed s k q.placed q.levels) w.client c room_part d room_packed (tex.packed d);
      alone = alone_put w.heap w.heap w.client c room_part room_new (λ d k x. x) tex.alone;
    }

  -- in a run that is allocated
  module _ (fitting : is_place_for s.regions w.heap count first ≡ true) where
    abbrev spot : Spot
    spot = spot_for None run

    abbrev new : Heap
    new = heap_placed None (is_small s c t) s.regions w.heap run

    abbrev part : Private
    part = placed_with None s w c t run

    abbrev memory : ℕ → ℕ
    memory = uploaded w.memory (base_of s.region_size spot) bytes

    abbrev freed : ℕ → Bool
    freed = freed_by None s.regions w.heap count

    abbrev between : ℕ
    between = age_freed s.regions w.heap count

    low : w.heap.global ≤ between
    low = freed_low w.heap.global (classes_for s.regions w.heap count)

    new_ages : (k : ℕ) → new.age k ≤ new.global
    new_ages k = by_tests (in_run run k) (freed k) between low (tex.ages k)
      where
        by_tests : (a b : Bool) (g : ℕ) → w.heap.global ≤ g → w.heap.age k ≤ w.heap.global → (if a then suc g else (if b then g else w.heap.age k)) ≤ suc g
        by_tests true b g l o = omega arith
        by_tests false true g l o = omega arith
        by_tests false false g l o = omega arith

    -- a region that isn't newer for another client is neither allocated nor freed, and has the age that it had
    outside : (d k : ℕ) → new.age k ≤ (w.client d).local → (in_run run k ≡ false) × (freed k ≡ false)
    outside d k l = by_tests (in_run run k) (freed k) refl refl l
      where
        by_tests : (a b : Bool) → in_run run k ≡ a → freed k ≡ b → (if a then suc between else (if b then between else w.heap.age k)) ≤ (w.client d).local → (a ≡ false) × (b ≡ false)
        by_tests true b p q l = absurd (omega (arith, l, low, tex.locals d))
        by_tests false true p q l = absurd (omega (arith, l, freed_age s.regions w.heap (classes_for s.regions w.heap count) k q, tex.locals d))
        by_tests false false p q l = (refl, refl)

    old_age : (d k : ℕ) → new.age k ≤ (w.client d).local → w.heap.age k ≤ (w.client d).local
    old_age d k l = let o = outside d k l in subst (λ v. v ≤ (w.client d).local) (rw (o.0, o.1) refl) l

    was_live : (d u : ℕ) (other : Spot) → IsLiveAt new (w.client d) u other → IsLiveAt w.heap (w.client d) u other
    was_live d u other live = (live.0, λ k i. old_age d k (live.1 k i))

    was_shared : (d k level : ℕ) → IsLiveShared new (w.client d) k level → IsLiveShared w.heap (w.client d) k level
    was_shared d k level live = (live.0, old_age d k live.1)

    -- a region of the run was free or is freed
    roomy : (k : ℕ) → in_run run k ≡ true → is_room s.regions w.heap (classes_for s.regions w.heap count) k ≡ true
    roomy k i = let b = in_bounds run k i in room_at s.regions w.heap (classes_for s.regions w.heap count) count first k (and_parts (first == lowest_place s.regions w.heap count (classes_for s.regions w.heap count)) (fits s.regions w.heap (classes_for s.regions w.heap count) count first) fitting).1 b.0 b.1

    -- so what is in use and not freed lies outside
    not_roomy : (k : ℕ) → w.heap.used k ≡ true → freed k ≡ false → in_run run k ≡ false
    not_roomy k u f = false_from_ne_true _ (λ i. true≢false (sym (roomy k i) ∙ no_room (w.heap.used k) (freed k) u f))

    not_mine : (u : ℕ) (other : Spot) → (w.client c).placed u ≡ Some other → ((k : ℕ) → in_run other.run k ≡ true → freed k ≡ false) → (k : ℕ) → in_run other.run k ≡ true → (in_run run k ≡ false) × (freed k ≡ false)
    not_mine u other e f k i = (not_roomy k ((tex.held c u other (mine_live s w c tex acts u other e)).used k i) (f k i), f k i)

    not_level : (k v : ℕ) → (w.client c).levels k ≡ Some v → freed k ≡ false → in_run run k ≡ false
    not_level k v e f = not_roomy k (tex.marks c k v (shared_live s w c tex acts k v e)).0 f

    fresh_cases : (k v : ℕ) → part.levels k ≡ Some v → ((is_small s c t ≡ true) × (k ≡ first) × (v ≡ 0 + blocks_needed s c t)) ⊎ (((w.client c).levels k ≡ Some v) × (freed k ≡ false) × (is_small s c t ≡ true → k ≡ first → ⊥))
    fresh_cases k v e = level_cases (w.client c).levels freed (is_small s c t) spot (blocks_needed s c t) k v e

    fresh_each : (P : ℕ → Spot → Type 0) → P t spot → ((u : ℕ) (other : Spot) → (w.client c).placed u ≡ Some other → ((k : ℕ) → in_run other.run k ≡ true → freed k ≡ false) → P u other) → (u : ℕ) (other : Spot) → part.placed u ≡ Some other → P u other
    fresh_each P here there = each_placed P (w.client c).placed freed t spot here there

    one_region : is_small s c t ≡ true → run.count ≡ 1
    one_region small = needed ∙ small_one s.region_size (size_of s c t) small

    first_in : (k : ℕ) → is_small s c t ≡ true → k ≡ first → in_run run k ≡ true
    first_in k small same = subst (λ j. in_run run j ≡ true) (sym same) (first_region run (one_region small))

    spot_inside : LieIn s.region_size spot (length bytes)
    spot_inside n lt = subst (λ a. in_run run (a / s.region_size) ≡ true) base (subst (λ m. in_run (run_at first m) ((first * s.region_size + n) / s.region_size) ≡ true) (sym needed) (byte_in_run s.region_size first (length bytes) n good.sized lt))
      where
        base : first * s.region_size + n ≡ base_of s.region_size spot + n
        base = omega arith

    fresh_below : (k v : ℕ) → in_run run k ≡ true → part.levels k ≡ Some v → (is_small s c t ≡ true) × (0 + blocks_needed s c t ≤ v)
    fresh_below k v i l = by_level (fresh_cases k v l)
      where
        by_level : ((is_small s c t ≡ true) × (k ≡ first) × (v ≡ 0 + blocks_needed s c t)) ⊎ (((w.client c).levels k ≡ Some v) × (freed k ≡ false) × (is_small s c t ≡ true → k ≡ first → ⊥)) → (is_small s c t ≡ true) × (0 + blocks_needed s c t ≤ v)
        by_level (inl x) = (x.0, omega (arith, x.2))
        by_level (inr x) = absurd (true≢false (sym i ∙ not_level k v x.0 x.1))

    kept_below : (u : ℕ) (other : Spot) → (w.client c).placed u ≡ Some other → ((k : ℕ) → in_run other.run k ≡ true → freed k ≡ false) → (k v : ℕ) → in_run other.run k ≡ true → part.levels k ≡ Some v → (is_small s c u ≡ true) × (other.block + blocks_needed s c u ≤ v)
    kept_below u other e f k v i l = by_level (fresh_cases k v l)
      where
        by_level : ((is_small s c t ≡ true) × (k ≡ first) × (v ≡ 0 + blocks_needed s c t)) ⊎ (((w.client c).levels k ≡ Some v) × (freed k ≡ false) × (is_small s c t ≡ true → k ≡ first → ⊥)) → (is_small s c u ≡ true) × (other.block + blocks_needed s c u ≤ v)
        by_level (inl x) = absurd (true≢false (sym (first_in k x.0 x.1) ∙ (not_mine u other e f k i).0))
        by_level (inr x) = old_packed.below u other k v e i x.0

    kept_home : (u : ℕ) (other : Spot) → (w.client c).placed u ≡ Some other → ((k : ℕ) → in_run other.run k ≡ true → freed k ≡ false) → is_small s c u ≡ true → (v : ℕ) × (part.levels other.run.first ≡ Some v)
    kept_home u other e f small = by_size (is_small s c t) refl
      where
        home : (v : ℕ) × ((w.client c).levels other.run.first ≡ Some v)
        home = old_packed.home u other e small

        i : in_run other.run other.run.first ≡ true
        i = first_region other.run (old_packed.count u other e ∙ small_one s.region_size (size_of s c u) small)

        stays : lose_levels freed (w.client c).levels other.run.first ≡ Some home.0
        stays = still_level freed (w.client c).levels other.run.first home.0 home.1 (f other.run.first i)

        by_size : (b : Bool) → is_small s c t ≡ b → (v : ℕ) × (part.levels other.run.first ≡ Some v)
        by_size true p = (home.0, level_there (w.client c).levels freed (is_small s c t) spot (blocks_needed s c t) other.run.first (λ same. true≢false (sym (first_in other.run.first p same) ∙ (not_mine u other e f other.run.first i).0)) ∙ stays)
        by_size false p = (home.0, rw p stays)

    fresh_packed : Packed s c part.placed part.levels
    fresh_packed = record {
      level = λ k v e. elim (fresh_cases k v e) [ inl x ↦ λ large. omega (arith, x.2, small_blocks s.region_size (size_of s c t) large x.0) | inr x ↦ old_packed.level k v x.0 ];
      count = fresh_each (λ u z. z.run.count ≡ regions_needed s c u) needed (λ u z e _. old_packed.count u z e);
      inside = fresh_each (λ u z. LieIn s.region_size z (size_of s c u)) spot_inside (λ u z e _. old_packed.inside u z e);
      below = λ u z k v e. fresh_each (λ u z. (k v : ℕ) → in_run z.run k ≡ true → part.levels k ≡ Some v → (is_small s c u ≡ true) × (z.block + blocks_needed s c u ≤ v)) fresh_below kept_below u z e k v;
      home = fresh_each (λ u z. is_small s c u ≡ true → (v : ℕ) × (part.levels z.run.first ≡ Some v))
          (λ small. (0 + blocks_needed s c t, rw small (level_here (w.client c).levels freed spot (blocks_needed s c t) first refl)))
          kept_home;
      apart = λ u v k a b e f ne i j. apart k u a e v b f ne i j;
    }
      where
        Apart : ℕ → ℕ → Spot → ℕ → Spot → Type 0
        Apart k u a v b = (u ≡ v → ⊥) → in_run a.run k ≡ true → in_run b.run k ≡ true → (a.block + blocks_needed s c u ≤ b.block) ⊎ (b.block + blocks_needed s c v ≤ a.block)

        apart : (k u : ℕ) (a : Spot) → part.placed u ≡ Some a → (v : ℕ) (b : Spot) → part.placed v ≡ Some b → Apart k u a v b
        apart k = fresh_each (λ u a. (v : ℕ) (b : Spot) → part.placed v ≡ Some b → Apart k u a v b)
            (fresh_each (Apart k t spot) (λ ne. absurd (ne refl)) (λ v b f out ne i j. absurd (true≢false (sym i ∙ (not_mine v b f out k j).0))))
            (λ u a e gone. fresh_each (Apart k u a) (λ ne i j. absurd (true≢false (sym j ∙ (not_mine u a e gone k i).0))) (λ v b f out ne i j. old_packed.apart u v k a b e f ne i j))

    -- a texture none of whose regions is allocated or freed
    old_held : (d u : ℕ) (other : Spot) → (w.client d).placed u ≡ Some other → Held s w.heap w.memory d u other → ((k : ℕ) → in_run other.run k ≡ true → (in_run run k ≡ false) × (freed k ≡ false)) → Held s new memory d u other
    old_held d u other e old out = record {
      used = λ k i. used_still (in_run run k) (w.heap.used k) (freed k) (old.used k i) (out k i).1;
      image = keeps_regions s.region_size w.memory spot other bytes (bytes_of (texture_in (textures_of s d) u)) spot_inside ((tex.packed d).inside u other e) (λ k i. (out k i).0) old.image;
    }

    fresh_held : Held s new memory c t spot
    fresh_held = record { used = λ k i. rw i refl; image = uploaded_at w.memory (base_of s.region_size spot) bytes }

    old_marked : (k : ℕ) → (w.heap.used k ≡ true) × (w.heap.shared k ≡ true) → in_run run k ≡ false → freed k ≡ false → (new.used k ≡ true) × (new.shared k ≡ true)
    old_marked k old i f = (used_still (in_run run k) (w.heap.used k) (freed k) old.0 f, marked_still (is_small s c t && (k == first)) (w.heap.shared k) (in_run run k) (freed k) old.1 i f)

    fresh_marked : (k : ℕ) → is_small s c t ≡ true → k ≡ first → (new.used k ≡ true) × (new.shared k ≡ true)
    fresh_marked k small same = (rw (first_in k small same) refl, rw (small, yes) refl)
      where
        yes : (k == first) ≡ true
        yes = grind (arith, nat_tests)

    own_marks : MarkedBy new part
    own_marks k v live = by_level (fresh_cases k v live.0)
      where
        by_level : ((is_small s c t ≡ true) × (k ≡ first) × (v ≡ 0 + blocks_needed s c t)) ⊎ (((w.client c).levels k ≡ Some v) × (freed k ≡ false) × (is_small s c t ≡ true → k ≡ first → ⊥)) → (new.used k ≡ true) × (new.shared k ≡ true)
        by_level (inl x) = fresh_marked k x.0 x.1
        by_level (inr x) = old_marked k (tex.marks c k v (shared_live s w c tex acts k v x.0)) (not_level k v x.0 x.1) x.1

    their_marks : (d : ℕ) → MarkedBy new (w.client d)
    their_marks d k v live = let o = outside d k live.1 in old_marked k (tex.marks d k v (was_shared d k v live)) o.0 o.1

    -- a region of the client's is new, or it was its own
    own_region : (k : ℕ) → HasLive new part k → (in_run run k ≡ true) ⊎ HasLive w.heap (w.client c) k
    own_region k (inl x) = fresh_each (λ u z. in_run z.run k ≡ true → (in_run run k ≡ true) ⊎ HasLive w.heap (w.client c) k) (λ i. inl i) (λ u z e _ i. inr (inl (u, z, mine_live s w c tex acts u z e, i))) x.0 x.1 x.2.0 x.3
    own_region k (inr x) = elim (fresh_cases k x.0 x.1.0) [
      | inl y ↦ inl (first_in k y.0 y.1)
      | inr y ↦ inr (inr (x.0, shared_live s w c tex acts k x.0 y.0))
    ]

    -- a region of another's was its own, and isn't new
    their_region : (d k : ℕ) → HasLive new (w.client d) k → HasLive w.heap (w.client d) k × (in_run run k ≡ false)
    their_region d k (inl x) = (inl (x.0, x.1, was_live d x.0 x.1 x.2, x.3), (outside d k (x.2.1 k x.3)).0)
    their_region d k (inr x) = (inr (x.0, was_shared d k x.0 x.1), (outside d k x.1.1).0)

    against : (d k : ℕ) → HasLive new part k → HasLive new (w.client d) k → c ≡ d
    against d k mine theirs = by_region (own_region k mine) (their_region d k theirs)
      where
        by_region : (in_run run k ≡ true) ⊎ HasLive w.heap (w.client c) k → HasLive w.heap (w.client d) k × (in_run run k ≡ false) → c ≡ d
        by_region (inl inside) there = absurd (true≢false (sym inside ∙ there.1))
        by_region (inr old) there = tex.alone c d k old there.0

    part_at : (d : ℕ) → d ≡ c → put w.client c part d ≡ part
    part_at d same = rw same (put_here w.client c part)

    still_alone : (d e k : ℕ) → (d ≡ c) ⊎ (d ≡ c → ⊥) → (e ≡ c) ⊎ (e ≡ c → ⊥) → HasLive new (put w.client c part d) k → HasLive new (put w.client c part e) k → d ≡ e
    still_alone d e k (inl one) (inl two) a b = one ∙ sym two
    still_alone d e k (inl one) (inr two) a b = one ∙ against e k (subst (λ q. HasLive new q k) (part_at d one) a) (subst (λ q. HasLive new q k) (put_there w.client c part e two) b)
    still_alone d e k (inr one) (inl two) a b = sym (against d k (subst (λ q. HasLive new q k) (part_at e two) b) (subst (λ q. HasLive new q k) (put_there w.client c part d one) a)) ∙ sym two
    still_alone d e k (inr one) (inr two) a b = tex.alone d e k (their_region d k (subst (λ q. HasLive new q k) (put_there w.client c part d one) a)).0 (their_region e k (subst (λ q. HasLive new q k) (put_there w.client c part e two) b)).0

    pub placed_fresh : Textures s (world_with None s w c t first count)
    placed_fresh = record {
      ages = new_ages;
      locals = λ d. put_keeps (λ k q. q.local ≤ new.global) w.client c part d (omega arith) (omega (arith, tex.locals d, low));
      acting_local = λ d. put_cases (λ k q. is_acting q.phase ≡ true → q.local ≡ new.global) w.client c part d (λ h. refl) (λ ne h. absurd (ne (alone s w c d inv acts h)));
      light_local = λ d none. absurd (not_free s w c inv acts none);
      held = λ d. put_keeps (HeldBy s new memory) w.client c part d
          (λ u other live. fresh_each (Held s new memory c) fresh_held (λ v z e f. old_held c v z e (tex.held c v z (mine_live s w c tex acts v z e)) (not_mine v z e f)) u other live.0)
          (λ u other live. old_held d u other live.0 (tex.held d u other (was_live d u other live)) (λ k i. outside d k (live.1 k i)));
      marks = λ d. put_keeps (λ k q. MarkedBy new q) w.client c part d own_marks (their_marks d);
      packed = λ d. put_keeps (λ k q. Packed s k q.placed q.levels) w.client c part d fresh_packed (tex.packed d);
      alone = λ d e k a b. still_alone d e k (cases_eq d c) (cases_eq e c) a b;
    }

pub place : (s : Scene) (w : World) (c t first count : ℕ) → IsWellFormed s → Invariant s w → Textures s w → LegalEntry s w (Place c t first count) → Textures s (after_entry s w (Place c t first count))
place s w c t first count good inv tex legal = by_room (room_in s c (w.client c) t) refl legal.4
  where
    acts : is_acting (w.client c).phase ≡ true
    acts = rw legal.0.0 refl

    by_room : (o : Option Spot) → room_in s c (w.client c) t ≡ o → is_start_for o s.regions w.heap count first ≡ true → Textures s (world_with o s w c t first count)
    by_room None e start = placed_fresh s w c t first count good inv tex acts legal.3 start
    by_room (Some room) e start = placed_room s w c t first count good inv tex acts legal.3 room (room_is s c (w.client c) t room e)
