-- The step of a texture that was placed.
use Rattle.std.proofs.Common.{◌≡◌, ◌<◌, ◌+◌, ℕ, zero, suc, Bool, true, false, Option, Some, None, arith, ap, refl, ◌∙◌, sym, subst}
use Rattle.std.specs.Prelude.{◌==◌, ◌&&◌, if◌then◌else◌, nat_lt}
use Rattle.std.proofs.lemmas.Bool.Decides.{nat_tests}
use Rattle.std.proofs.Math.Nat.{le-div_iff_mul-le}
use Rattle.dri_base.specs.Scenes.{script_of}
use Rattle.dri_base.specs.declared.journal.Entry.TheVariants.{Place}
use Rattle.dri_base.specs.declared.scene.ClientScript.{ClientScript}
use Rattle.dri_base.specs.declared.scene.Scene.{Scene}
use Rattle.dri_core.specs.Effects.{heap_placed, placed_by, placed_with, spot_for}
use Rattle.dri_core.specs.EntryTable.{LegalEntry, after_entry, is_start_for}
use Rattle.dri_core.specs.Privates.{Private, blocks_needed, is_small, placed_after, room_by, room_in, size_of}
use Rattle.dri_core.specs.Runs.{Intact, IsCurrent}
use Rattle.dri_core.specs.Worlds.{World}
use Rattle.dri_model.specs.Counting.{any_from}
use Rattle.dri_model.specs.Groups.{with_bound}
use Rattle.dri_model.specs.Heaps.{Heap, Run, Spot, allocated, freed_for, in_run, is_newer, is_place_for, lose, marked, use_of}
use Rattle.dri_model.specs.Shares.{blocks_for, is_small_for, levels_after, lose_levels, room_for}
use Rattle.dri_texheap.specs.Placements.{levels_of, placed_of}
use Rattle.dri_texheap.specs.RegionStates.{AreRegionsOf, RegionState, heap_of}
use Rattle.dri_client.specs.Parts.{Agrees, PartState, part_after, private_of}
use Rattle.dri_client.specs.Placings.{IsPlaced, IsPut, IsTaken}
use Rattle.dri_client.specs.Textures.{blocks_of, bytes_in, room_of}
use Rattle.dri_client.proofs.Agreeing.{agrees_put}
use Rattle.dri_client.proofs.Losses.{levels_same, placed_same}

any_none : (first count : ℕ) → any_from (λ k. false) first count ≡ false
any_none first zero = refl
any_none first (suc count) = any_none first count

-- where a run begins
abbrev at_start : Run → Spot
at_start run = record { run = run; block = 0 }

-- where no region goes, no texture is lost
lose_none : (o : Option Spot) → lose (λ k. false) o ≡ o
lose_none None = refl
lose_none (Some spot) = rw (any_none spot.run.first spot.run.count) refl

-- some bytes take a block
some_blocks : (bytes : ℕ) → 0 < bytes → 0 < blocks_for bytes
some_blocks bytes some = (le-div_iff_mul-le {k = 64} {x = 1} {y = bytes + 63} (omega arith)).1 (omega (arith, some))

small_some : (size bytes : ℕ) → is_small_for size bytes ≡ true → 0 < bytes
small_some size bytes small = grind (arith, nat_tests)

-- a texture takes blocks exactly where it is small, and only then has its region a level
after_blocks : (levels : ℕ → Option ℕ) (small : Bool) (needed : ℕ) (spot : Spot) → (small ≡ true → 0 < needed)
    → levels_after levels (λ k. false) (nat_lt 0 (if small then needed else 0)) spot (if small then needed else 0) ≡ levels_after levels (λ k. false) small spot needed
after_blocks levels true needed spot some = (λ i k. if some_is i && (k == spot.run.first) then Some (spot.block + needed) else levels k)
  where
    some_is : nat_lt 0 needed ≡ true
    some_is = let l : 0 < needed = some refl in grind (arith, nat_tests)
after_blocks levels false needed spot some = refl

-- a region that is used by 2 is in use
in_use : (h : Heap) (k : ℕ) → use_of h k ≡ 2 → h.used k ≡ true
in_use h k two = by (h.used k) refl two
  where
    by : (b : Bool) → h.used k ≡ b → ◌≡◌ {A = ℕ} (if b then (if h.shared k then 2 else 1) else 0) 2 → h.used k ≡ true
    by true e two = e
    by false e two = absurd (omega (arith, two))

-- the room for a small texture alone, or none
pub room_parts : (small : Bool) (o : Option Spot) (spot : Spot) → (if small then o else None) ≡ Some spot → (small ≡ true) × (o ≡ Some spot)
room_parts true o spot e = (refl, e)
room_parts false o spot e = absurd (no_spot e)
  where
    no_spot : None ≡ Some spot → ⊥
    no_spot e = grind arith

-- no room where it takes no block, and else the room for its blocks
pub no_room_of : (size : ℕ) (script : ClientScript) (p : PartState) (t : ℕ) → blocks_of size script t ≡ 0 → room_of size script p t ≡ None
no_room_of size script p t none = by (is_small_for size (bytes_in script t)) refl none
  where
    by : (b : Bool) → is_small_for size (bytes_in script t) ≡ b → ◌≡◌ {A = ℕ} (if b then blocks_for (bytes_in script t) else 0) 0 → (if b then room_for size (levels_of p.placed) (blocks_for (bytes_in script t)) else None) ≡ None
    by true e none = absurd (let some = some_blocks (bytes_in script t) (small_some size (bytes_in script t) e) in omega (arith, some, none))
    by false e none = refl

pub room_of_blocks : (size : ℕ) (script : ClientScript) (p : PartState) (t : ℕ) → 0 < blocks_of size script t → room_of size script p t ≡ room_for size (levels_of p.placed) (blocks_of size script t)
room_of_blocks size script p t some = by (is_small_for size (bytes_in script t)) some
  where
    by : (b : Bool) → 0 < (if b then blocks_for (bytes_in script t) else 0) → (if b then room_for size (levels_of p.placed) (blocks_for (bytes_in script t)) else None) ≡ room_for size (levels_of p.placed) (if b then blocks_for (bytes_in script t) else 0)
    by true some = refl
    by false some = absurd (omega (arith, some))

-- where there is room, it is the room for its blocks
pub room_is_for : (size : ℕ) (script : ClientScript) (p : PartState) (t : ℕ) (spot : Spot) → room_of size script p t ≡ Some spot → room_for size (levels_of p.placed) (blocks_of size script t) ≡ Some spot
room_is_for size script p t spot e = by (is_small_for size (bytes_in script t)) e
  where
    by : (b : Bool) → (if b then room_for size (levels_of p.placed) (blocks_for (bytes_in script t)) else None) ≡ Some spot → room_for size (levels_of p.placed) (if b then blocks_for (bytes_in script t) else 0) ≡ Some spot
    by true e = e
    by false e = absurd (no_spot e)
      where
        no_spot : None ≡ Some spot → ⊥
        no_spot e = grind arith

-- the room of a part is the one that the world has for it
pub room_is_same : (s : Scene) (w : World) (c : ℕ) (p : PartState) (script : ClientScript) (t : ℕ) → script ≡ script_of s c → s.region_size ≡ p.placed.region_size → Agrees p (w.client c) → room_of p.placed.region_size script p t ≡ room_in s c (w.client c) t
room_is_same s w c p script t own sized agrees = λ i. room_by (sym sized i) (ap (λ (x : Private). x.levels) agrees i) (bytes_in (own i) t)

module _ (s : Scene) (w : World) (c : ℕ) (p l n : PartState) (script : ClientScript) (regions : RegionState) (t : ℕ) (run : Run) (blocks : ℕ)
    (own : script ≡ script_of s c) (sized : s.region_size ≡ p.placed.region_size) (agrees : Agrees p (w.client c)) (last : n ≡ record l { dirty = with_bound true l.dirty }) (takes : blocks ≡ blocks_of p.placed.region_size script t)
    (whole : Intact s w) (current : IsCurrent s w c) (legal : LegalEntry s w (Place c t run.first run.count)) where
  room_same : room_of p.placed.region_size script p t ≡ room_in s c (w.client c) t
  room_same = room_is_same s w c p script t own sized agrees

  blocks_are : blocks ≡ (if is_small s c t then blocks_needed s c t else 0)
  blocks_are = takes ∙ (λ i. blocks_of (sym sized i) (own i) t)

  some_needed : is_small s c t ≡ true → 0 < blocks_needed s c t
  some_needed e = some_blocks (size_of s c t) (small_some s.region_size (size_of s c t) e)

  known : p.local ≡ w.heap.global
  known = ap (λ (x : Private). x.local) agrees ∙ current.local

  -- it stands in a room
  put_agrees : (spot : Spot) → IsPut p l t spot blocks → room_in s c (w.client c) t ≡ Some spot → Agrees n (part_after s w (Place c t run.first run.count) c)
  put_agrees spot is room = agrees_put n w.client c (placed_by s w c t run.first run.count) (subst (λ (m : PartState). private_of m (w.client c).copy (w.client c).origin ≡ placed_by s w c t run.first run.count) (sym last) (steps ∙ (ap put_as agrees ∙ ap (λ o. placed_with o s w c t run) (sym room))))
    where
      put_as : Private → Private
      put_as r = record r {
        placed = placed_after r.placed (λ k. false) t spot;
        levels = levels_after r.levels (λ k. false) (is_small s c t) spot (blocks_needed s c t);
        local = r.local;
        dirty = with_bound true r.dirty;
      }

      put_levels : levels_of l.placed ≡ levels_after (levels_of p.placed) (λ k. false) (is_small s c t) spot (blocks_needed s c t)
      put_levels = is.levels ∙ (ap (λ b. levels_after (levels_of p.placed) (λ k. false) (nat_lt 0 b) spot b) blocks_are ∙ after_blocks (levels_of p.placed) (is_small s c t) (blocks_needed s c t) spot some_needed)

      put_placed : placed_of l.placed ≡ placed_after (placed_of p.placed) (λ k. false) t spot
      put_placed = is.placed ∙ (λ i u. if u == t then Some spot else sym (lose_none (placed_of p.placed u)) i)

      steps : private_of (record l { dirty = with_bound true l.dirty }) (w.client c).copy (w.client c).origin ≡ put_as (private_of p (w.client c).copy (w.client c).origin)
      steps = λ i. record {
        place = is.before.place i;
        phase = is.before.phase i;
        stamp = is.before.stamp i;
        copy = (w.client c).copy;
        origin = (w.client c).origin;
        state = is.before.state i;
        dirty = with_bound true (is.before.dirty i);
        placed = put_placed i;
        levels = put_levels i;
        local = is.local i;
      }

  -- it stands in a run that was allocated for it
  taken_agrees : IsTaken p l (heap_of regions) t (at_start run) blocks → room_in s c (w.client c) t ≡ None → AreRegionsOf s (after_entry s w (Place c t run.first run.count)).heap regions → Agrees n (part_after s w (Place c t run.first run.count) c)
  taken_agrees is room left = agrees_put n w.client c (placed_by s w c t run.first run.count) (subst (λ (m : PartState). private_of m (w.client c).copy (w.client c).origin ≡ placed_by s w c t run.first run.count) (sym last) (steps ∙ (ap taken_as agrees ∙ ap (λ o. placed_with o s w c t run) (sym room))))
    where
      taken_as : Private → Private
      taken_as r = record r {
        placed = placed_after r.placed (freed_for s.regions w.heap run.count) t (at_start run);
        levels = levels_after r.levels (freed_for s.regions w.heap run.count) (is_small s c t) (at_start run) (blocks_needed s c t);
        local = (allocated s.regions w.heap run).global;
        dirty = with_bound true r.dirty;
      }

      heap : heap_of regions ≡ marked (is_small s c t) run.first (allocated s.regions w.heap run)
      heap = left.ages ∙ ap (λ o. heap_placed o (is_small s c t) s.regions w.heap run) room

      start : is_place_for s.regions w.heap run.count run.first ≡ true
      start = subst (λ o. is_start_for o s.regions w.heap run.count run.first ≡ true) room legal.4

      used : (u : ℕ) (r : Spot) → placed_of p.placed u ≡ Some r → (j : ℕ) → in_run r.run j ≡ true → w.heap.used j ≡ true
      used u r there j inside = whole.used c u r (ap (λ (x : Private). x.placed u) (sym agrees) ∙ there, λ m _. omega (arith, whole.ages m, current.local)) j inside

      used_level : (k v : ℕ) → levels_of p.placed k ≡ Some v → w.heap.used k ≡ true
      used_level k v there = in_use w.heap k (whole.shared c k v (ap (λ (x : Private). x.levels k) (sym agrees) ∙ there, omega (arith, whole.ages k, current.local))).0

      lost : placed_of l.placed ≡ placed_after (placed_of p.placed) (freed_for s.regions w.heap run.count) t (at_start run)
      lost = is.placed ∙ ((λ i u. if u == t then Some (at_start run) else lose (is_newer (heap i) p.local) (placed_of p.placed u))
          ∙ placed_same s.regions w.heap p.local run whole.ages known start (placed_of p.placed) t (at_start run) used)

      gone : levels_of l.placed ≡ levels_after (levels_of p.placed) (freed_for s.regions w.heap run.count) (is_small s c t) (at_start run) (blocks_needed s c t)
      gone = is.levels ∙ (ap (λ b. levels_after (lose_levels (is_newer (heap_of regions) p.local) (levels_of p.placed)) (λ k. false) (nat_lt 0 b) (at_start run) b) blocks_are
          ∙ (after_blocks (lose_levels (is_newer (heap_of regions) p.local) (levels_of p.placed)) (is_small s c t) (blocks_needed s c t) (at_start run) some_needed
          ∙ ((λ i k. if is_small s c t && (k == run.first) then Some (0 + blocks_needed s c t) else lose_levels (is_newer (heap i) p.local) (levels_of p.placed) k)
          ∙ (λ i k. if is_small s c t && (k == run.first) then Some (0 + blocks_needed s c t) else levels_same s.regions w.heap p.local run whole.ages known start (levels_of p.placed) used_level k i))))

      steps : private_of (record l { dirty = with_bound true l.dirty }) (w.client c).copy (w.client c).origin ≡ taken_as (private_of p (w.client c).copy (w.client c).origin)
      steps = λ i. record {
        place = is.before.place i;
        phase = is.before.phase i;
        stamp = is.before.stamp i;
        copy = (w.client c).copy;
        origin = (w.client c).origin;
        state = is.before.state i;
        dirty = with_bound true (is.before.dirty i);
        placed = lost i;
        levels = gone i;
        local = (is.local ∙ ap (λ (x : Heap). x.global) heap) i;
      }

  -- a texture that it needs was placed
  pub place_agrees : (room : Option Spot) (spot : Spot) → spot ≡ spot_for room run → IsPlaced p l (heap_of regions) t room spot blocks → room ≡ room_of p.placed.region_size script p t → AreRegionsOf s (after_entry s w (Place c t run.first run.count)).heap regions → Agrees n (part_after s w (Place c t run.first run.count) c)
  place_agrees (Some r) spot same is room left = put_agrees r is (sym (room ∙ room_same))
  place_agrees None spot same is room left = taken_agrees (subst (λ z. IsTaken p l (heap_of regions) t z blocks) same is) (sym (room ∙ room_same)) left
