-- How a client's textures and shared regions lie in its own part, whatever others do.
use Rattle.std.proofs.Common.{◌≡◌, ◌<◌, ◌≤◌, ◌+◌, ◌/◌, ℕ, Bool, true, false, Option, Some, None, arith, refl, sym, ◌∙◌, inl, inr, subst}
use Rattle.std.specs.Prelude.{◌⊎◌, nat_lt, if◌then◌else◌}
use Rattle.std.proofs.lemmas.Bool.Decides.{nat_tests}
use Rattle.std.proofs.lemmas.Bool.{true≢false, cases_eq}
use Rattle.dri_base.specs.declared.scene.Scene.{Scene}
use Rattle.dri_base.specs.Scenes.{regions_needed}
use Rattle.dri_model.specs.Heaps as Heaps
use Rattle.dri_model.specs.Heaps.{Spot, any_in, base_of, in_run, lose}
use Rattle.dri_model.specs.Shares.{fits_above, levels_after, lose_levels, lowest_shared, spot_above}
use Rattle.dri_model.proofs.Counts.{none_from}
use Rattle.dri_model.proofs.Rooms.{below_has}
use Rattle.dri_core.specs.Privates.{Private, blocks_needed, is_small, placed_after, room_in, size_of}
use Rattle.dri_core.proofs.Sizes.{small_one}

-- the blocks of two textures are apart
abbrev pub SpotsApart : Scene → ℕ → ℕ → ℕ → Spot → Spot → Type 0
SpotsApart s c t u a b = (a.block + blocks_needed s c t ≤ b.block) ⊎ (b.block + blocks_needed s c u ≤ a.block)

pub record Packed (s : Scene) (c : ℕ) (placed : ℕ → Option Spot) (levels : ℕ → Option ℕ) : Type 0 where
  -- no level is above the region's blocks, where a region has some
  pub level : (k v : ℕ) → levels k ≡ Some v → 256 ≤ s.region_size → v ≤ s.region_size / 64
  -- a placed texture has its count of regions, and its bytes lie in them
  pub count : (t : ℕ) (spot : Spot) → placed t ≡ Some spot → spot.run.count ≡ regions_needed s c t
  pub inside : (t : ℕ) (spot : Spot) → placed t ≡ Some spot → (n : ℕ) → n < size_of s c t → in_run spot.run ((base_of s.region_size spot + n) / s.region_size) ≡ true
  -- in a shared region are small textures alone, below its level
  pub below : (t : ℕ) (spot : Spot) (k v : ℕ) → placed t ≡ Some spot → in_run spot.run k ≡ true → levels k ≡ Some v → (is_small s c t ≡ true) × (spot.block + blocks_needed s c t ≤ v)
  -- a small texture stands in a shared region
  pub home : (t : ℕ) (spot : Spot) → placed t ≡ Some spot → is_small s c t ≡ true → (v : ℕ) × (levels spot.run.first ≡ Some v)
  -- two textures in one region are apart
  pub apart : (t u k : ℕ) (a b : Spot) → placed t ≡ Some a → placed u ≡ Some b → (t ≡ u → ⊥) → in_run a.run k ≡ true → in_run b.run k ≡ true → SpotsApart s c t u a b

pub no_some : {A : Type 0} {o : Option A} {r : A} → o ≡ None → o ≡ Some r → ⊥
no_some a b = grind arith

pub some_spot : (a b : Spot) → Some a ≡ Some b → a ≡ b
some_spot a b e = cc

pub some_level : (a b : ℕ) → Some a ≡ Some b → a ≡ b
some_level a b e = cc

pub in_bounds : (r : Heaps.Run) (k : ℕ) → in_run r k ≡ true → (r.first ≤ k) × (k < r.first + r.count)
in_bounds r k e = grind (arith, nat_tests)

-- a run of one region
pub only_region : (r : Heaps.Run) (k : ℕ) → r.count ≡ 1 → in_run r k ≡ true → k ≡ r.first
only_region r k one i = let b = in_bounds r k i in omega (arith, b.0, b.1, one)

pub first_region : (r : Heaps.Run) → r.count ≡ 1 → in_run r r.first ≡ true
first_region r one = grind (arith, nat_tests)

-- what isn't lost is as it was, and none of its regions is lost
pub kept_one : (p : ℕ → Bool) (o : Option Spot) (r : Spot) → lose p o ≡ Some r → (o ≡ Some r) × ((k : ℕ) → in_run r.run k ≡ true → p k ≡ false)
kept_one p None r e = absurd (grind arith)
kept_one p (Some q) r e = by_any (any_in q.run p) refl
  where
    by_any : (b : Bool) → any_in q.run p ≡ b → (Some q ≡ Some r) × ((k : ℕ) → in_run r.run k ≡ true → p k ≡ false)
    by_any true a = absurd (grind arith)
    by_any false a = let same : Some q ≡ Some r = grind arith in
        (same, λ k i. let b = in_bounds q.run k (subst (λ z. in_run z.run k ≡ true) (sym (some_spot q r same)) i) in none_from p q.run.first q.run.count k a b.0 b.1)

pub kept_level : (has : ℕ → Bool) (levels : ℕ → Option ℕ) (k v : ℕ) → lose_levels has levels k ≡ Some v → (levels k ≡ Some v) × (has k ≡ false)
kept_level has levels k v e = by_test (has k) refl
  where
    by_test : (b : Bool) → has k ≡ b → (levels k ≡ Some v) × (has k ≡ false)
    by_test true h = absurd (no_some (refl) (rw h at e))
    by_test false h = (rw h at e, h)

pub still_level : (has : ℕ → Bool) (levels : ℕ → Option ℕ) (k v : ℕ) → levels k ≡ Some v → has k ≡ false → lose_levels has levels k ≡ Some v
still_level has levels k v e h = rw h e

pub packed_none : (s : Scene) (c : ℕ) → Packed s c (λ t. None) (λ k. None)
packed_none s c = record {
  level = λ k v e. absurd (no_some refl e);
  count = λ t spot e. absurd (no_some refl e);
  inside = λ t spot e. absurd (no_some refl e);
  below = λ t spot k v e. absurd (no_some refl e);
  home = λ t spot e. absurd (no_some refl e);
  apart = λ t u k a b e. absurd (no_some refl e);
}

-- textures and shared regions with lost regions go
pub packed_lose : (s : Scene) (c : ℕ) (placed : ℕ → Option Spot) (levels : ℕ → Option ℕ) (has : ℕ → Bool) → Packed s c placed levels → Packed s c (λ t. lose has (placed t)) (lose_levels has levels)
packed_lose s c placed levels has packed = record {
  level = λ k v e. packed.level k v (kept_level has levels k v e).0;
  count = λ t spot e. packed.count t spot (kept_one has (placed t) spot e).0;
  inside = λ t spot e. packed.inside t spot (kept_one has (placed t) spot e).0;
  below = λ t spot k v e i l. packed.below t spot k v (kept_one has (placed t) spot e).0 i (kept_level has levels k v l).0;
  home = λ t spot e small.
      let old = kept_one has (placed t) spot e in
      let home = packed.home t spot old.0 small in
      (home.0, still_level has levels spot.run.first home.0 home.1 (old.1 spot.run.first (first_region spot.run (packed.count t spot old.0 ∙ small_one s.region_size (size_of s c t) small))));
  apart = λ t u k a b e f. packed.apart t u k a b (kept_one has (placed t) a e).0 (kept_one has (placed u) b f).0;
}

-- a room stands in a shared region, above its level
pub record IsRoom (s : Scene) (c t : ℕ) (levels : ℕ → Option ℕ) (room : Spot) : Type 0 where
  pub small : is_small s c t ≡ true
  pub one : room.run.count ≡ 1
  pub level : levels room.run.first ≡ Some room.block
  pub fits : room.block + blocks_needed s c t ≤ s.region_size / 64

pub room_is : (s : Scene) (c : ℕ) (p : Private) (t : ℕ) (room : Spot) → room_in s c p t ≡ Some room → IsRoom s c t p.levels room
room_is s c p t room e = by_size (is_small s c t) refl
  where
    k : ℕ
    k = lowest_shared s.region_size p.levels (blocks_needed s c t)

    by_level : is_small s c t ≡ true → (o : Option ℕ) → p.levels k ≡ o → fits_above s.region_size (blocks_needed s c t) o ≡ true → spot_above k o ≡ Some room → IsRoom s c t p.levels room
    by_level small None l fits g = absurd (true≢false (sym fits))
    by_level small (Some v) l fits g = subst (IsRoom s c t p.levels) (some_spot _ room g) (record { small = small; one = refl; level = l; fits = grind (arith, nat_tests) })

    by_number : is_small s c t ≡ true → (b : Bool) → nat_lt k 64 ≡ b → (if b then spot_above k (p.levels k) else None) ≡ Some room → IsRoom s c t p.levels room
    by_number small true lt g = by_level small (p.levels k) refl (below_has (λ j. fits_above s.region_size (blocks_needed s c t) (p.levels j)) 64 (grind (arith, nat_tests))) g
    by_number small false lt g = absurd (no_some refl g)

    by_size : (b : Bool) → is_small s c t ≡ b → IsRoom s c t p.levels room
    by_size true small = by_number small (nat_lt k 64) refl (rw small at e)
    by_size false small = absurd (no_some refl (rw small at e))

-- how the levels are read after a texture is put in a spot
pub level_here : (levels : ℕ → Option ℕ) (freed : ℕ → Bool) (spot : Spot) (blocks k : ℕ) → k ≡ spot.run.first → levels_after levels freed true spot blocks k ≡ Some (spot.block + blocks)
level_here levels freed spot blocks k same = grind (arith, nat_tests)

pub level_there : (levels : ℕ → Option ℕ) (freed : ℕ → Bool) (small : Bool) (spot : Spot) (blocks k : ℕ) → (k ≡ spot.run.first → ⊥) → levels_after levels freed small spot blocks k ≡ lose_levels freed levels k
level_there levels freed small spot blocks k ne = grind (arith, nat_tests)

pub placed_here : (placed : ℕ → Option Spot) (freed : ℕ → Bool) (t : ℕ) (spot : Spot) (u : ℕ) (other : Spot) → u ≡ t → placed_after placed freed t spot u ≡ Some other → spot ≡ other
placed_here placed freed t spot u other same e = some_spot spot other (grind (arith, nat_tests))

pub placed_there : (placed : ℕ → Option Spot) (freed : ℕ → Bool) (t : ℕ) (spot : Spot) (u : ℕ) (other : Spot) → (u ≡ t → ⊥) → placed_after placed freed t spot u ≡ Some other →
    (placed u ≡ Some other) × ((k : ℕ) → in_run other.run k ≡ true → freed k ≡ false)
placed_there placed freed t spot u other ne e = kept_one freed (placed u) other (grind (arith, nat_tests))

-- a level after a texture is put in a spot is its own, or one that was
pub level_cases : (levels : ℕ → Option ℕ) (freed : ℕ → Bool) (small : Bool) (spot : Spot) (blocks k v : ℕ) → levels_after levels freed small spot blocks k ≡ Some v →
    ((small ≡ true) × (k ≡ spot.run.first) × (v ≡ spot.block + blocks)) ⊎ ((levels k ≡ Some v) × (freed k ≡ false) × (small ≡ true → k ≡ spot.run.first → ⊥))
level_cases levels freed small spot blocks k v e = by_tests small refl (cases_eq k spot.run.first)
  where
    by_tests : (b : Bool) → small ≡ b → (k ≡ spot.run.first) ⊎ (k ≡ spot.run.first → ⊥) → ((small ≡ true) × (k ≡ spot.run.first) × (v ≡ spot.block + blocks)) ⊎ ((levels k ≡ Some v) × (freed k ≡ false) × (small ≡ true → k ≡ spot.run.first → ⊥))
    by_tests true p (inl same) = inl (p, same, some_level v (spot.block + blocks) (sym (rw p at e) ∙ level_here levels freed spot blocks k same))
    by_tests true p (inr ne) = let old = kept_level freed levels k v (sym (level_there levels freed small spot blocks k ne) ∙ e) in inr (old.0, old.1, λ _. ne)
    by_tests false p same = let old = kept_level freed levels k v (rw p at e) in inr (old.0, old.1, λ q. absurd (true≢false (sym q ∙ p)))

-- what holds of the new texture and of those that stay holds of each
pub each_placed : (P : ℕ → Spot → Type 0) (placed : ℕ → Option Spot) (freed : ℕ → Bool) (t : ℕ) (spot : Spot) → P t spot →
    ((u : ℕ) (other : Spot) → placed u ≡ Some other → ((k : ℕ) → in_run other.run k ≡ true → freed k ≡ false) → P u other) →
    (u : ℕ) (other : Spot) → placed_after placed freed t spot u ≡ Some other → P u other
each_placed P placed freed t spot here there u other e = by_number (cases_eq u t)
  where
    by_number : (u ≡ t) ⊎ (u ≡ t → ⊥) → P u other
    by_number (inl same) = subst (λ n. P n other) (sym same) (subst (P t) (placed_here placed freed t spot u other same e) here)
    by_number (inr ne) = let old = placed_there placed freed t spot u other ne e in there u other old.0 old.1
