-- Textures that are lost.
use Rattle.std.proofs.Common.{◌≡◌, ◌<◌, ◌≤◌, ◌+◌, ℕ, suc, Bool, true, false, Option, Some, None, arith, refl, sym, ap, ◌∙◌}
use Rattle.std.specs.Prelude.{◌==◌, ◌||◌, if◌then◌else◌, nat_lt, not}
use Rattle.std.proofs.lemmas.Bool.{and_parts, true≢false}
use Rattle.std.proofs.lemmas.Bool.Decides.{nat_tests}
use Rattle.dri_core.specs.Privates.{loses, placed_after, spot_of}
use Rattle.dri_core.proofs.Packing.{in_bounds}
use Rattle.dri_core.proofs.TextureUses.{freed_age, freed_low, room_at}
use Rattle.dri_model.specs.Heaps.{Heap, Run, Spot, age_freed, allocated, classes_for, fits, freed_for, in_run, is_newer, is_place_for, is_room, lose, lowest_place}
use Rattle.dri_model.proofs.Counts.{any_same}
use Rattle.dri_model.specs.Shares.{lose_levels}
use Rattle.dri_texheap.specs.Placements.{Placements, is_bound_lost, is_lost, placed_of}

lost_same : (f : ℕ → Bool) (o : Option Spot) → is_lost f o ≡ loses f o
lost_same f None = refl
lost_same f (Some spot) = refl

-- the two ways to say that the bound texture is lost
pub bound_lost_same : (f : ℕ → Bool) (p : Placements) (bound : Option ℕ) → is_bound_lost f p bound ≡ loses f (spot_of (placed_of p) bound)
bound_lost_same f p None = refl
bound_lost_same f p (Some t) = lost_same f (placed_of p t)

within_run : (r : Run) (k : ℕ) → r.first ≤ k → k < r.first + r.count → in_run r k ≡ true
within_run r k low high = grind (arith, nat_tests)

-- an allocation, seen by a client that knows all ages before
module _ (n : ℕ) (h : Heap) (local : ℕ) (run : Run) (ages : (k : ℕ) → h.age k ≤ h.global) (known : local ≡ h.global) (place : is_place_for n h run.count run.first ≡ true) where
  abbrev freed : ℕ → Bool
  freed = freed_for n h run.count

  -- a region of the run was free, or is freed
  roomy : (k : ℕ) → in_run run k ≡ true → is_room n h (classes_for n h run.count) k ≡ true
  roomy k inside = let b = in_bounds run k inside in
      room_at n h (classes_for n h run.count) run.count run.first k (and_parts (run.first == lowest_place n h run.count (classes_for n h run.count)) (fits n h (classes_for n h run.count) run.count run.first) place).1 b.0 b.1

  -- a region that was in use is newer than the client knows exactly where it was freed
  newer_used : (k : ℕ) → h.used k ≡ true → is_newer (allocated n h run) local k ≡ freed k
  newer_used k used = by_tests (in_run run k) (freed k) refl refl
    where
      newer : (x y : ℕ) → x < y → nat_lt x y ≡ true
      newer x y l = grind (arith, nat_tests)

      older : (x y : ℕ) → y ≤ x → nat_lt x y ≡ false
      older x y l = grind (arith, nat_tests)

      no_room : (u f : Bool) → u ≡ true → f ≡ false → (not u || f) ≡ false
      no_room u f used is = rw (used, is) refl

      by_tests : (a b : Bool) → in_run run k ≡ a → freed k ≡ b → nat_lt local (if a then suc (age_freed n h run.count) else (if b then age_freed n h run.count else h.age k)) ≡ b
      by_tests true true inside is = newer local (suc (age_freed n h run.count)) (omega (arith, known, freed_low h.global (classes_for n h run.count)))
      by_tests true false inside is = absurd (true≢false (sym (roomy k inside) ∙ no_room (h.used k) (freed k) used is))
      by_tests false true inside is = newer local (age_freed n h run.count) (omega (arith, known, freed_age n h (classes_for n h run.count) k is))
      by_tests false false inside is = older local (h.age k) (omega (arith, known, ages k))

  -- a placed texture in regions in use is lost by age exactly where it is lost by what was freed
  lose_used : (o : Option Spot) → ((spot : Spot) → o ≡ Some spot → (k : ℕ) → in_run spot.run k ≡ true → h.used k ≡ true) → lose (is_newer (allocated n h run) local) o ≡ lose freed o
  lose_used None used = refl
  lose_used (Some spot) used = ap (λ b. if b then None else Some spot) (any_same (is_newer (allocated n h run) local) freed spot.run.first spot.run.count (λ k low high. newer_used k (used spot refl k (within_run spot.run k low high))))

  -- the placed textures after the allocation
  pub placed_same : (placed : ℕ → Option Spot) (t : ℕ) (at : Spot) → ((u : ℕ) (spot : Spot) → placed u ≡ Some spot → (k : ℕ) → in_run spot.run k ≡ true → h.used k ≡ true)
      → (λ u. if u == t then Some at else lose (is_newer (allocated n h run) local) (placed u)) ≡ placed_after placed (freed_for n h run.count) t at
  placed_same placed t at used = λ i u. if u == t then Some at else lose_used (placed u) (used u) i

  -- and the levels
  pub levels_same : (levels : ℕ → Option ℕ) → ((k level : ℕ) → levels k ≡ Some level → h.used k ≡ true) → (k : ℕ) → lose_levels (is_newer (allocated n h run) local) levels k ≡ lose_levels (freed_for n h run.count) levels k
  levels_same levels used k = by_level (levels k) refl
    where
      by_level : (o : Option ℕ) → levels k ≡ o → (if is_newer (allocated n h run) local k then None else levels k) ≡ (if freed k then None else levels k)
      by_level None e = rw e (both (is_newer (allocated n h run) local k) (freed k))
        where
          both : (a b : Bool) → ◌≡◌ {A = Option ℕ} (if a then None else None) (if b then None else None)
          both true true = refl
          both true false = refl
          both false true = refl
          both false false = refl
      by_level (Some level) e = ap (λ b. if b then None else levels k) (newer_used k (used k level e))
