use Rattle.std.proofs.Common.{◌≡◌, ◌≤◌, ◌<◌, ◌∙◌, ℕ, Bool, true, false, None, Some, arith, rules, refl, ap, sym}
use Rattle.std.specs.Prelude.{Option, if◌then◌else◌}
use Rattle.dri_model.specs.Heaps.{Spot, is_newer}
use Rattle.dri_model.specs.Shares.{lose_levels}
use Rattle.dri_texheap.specs.RegionStates.{heap_of, IsInside}
use Rattle.dri_texheap.specs.Placements.{Placements, AreInside, placed_of, levels_of}
use Rattle.dri_texheap.proofs.Losing.{Each, each_none, each_set, each_lost}
use Rattle.dri_leaf_tests.proofs.texheap.losses.Goals as goal

none_level : (k level : ℕ) → None ≡ Some level → ⊥
none_level k level e = grind arith

-- what is placed lies inside, where nothing is shared
inside : (n : ℕ) (p : Placements) → Each (λ spot. IsInside n spot.run) (placed_of p) → levels_of p ≡ (λ k. None) → AreInside n p
inside n p each levels = record {
  placed = each;
  shared = λ k level e. absurd (none_level k level (sym (ap (λ f. f k) levels) ∙ e));
}

-- nothing shared stays so where regions are lost
lost_none : (p : Placements) (has : ℕ → Bool) → levels_of p ≡ (λ k. None) → lose_levels has (levels_of p) ≡ (λ k. None)
lost_none p has levels = ap (lose_levels has) levels ∙ (λ i k. none_either (has k) i)
  where
    none_either : (b : Bool) → ◌≡◌ {A = Option ℕ} (if b then None else None) None
    none_either true = refl
    none_either false = refl

-- the spots in region 0 and in the two behind it
abbrev one : Spot
one = record { run = record { first = 0; count = 1 }; block = 0 }

abbrev two : Spot
two = record { run = record { first = 1; count = 2 }; block = 0 }

pub lose-requires : goal.lose-requires
lose-requires g c =
    let e : placed_of c.expect-placed.result ≡ (λ t. None) = search rules in
    let l : levels_of c.expect-placed.result ≡ (λ k. None) = search rules in
    let n = c.allocate-2.new.self.count in
    inside n c.set-2.new.self
    (each_set (λ spot. IsInside n spot.run) (placed_of c.set.new.self) (placed_of c.set-2.new.self) 2 two
    (each_set (λ spot. IsInside n spot.run) (placed_of c.expect-placed.result) (placed_of c.set.new.self) 1 one (each_none (λ spot. IsInside n spot.run) (placed_of c.expect-placed.result) e) (omega (arith, c.allocate-2.ensures.count, c.allocate.ensures.count, c.new-regions.ensures.count)) c.set.ensures.placed)
    (omega (arith, c.allocate-2.ensures.count, c.allocate.ensures.count, c.new-regions.ensures.count)) c.set-2.ensures.placed)
    (c.set-2.ensures.levels ∙ c.set.ensures.levels ∙ l)

pub lose-requires-2 : goal.lose-requires-2
lose-requires-2 g c =
    let e : placed_of c.expect-placed.result ≡ (λ t. None) = search rules in
    let l : levels_of c.expect-placed.result ≡ (λ k. None) = search rules in
    let n = c.allocate-2.new.self.count in
    inside n c.lose.new.self
    (each_lost (λ spot. IsInside n spot.run) (is_newer (heap_of c.allocate-2.new.self) 1) (placed_of c.set-2.new.self) (placed_of c.lose.new.self)
    (each_set (λ spot. IsInside n spot.run) (placed_of c.set.new.self) (placed_of c.set-2.new.self) 2 two
    (each_set (λ spot. IsInside n spot.run) (placed_of c.expect-placed.result) (placed_of c.set.new.self) 1 one (each_none (λ spot. IsInside n spot.run) (placed_of c.expect-placed.result) e) (omega (arith, c.allocate-2.ensures.count, c.allocate.ensures.count, c.new-regions.ensures.count)) c.set.ensures.placed)
    (omega (arith, c.allocate-2.ensures.count, c.allocate.ensures.count, c.new-regions.ensures.count)) c.set-2.ensures.placed)
    c.lose.ensures.placed)
    (c.lose.ensures.levels ∙ lost_none c.set-2.new.self (is_newer (heap_of c.allocate-2.new.self) 1) (c.set-2.ensures.levels ∙ c.set.ensures.levels ∙ l))
