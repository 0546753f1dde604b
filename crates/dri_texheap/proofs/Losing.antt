-- Placed textures, and those that are lost.
use Rattle.std.proofs.Common.{◌≡◌, ◌<◌, ℕ, zero, suc, List, Bool, true, false, arith, refl, ap, length, get_or, replicate, Some, None}
use Rattle.std.specs.Prelude.{Option, IfSome, ◌==◌, nat_lt, if◌then◌else◌}
use Rattle.std.proofs.lemmas.Bool.Decides.{nat_tests}
use Rattle.std.proofs.lemmas.List.{get_or_default}
use Rattle.dri_model.specs.Heaps.{Spot, any_in, lose}
use Rattle.dri_texheap.specs.RegionStates.{IsInside}
use Rattle.dri_texheap.specs.Placements.{spot_at}

-- each texture that is placed stands so
abbrev pub Each : (Spot → Type 0) → (ℕ → Option Spot) → Type 0
Each P placed = (t : ℕ) → IfSome (placed t) P

nothing : (n k : ℕ) → get_or {A = Option Spot} (replicate n None) k None ≡ None
nothing zero k = refl
nothing (suc n) zero = refl
nothing (suc n) (suc k) = nothing n k

nones : (n k : ℕ) → get_or {A = Option ℕ} (replicate n None) k None ≡ None
nones zero k = refl
nones (suc n) zero = refl
nones (suc n) (suc k) = nones n k

-- levels of which each is none
pub none_shared : (n : ℕ) → ◌≡◌ {A = ℕ → Option ℕ} (λ k. get_or {A = Option ℕ} (replicate n None) k None) (λ k. None)
none_shared n = λ i k. nones n k i

-- the slots from place i on are as they were, so they lie inside
pub inside_at : (n : ℕ) (p : ℕ → Bool) (spots now : List (Option Spot)) (i : ℕ) (slot : Option Spot) → Each (λ spot. IsInside n spot.run) (spot_at spots) → ((k : ℕ) → get_or now k None ≡ (if nat_lt k i then lose p (get_or spots k None) else get_or spots k None)) → i < length now
    → IfSome (get_or now i slot) (λ spot. IsInside n spot.run)
inside_at n p spots now i slot h same l = rw (get_or_default now i slot None l, same i, not_less) (h (suc i))
  where
    not_less : nat_lt i i ≡ false
    not_less = grind (arith, nat_tests)

-- what holds of each placed texture stays so: where none is, where one more is placed, and where some are lost
module _ (P : Spot → Type 0) where
  pub each_none : (placed : ℕ → Option Spot) → placed ≡ (λ t. None) → Each P placed
  each_none placed e = λ t. rw (ap (λ f. f t) e) tt

  pub each_set : (placed new : ℕ → Option Spot) (t : ℕ) (spot : Spot) → Each P placed → P spot → new ≡ (λ u. if u == t then Some spot else placed u) → Each P new
  each_set placed new t spot h i e = λ u. rw (ap (λ f. f u) e) (by u (u == t))
    where
      by : (u : ℕ) (b : Bool) → IfSome (if b then Some spot else placed u) P
      by u true = i
      by u false = h u

  pub each_lost : (has : ℕ → Bool) (placed new : ℕ → Option Spot) → Each P placed → new ≡ (λ t. lose has (placed t)) → Each P new
  each_lost has placed new h e = λ t. rw (ap (λ f. f t) e) (by (placed t) (h t))
    where
      by : (o : Option Spot) → IfSome o P → IfSome (lose has o) P
      by None i = tt
      by (Some spot) i = either (any_in spot.run has)
        where
          either : (b : Bool) → IfSome (if b then None else Some spot) P
          either true = tt
          either false = i
