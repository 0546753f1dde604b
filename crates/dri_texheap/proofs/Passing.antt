-- One pass over the regions for the lowest place.
use Rattle.std.proofs.Common.{◌≡◌, ◌<◌, ◌≤◌, ◌+◌, ◌-◌, ℕ, Bool, true, false, not, arith, refl, inl, inr}
use Rattle.std.specs.Prelude.{◌⊎◌, nat_lt}
use Rattle.std.proofs.lemmas.Bool.{cases_eq}
use Rattle.std.proofs.lemmas.Bool.Decides.{nat_tests}
use Rattle.dri_model.specs.Heaps.{Heap}
use Rattle.dri_texheap.specs.Search.{is_available, are_available, NowhereBefore}
use Rattle.dri_texheap.proofs.Counted.{any_none}
use Rattle.dri_texheap.proofs.Choosing.{spoilt}

-- what holds when the regions below i are passed: at most k are available from first on, and no place before it serves
pub record IsPassed (h : Heap) (bound k i first : ℕ) : Type 0 where
  pub within : first ≤ i
  pub most : i ≤ first + k
  pub available : (j : ℕ) → first ≤ j → j < i → is_available h bound j ≡ true
  pub nowhere : NowhereBefore h bound k first

-- an available region more
pub passed_more : (h : Heap) (bound k i first : ℕ) → IsPassed h bound k i first → (i - first ≡ k → ⊥) → is_available h bound i ≡ true → IsPassed h bound k (i + 1) first
passed_more h bound k i first r short e = record {
  within = omega (arith, r.within);
  most = omega (arith, r.within, r.most, short);
  available = λ j l m. by j l m (cases_eq j i);
  nowhere = r.nowhere;
}
  where
    by : (j : ℕ) → first ≤ j → j < i + 1 → (j ≡ i) ⊎ (j ≡ i → ⊥) → is_available h bound j ≡ true
    by j l m (inl same) = rw same e
    by j l m (inr other) = r.available j l (omega (arith, other))

-- a region that isn't available spoils each place from first to itself
pub passed_over : (h : Heap) (bound k i first : ℕ) → IsPassed h bound k i first → (i - first ≡ k → ⊥) → is_available h bound i ≡ false → IsPassed h bound k (i + 1) (i + 1)
passed_over h bound k i first r short e = record {
  within = omega arith;
  most = omega arith;
  available = λ j l m. absurd (omega arith);
  nowhere = λ p l. by p l (nat_lt p first) refl;
}
  where
    by : (p : ℕ) → p < i + 1 → (b : Bool) → nat_lt p first ≡ b → are_available h bound p k ≡ false
    by p l true f = r.nowhere p (less f)
      where
        less : nat_lt p first ≡ true → p < first
        less f = grind (arith, nat_tests)
    by p l false f = spoilt h bound p (i - p) k (omega (arith, r.within, r.most, short, more f)) (rw (place (omega arith)) e)
      where
        more : nat_lt p first ≡ false → first ≤ p
        more f = grind (arith, nat_tests)

        place : p ≤ i → p + (i - p) ≡ i
        place m = omega arith

-- k available regions are a place
pub passed_place : (h : Heap) (bound k i first : ℕ) → IsPassed h bound k i first → i - first ≡ k → are_available h bound first k ≡ true
passed_place h bound k i first r e = rw (any_none (λ j. not (is_available h bound j)) first k (λ j l m. rw (r.available j l (omega (arith, r.within, m, e))) refl)) refl
