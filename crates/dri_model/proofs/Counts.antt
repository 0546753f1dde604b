-- Counting.
use Rattle.std.proofs.Common.{◌≡◌, ◌<◌, ◌≤◌, ◌+◌, ℕ, zero, suc, Bool, true, false, arith, refl, sym, inl, inr}
use Rattle.std.specs.Prelude.{◌⊎◌}
use Rattle.std.proofs.lemmas.Bool.{true≢false, cases_eq, or_parts}
use Rattle.dri_model.specs.Counting.{any_from, how_many}

-- where none of the numbers has the property, each one lacks it
pub none_from : (p : ℕ → Bool) (first n k : ℕ) → any_from p first n ≡ false → first ≤ k → k < first + n → p k ≡ false
none_from p first zero k e le lt = absurd (omega arith)
none_from p first (suc n) k e le lt = by_place (cases_eq k (first + n)) (none_from p first n k)
  where
    parts : (p (first + n) ≡ false) × (any_from p first n ≡ false)
    parts = or_parts (p (first + n)) (any_from p first n) e

    by_place : (k ≡ first + n) ⊎ (k ≡ first + n → ⊥) → (any_from p first n ≡ false → first ≤ k → k < first + n → p k ≡ false) → p k ≡ false
    by_place (inl same) below = rw same parts.0
    by_place (inr ne) below = below parts.1 le (omega arith)

-- where some number has the property, one is there
pub some_from : (p : ℕ → Bool) (first n : ℕ) → any_from p first n ≡ true → (k : ℕ) × (first ≤ k) × (k < first + n) × (p k ≡ true)
some_from p first zero e = absurd (true≢false (sym e))
some_from p first (suc n) e = by_last (p (first + n)) refl (some_from p first n)
  where
    by_last : (b : Bool) → p (first + n) ≡ b → (any_from p first n ≡ true → (k : ℕ) × (first ≤ k) × (k < first + n) × (p k ≡ true)) → (k : ℕ) × (first ≤ k) × (k < first + suc n) × (p k ≡ true)
    by_last true h below = (first + n, omega arith, omega arith, h)
    by_last false h below = let r = below (rw h at e) in (r.0, r.1, omega (arith, r.2), r.3)

-- the property holds of some of these numbers exactly where the other does
pub any_same : (p q : ℕ → Bool) (first n : ℕ) → ((k : ℕ) → first ≤ k → k < first + n → p k ≡ q k) → any_from p first n ≡ any_from q first n
any_same p q first zero h = refl
any_same p q first (suc n) h = rw (h (first + n) (omega arith) (omega arith), any_same p q first n (λ k l m. h k l (omega arith))) refl

-- at most all numbers below n have a property
pub how_many_all : (p : ℕ → Bool) (n : ℕ) → how_many p n ≤ n
how_many_all p zero = omega arith
how_many_all p (suc n) = grind (arith, how_many_all p n)
