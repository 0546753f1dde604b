-- Counting the numbers below n, and the least of them.
use Rattle.std.proofs.Common.{◌≡◌, ◌<◌, ◌≤◌, ◌+◌, ℕ, zero, suc, Bool, true, false, arith, refl, sym, ◌∙◌, inl, inr}
use Rattle.std.specs.Prelude.{◌⊎◌, if◌then◌else◌}
use Rattle.std.proofs.lemmas.Bool.{true≢false, cases_eq}
use Rattle.dri_model.specs.Counting.{any_from, how_many, least}
use Rattle.dri_model.proofs.Counts.{none_from}

pub any_none : (p : ℕ → Bool) (first n : ℕ) → ((k : ℕ) → first ≤ k → k < first + n → p k ≡ false) → any_from p first n ≡ false
any_none p first zero h = refl
any_none p first (suc n) h = rw (h (first + n) (omega arith) (omega arith), any_none p first n (λ k l m. h k l (omega arith))) refl

pub any_at : (p : ℕ → Bool) (first n k : ℕ) → first ≤ k → k < first + n → p k ≡ true → any_from p first n ≡ true
any_at p first n k l m e = by (any_from p first n) refl
  where
    by : (b : Bool) → any_from p first n ≡ b → any_from p first n ≡ true
    by true h = h
    by false h = absurd (true≢false (sym e ∙ none_from p first n k h l m))

pub how_many_none : (p : ℕ → Bool) (n : ℕ) → ((k : ℕ) → k < n → p k ≡ false) → how_many p n ≡ 0
how_many_none p zero h = refl
how_many_none p (suc n) h = rw (h n (omega arith), how_many_none p n (λ k l. h k (omega arith))) refl

pub how_many_same : (p q : ℕ → Bool) (n : ℕ) → ((k : ℕ) → k < n → p k ≡ q k) → how_many p n ≡ how_many q n
how_many_same p q zero h = refl
how_many_same p q (suc n) h = rw (h n (omega arith), how_many_same p q n (λ k l. h k (omega arith))) refl

pub how_many_grows : (p q : ℕ → Bool) (n : ℕ) → ((k : ℕ) → k < n → p k ≡ true → q k ≡ true) → how_many p n ≤ how_many q n
how_many_grows p q zero h = omega arith
how_many_grows p q (suc n) h = by (how_many_grows p q n (λ k l. h k (omega arith))) (p n) refl (q n) refl
  where
    by : how_many p n ≤ how_many q n → (a : Bool) → p n ≡ a → (b : Bool) → q n ≡ b → how_many p (suc n) ≤ how_many q (suc n)
    by below true e true f = rw (e, f) (omega (arith, below))
    by below true e false f = absurd (true≢false (sym (h n (omega arith) e) ∙ f))
    by below false e true f = rw (e, f) (omega (arith, below))
    by below false e false f = rw (e, f) (omega (arith, below))

-- one number more has the second property
pub how_many_one : (p q : ℕ → Bool) (n j : ℕ) → j < n → p j ≡ false → q j ≡ true → ((k : ℕ) → k < n → (k ≡ j → ⊥) → p k ≡ q k) → how_many q n ≡ suc (how_many p n)
how_many_one p q zero j l e f h = absurd (omega arith)
how_many_one p q (suc n) j l e f h = by (cases_eq j n) (λ m. how_many_one p q n j m e f (λ k m. h k (omega arith)))
  where
    by : (j ≡ n) ⊎ (j ≡ n → ⊥) → (j < n → how_many q n ≡ suc (how_many p n)) → how_many q (suc n) ≡ suc (how_many p (suc n))
    by (inl same) below = let a : p n ≡ false = rw same at e in let b : q n ≡ true = rw same at f in
        rw (a, b, how_many_same p q n (λ k m. h k (omega arith) (λ s. absurd (omega (arith, s, same))))) refl
    by (inr other) below = rw (h n (omega arith) (λ s. other (sym s)), below (omega (arith, other))) (either (q n))
      where
        either : (b : Bool) → (if b then suc (suc (how_many p n)) else suc (how_many p n)) ≡ suc (if b then suc (how_many p n) else how_many p n)
        either true = refl
        either false = refl

pub how_many_more : (p q : ℕ → Bool) (n j : ℕ) → j < n → p j ≡ false → q j ≡ true → ((k : ℕ) → k < n → p k ≡ true → q k ≡ true) → how_many p n < how_many q n
how_many_more p q zero j l e f h = absurd (omega arith)
how_many_more p q (suc n) j l e f h = by (cases_eq j n) (λ m. how_many_more p q n j m e f (λ k m. h k (omega arith)))
  where
    by : (j ≡ n) ⊎ (j ≡ n → ⊥) → (j < n → how_many p n < how_many q n) → how_many p (suc n) < how_many q (suc n)
    by (inl same) below = let a : p n ≡ false = rw same at e in let b : q n ≡ true = rw same at f in
        rw (a, b) (omega (arith, how_many_grows p q n (λ k m. h k (omega arith))))
    by (inr other) below = at (below (omega (arith, other))) (p n) refl (q n) refl
      where
        at : how_many p n < how_many q n → (a : Bool) → p n ≡ a → (b : Bool) → q n ≡ b → how_many p (suc n) < how_many q (suc n)
        at less true x true y = rw (x, y) (omega (arith, less))
        at less true x false y = absurd (true≢false (sym (h n (omega arith) x) ∙ y))
        at less false x true y = rw (x, y) (omega (arith, less))
        at less false x false y = rw (x, y) (omega (arith, less))

pub least_none : (p : ℕ → Bool) (n : ℕ) → ((k : ℕ) → k < n → p k ≡ false) → least p n ≡ n
least_none p zero h = refl
least_none p (suc n) h = rw (any_none p 0 n (λ k l m. h k (omega arith)), h n (omega arith)) refl

pub least_at : (p : ℕ → Bool) (n k : ℕ) → k < n → p k ≡ true → ((j : ℕ) → j < k → p j ≡ false) → least p n ≡ k
least_at p zero k l e h = absurd (omega arith)
least_at p (suc n) k l e h = by (cases_eq k n) (λ m. least_at p n k m e h)
  where
    by : (k ≡ n) ⊎ (k ≡ n → ⊥) → (k < n → least p n ≡ k) → least p (suc n) ≡ k
    by (inl same) below = let b : p n ≡ true = rw same at e in rw (any_none p 0 n (λ i m o. h i (omega (arith, same))), b) (sym same)
    by (inr other) below = rw (any_at p 0 n k (omega arith) (omega (arith, other)) e) (below (omega (arith, other)))
