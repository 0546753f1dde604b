-- The order of the list.
use Rattle.std.proofs.Common.{◌≡◌, ◌<◌, ◌+◌, ℕ, Bool, true, false, not, arith, refl}
use Rattle.std.specs.Prelude.{◌&&◌, Some, None}
use Rattle.std.proofs.lemmas.Bool.Decides.{nat_tests}
use Rattle.dri_model.specs.Counting.{any_from}
use Rattle.dri_model.specs.Heaps.{Heap}
use Rattle.dri_texheap.specs.declared.links.Direction.{Direction}
use Rattle.dri_texheap.specs.declared.links.Direction.TheVariants.{Onward, Backward}
use Rattle.dri_texheap.specs.Ring.{foremost, goes, follows, Nearest}
use Rattle.dri_texheap.proofs.Counted.{any_none, any_at, least_none, least_at}

-- the order is total, and goes on
pub before_self : (h : Heap) (d : Direction) (a : ℕ) → goes h d a a ≡ false
before_self h Onward a = grind (arith, nat_tests)
before_self h Backward a = grind (arith, nat_tests)

pub before_other : (h : Heap) (d : Direction) (a b c : ℕ) → goes h d a b ≡ true → goes h d c b ≡ false → goes h d c a ≡ false
before_other h Onward a b c p q = grind (arith, nat_tests)
before_other h Backward a b c p q = grind (arith, nat_tests)

pub before_back : (h : Heap) (d : Direction) (a b : ℕ) → (a ≡ b → ⊥) → goes h d a b ≡ false → goes h d b a ≡ true
before_back h Onward a b p q = grind (arith, nat_tests)
before_back h Backward a b p q = grind (arith, nat_tests)

pub nearest_first : (n : ℕ) (h : Heap) (d : Direction) (i m : ℕ) → Nearest n h d i m None → follows n h d i m ≡ true → Nearest n h d i (m + 1) (Some m)
nearest_first n h d i m b p = (omega arith, p, λ j l q. at (follows n h d i) j b l q)
  where
    at : (t : ℕ → Bool) (j : ℕ) → ((j : ℕ) → j < m → t j ≡ false) → j < m + 1 → t j ≡ true → goes h d j m ≡ false
    at t j r l q = grind (arith, before_self h d m, r)

pub nearest_not : (n : ℕ) (h : Heap) (d : Direction) (i m : ℕ) → Nearest n h d i m None → follows n h d i m ≡ false → Nearest n h d i (m + 1) None
nearest_not n h d i m b p = λ j l. at (follows n h d i) j b p l
  where
    at : (t : ℕ → Bool) (j : ℕ) → ((j : ℕ) → j < m → t j ≡ false) → t m ≡ false → j < m + 1 → t j ≡ false
    at t j r q l = grind (arith, r)

pub nearest_new : (n : ℕ) (h : Heap) (d : Direction) (i m o : ℕ) → Nearest n h d i m (Some o) → follows n h d i m ≡ true → goes h d m o ≡ true → Nearest n h d i (m + 1) (Some m)
nearest_new n h d i m o b p q = (omega arith, p, λ j l r. at (follows n h d i) (goes h d) j b.2 l r q (before_self h d m) (before_other h d m o j q))
  where
    at : (t : ℕ → Bool) (g : ℕ → ℕ → Bool) (j : ℕ) → ((j : ℕ) → j < m → t j ≡ true → g j o ≡ false) → j < m + 1 → t j ≡ true → g m o ≡ true → g m m ≡ false → (g j o ≡ false → g j m ≡ false) → g j m ≡ false
    at t g j s l r k self other = grind (arith, s)

pub nearest_old : (n : ℕ) (h : Heap) (d : Direction) (i m o : ℕ) → Nearest n h d i m (Some o) → goes h d m o ≡ false → Nearest n h d i (m + 1) (Some o)
nearest_old n h d i m o b q = (omega (arith, b.0), b.1, λ j l r. at (follows n h d i) (goes h d) j b.2 l r q)
  where
    at : (t : ℕ → Bool) (g : ℕ → ℕ → Bool) (j : ℕ) → ((j : ℕ) → j < m → t j ≡ true → g j o ≡ false) → j < m + 1 → t j ≡ true → g m o ≡ false → g j o ≡ false
    at t g j s l r k = grind (arith, s)

pub nearest_same : (n : ℕ) (h : Heap) (d : Direction) (i m o : ℕ) → Nearest n h d i m (Some o) → follows n h d i m ≡ false → Nearest n h d i (m + 1) (Some o)
nearest_same n h d i m o b q = (omega (arith, b.0), b.1, λ j l r. at (follows n h d i) (goes h d) j b.2 l r q)
  where
    at : (t : ℕ → Bool) (g : ℕ → ℕ → Bool) (j : ℕ) → ((j : ℕ) → j < m → t j ≡ true → g j o ≡ false) → j < m + 1 → t j ≡ true → t m ≡ false → g j o ≡ false
    at t g j s l r k = grind (arith, s)

-- the nearest is the foremost of those that follow
pub foremost_none : (n : ℕ) (h : Heap) (d : Direction) (i : ℕ) → Nearest n h d i n None → foremost n (goes h d) (follows n h d i) ≡ n
foremost_none n h d i b = least_none (λ k. follows n h d i k && not (any_from (λ o. follows n h d i o && goes h d o k) 0 n)) n (λ k l. rw (b k l) refl)

pub foremost_some : (n : ℕ) (h : Heap) (d : Direction) (i j : ℕ) → Nearest n h d i n (Some j) → foremost n (goes h d) (follows n h d i) ≡ j
foremost_some n h d i j b = least_at (λ k. has k && not (any_from (λ o. has o && goes h d o k) 0 n)) n j b.0 here lower
  where
    has : ℕ → Bool
    has = follows n h d i

    none : (o : ℕ) (t : Bool) → has o ≡ t → o < n → (has o && goes h d o j) ≡ false
    none o false e l = rw e refl
    none o true e l = rw (e, b.2 o l e) refl

    here : (has j && not (any_from (λ o. has o && goes h d o j) 0 n)) ≡ true
    here = rw (b.1, any_none (λ o. has o && goes h d o j) 0 n (λ o l m. none o (has o) refl (omega (arith, m)))) refl

    lower : (k : ℕ) → k < j → (has k && not (any_from (λ o. has o && goes h d o k) 0 n)) ≡ false
    lower k l = by (has k) refl
      where
        by : (t : Bool) → has k ≡ t → (has k && not (any_from (λ o. has o && goes h d o k) 0 n)) ≡ false
        by false e = rw e refl
        by true e = rw (e, any_at (λ o. has o && goes h d o k) 0 n j (omega arith) (omega (arith, b.0)) (rw (b.1, before_back h d k j (λ s. absurd (omega (arith, s))) (b.2 k (omega (arith, b.0)) e)) refl)) refl
