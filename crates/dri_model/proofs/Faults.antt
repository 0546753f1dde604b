-- A list of words goes wrong at one place at most.
use Rattle.std.proofs.Common.{◌≡◌, ◌≤◌, ◌+◌, ℕ, zero, suc, List, [], ◌∷◌, ◌++◌, Some, arith, refl, sym, ap, ◌∙◌, inl, inr, subst}
use Rattle.std.specs.Prelude.{take, slice_get}
use Rattle.std.proofs.lemmas.List.{append-nil}
use Rattle.dri_model.specs.WordFaults.{Begins, IsWrongWord, IsBadWord, HasOneFault}

append_assoc : (xs ys zs : List ℕ) → (xs ++ ys) ++ zs ≡ xs ++ (ys ++ zs)
append_assoc [] ys zs = refl
append_assoc (x ∷ xs) ys zs = ap (λ t. x ∷ t) (append_assoc xs ys zs)

-- what is left of a longer beginning after a shorter one
rest_of : (words : List ℕ) (m n : ℕ) → m ≤ n → (rest : List ℕ) × (take n words ≡ take m words ++ rest)
rest_of [] zero n l = (take n [], refl)
rest_of [] (suc m) zero l = absurd (omega arith)
rest_of [] (suc m) (suc n) l = ([], refl)
rest_of (x ∷ xs) zero n l = (take n (x ∷ xs), refl)
rest_of (x ∷ xs) (suc m) zero l = absurd (omega arith)
rest_of (x ∷ xs) (suc m) (suc n) l = let r = rest_of xs m n (omega (arith, l)) in (r.0, ap (λ t. x ∷ t) r.1)

-- and of the whole list
rest_of_all : (words : List ℕ) (m : ℕ) → (rest : List ℕ) × (words ≡ take m words ++ rest)
rest_of_all [] zero = ([], refl)
rest_of_all [] (suc m) = ([], refl)
rest_of_all (x ∷ xs) zero = (x ∷ xs, refl)
rest_of_all (x ∷ xs) (suc m) = let r = rest_of_all xs m in (r.0, ap (λ t. x ∷ t) r.1)

-- what a longer list begins, a shorter one begins
shorter : (Kind : List ℕ → Type 0) (long short rest : List ℕ) → long ≡ short ++ rest → Begins Kind long → Begins Kind short
shorter Kind long short rest e b = (rest ++ b.0, subst Kind (ap (λ t. t ++ b.0) e ∙ append_assoc short rest b.0) b.1)

-- a wrong word stands at no place before another
not_before : (Kind : List ℕ → Type 0) (words : List ℕ) (a v : ℕ) (n : ℕ) → IsWrongWord Kind words a v → a + 1 ≤ n → Begins Kind (take n words) → ⊥
not_before Kind words a v n wrong l b = let r = rest_of words (a + 1) n l in wrong.wrong (shorter Kind _ _ r.0 r.1 b)

-- nor where all words begin a list of the kind
not_cut : (Kind : List ℕ → Type 0) (words : List ℕ) (a v : ℕ) → IsWrongWord Kind words a v → Begins Kind words → ⊥
not_cut Kind words a v wrong b = let r = rest_of_all words (a + 1) in wrong.wrong (shorter Kind _ _ r.0 r.1 b)

-- two wrong words stand at one place
pub one_place : (Kind : List ℕ → Type 0) (words : List ℕ) (a v b w : ℕ) → IsBadWord Kind words a v → IsBadWord Kind words b w → a ≡ b
one_place Kind words a v b w (inl p) (inl q) =
    let lower : a + 1 ≤ b → ⊥ = λ l. not_before Kind words a v b p l q.before in
    let upper : b + 1 ≤ a → ⊥ = λ l. not_before Kind words b w a q l p.before in
    omega (arith, lower, upper)
one_place Kind words a v b w (inl p) (inr q) = absurd (not_cut Kind words a v p q.before)
one_place Kind words a v b w (inr p) (inl q) = absurd (not_cut Kind words b w q p.before)
one_place Kind words a v b w (inr p) (inr q) = p.end ∙ sym q.end

some_one : (v w : ℕ) → Some v ≡ Some w → v ≡ w
some_one v w e = cc

-- and are one word
pub one_word : (Kind : List ℕ → Type 0) (words : List ℕ) (a v b w : ℕ) → IsBadWord Kind words a v → IsBadWord Kind words b w → v ≡ w
one_word Kind words a v b w (inl p) (inl q) =
    let same : a ≡ b = one_place Kind words a v b w (inl p) (inl q) in some_one v w (sym p.there ∙ ap (slice_get words) same ∙ q.there)
one_word Kind words a v b w (inl p) (inr q) = absurd (not_cut Kind words a v p q.before)
one_word Kind words a v b w (inr p) (inl q) = absurd (not_cut Kind words b w q p.before)
one_word Kind words a v b w (inr p) (inr q) = p.zero ∙ sym q.zero

-- a list of the kind has no fault
pub no_fault : (Kind : List ℕ → Type 0) (words : List ℕ) (a v : ℕ) → IsBadWord Kind words a v → Kind words → ⊥
no_fault Kind words a v (inl p) kind = not_cut Kind words a v p ([], subst Kind (sym (append-nil words)) kind)
no_fault Kind words a v (inr p) kind = p.short kind

pub has_one_fault : (Kind : List ℕ → Type 0) (words : List ℕ) → HasOneFault Kind words
has_one_fault Kind words = record {
  one = λ a v b w p q. (one_place Kind words a v b w p q, one_word Kind words a v b w p q);
  none = no_fault Kind words;
}
