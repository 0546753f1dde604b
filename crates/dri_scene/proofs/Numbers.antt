-- Lists of things with numbers.
use Rattle.std.proofs.Common.{◌≡◌, ◌≢◌, ◌<◌, ◌≤◌, inl, inr, ℕ, zero, suc, List, [], ◌∷◌, ◌++◌, length, map, get_or, Bool, true, false, ◌==◌, ◌||◌, if◌then◌else◌, Result, Ok, Err, refl, sym, ap, ◌∙◌, subst, arith, eq-eqb}
use Rattle.std.specs.List.{All, AllPairs, Contains, list_any}
use Rattle.std.proofs.lemmas.Bool.{false≢true}
use Rattle.std.proofs.lemmas.Bool.Decides.{eqb_tells}
use Rattle.std.proofs.lemmas.List.{map-append}
use Rattle.std.proofs.lemmas.List.Elements.{All-push}
use Rattle.std.proofs.lemmas.List.Quantifiers.{all_pairs_push}
use Rattle.dri_base.proofs.NumberMarks.{apart_more}
use Rattle.dri_words.specs.declared.reason.Reason.{Reason}

contains_cons : (m n : ℕ) (ns : List ℕ) → Contains ns n → Contains (m ∷ ns) n
contains_cons m n ns in' = (suc in'.0, omega (arith, in'.1), in'.2)

-- a number that is found is listed
pub is_listed : {X : Type 0} (number : X → ℕ) (n : ℕ) (xs : List X) → list_any (λ x. number x == n) xs ≡ true → Contains (map number xs) n
is_listed number n [] found = absurd (false≢true found)
is_listed number n (x ∷ xs) found = elim (eqb_tells (number x) n) as (λ _. Contains (map number (x ∷ xs)) n) [
  | inl same ↦ (0, omega arith, same.1)
  | inr other ↦ contains_cons (number x) n (map number xs) (is_listed number n xs (rw other.0 at found))
]

or_true : (b : Bool) → (b || true) ≡ true
or_true true = refl
or_true false = refl

found_at : {X : Type 0} (number : X → ℕ) (n : ℕ) (xs : List X) (k : ℕ) → k < length (map number xs) → get_or (map number xs) k n ≡ n → list_any (λ x. number x == n) xs ≡ true
found_at number n [] k below at = absurd (omega (arith, below))
found_at number n (x ∷ xs) zero below at = ap (λ b. b || list_any (λ y. number y == n) xs) (eq-eqb (number x) n at)
found_at number n (x ∷ xs) (suc k) below at = ap (λ b. (number x == n) || b) (found_at number n xs k (omega (arith, below)) at) ∙ or_true (number x == n)

-- a number that is listed is found
pub is_found : {X : Type 0} (number : X → ℕ) (n : ℕ) (xs : List X) → Contains (map number xs) n → list_any (λ x. number x == n) xs ≡ true
is_found number n xs in' = found_at number n xs in'.0 in'.1 in'.2

-- a number that isn't listed isn't found
pub not_found : {X : Type 0} (number : X → ℕ) (n : ℕ) (xs : List X) → (Contains (map number xs) n → ⊥) → list_any (λ x. number x == n) xs ≡ false
not_found number n xs none = told (list_any (λ x. number x == n) xs) refl where
  told : (b : Bool) → list_any (λ x. number x == n) xs ≡ b → list_any (λ x. number x == n) xs ≡ false
  told true is = absurd (none (is_listed number n xs is))
  told false is = is

-- a number that isn't found isn't listed
pub is_unlisted : {X : Type 0} (number : X → ℕ) (n : ℕ) (xs : List X) → list_any (λ x. number x == n) xs ≡ false → Contains (map number xs) n → ⊥
is_unlisted number n xs none in' = false≢true (sym none ∙ found_at number n xs in'.0 in'.1 in'.2)

-- a number that isn't found among numbers
pub not_among : (ns : List ℕ) (n : ℕ) → list_any (λ m. m == n) ns ≡ false → Contains ns n → ⊥
not_among ns n none in' = is_unlisted (λ m. m) n ns none (subst (λ (ms : List ℕ). Contains ms n) (sym (map_same ns)) in') where
  map_same : (ms : List ℕ) → map (λ m. m) ms ≡ ms
  map_same [] = refl
  map_same (m ∷ ms) = ap (λ rest. m ∷ rest) (map_same ms)

-- a number that is found among numbers is listed
pub found_among : (ns : List ℕ) (n : ℕ) → list_any (λ m. m == n) ns ≡ true → Contains ns n
found_among [] n found = absurd (false≢true found)
found_among (m ∷ ms) n found = elim (eqb_tells m n) as (λ _. Contains (m ∷ ms) n) [
  | inl same ↦ (0, omega arith, same.1)
  | inr other ↦ contains_cons m n ms (found_among ms n (rw other.0 at found))
]

-- the numbers of the things and of one more
pub numbers_more : {X : Type 0} (number : X → ℕ) (xs : List X) (x : X) → map number xs ++ number x ∷ [] ≡ map number (xs ++ x ∷ [])
numbers_more number xs x = sym (map-append number xs (x ∷ []))

-- one more number that isn't listed
pub apart_push : {X : Type 0} (number : X → ℕ) (xs : List X) (x : X) → AllPairs ◌≢◌ (map number xs) → list_any (λ y. number y == number x) xs ≡ false → AllPairs ◌≢◌ (map number (xs ++ x ∷ []))
apart_push number xs x apart none = subst (AllPairs ◌≢◌) (numbers_more number xs x) (apart_more (map number xs) (number x) apart (is_unlisted number (number x) xs none))

-- one more number above all
pub rising_push : {X : Type 0} (number : X → ℕ) (xs : List X) (x : X) → AllPairs ◌<◌ (map number xs) → All (λ n. n < number x) (map number xs) → AllPairs ◌<◌ (map number (xs ++ x ∷ []))
rising_push number xs x rising above = subst (AllPairs ◌<◌) (numbers_more number xs x) (all_pairs_push ◌<◌ (map number xs) (number x) rising (λ k d below. above k d below))

-- numbers up to a bound, below a greater one
pub below_more : (a b : ℕ) (ns : List ℕ) → a < b → All (λ n. n ≤ a) ns → All (λ n. n < b) ns
below_more a b ns less all = λ k d below. let most = all k d below in omega (arith, most, less)

-- numbers below one more are up to it
pub most_push : {X : Type 0} (number : X → ℕ) (xs : List X) (x : X) → All (λ n. n < number x) (map number xs) → All (λ n. n ≤ number x) (map number (xs ++ x ∷ []))
most_push number xs x above = subst (All (λ n. n ≤ number x)) (numbers_more number xs x) (All-push (λ n. n ≤ number x) (map number xs) (number x) (λ k d below. let less = above k d below in omega (arith, less)) (omega arith))

-- a test that didn't refuse
pub passed : {A E : Type 0} (b : Bool) (e : E) (m : Result A E) (y : A) → (if b then Err e else m) ≡ Ok y → (b ≡ false) × (m ≡ Ok y)
passed true e m y is = absurd (cc)
passed false e m y is = (refl, is)

-- a reading that isn't refused
abbrev fine : {A : Type 0} → A → Result A Reason
fine x = Ok x

pub ok_same : {A : Type 0} (x y : A) → fine x ≡ fine y → x ≡ y
ok_same x y is = cc
