-- Members that are there, and stand in no group before.
use Rattle.std.proofs.Common.{◌≡◌, ◌≢◌, ◌⊎◌, inl, inr, ℕ, suc, List, [], ◌∷◌, ◌++◌, get_or, Bool, true, false, not, ◌==◌, ◌&&◌, ◌||◌, refl, sym, ap, ◌∙◌, subst, arith, eq-eqb, append_assoc}
use Rattle.std.specs.List.{All, AllPairs, Contains}
use Rattle.std.proofs.lemmas.Bool.{false≢true}
use Rattle.std.proofs.lemmas.Bool.Decides.{eqb_tells}
use Rattle.std.proofs.lemmas.Grind.{flat_map-append}
use Rattle.std.proofs.lemmas.List.{append-nil}
use Rattle.std.proofs.lemmas.List.Elements.{All-cons, All-nil, Contains-append_cases, Contains-push_cases}
use Rattle.std.proofs.lemmas.List.Folds.{list_any_at}
use Rattle.dri_base.proofs.NumberMarks.{apart_more}
use Rattle.dri_many.specs.declared.grouping.Grouping.{Grouping}
use Rattle.dri_many.specs.Groupings.{all_members}
use Rattle.dri_many.specs.Readings.{are_new, are_there, has_number, is_grouped}

both : (a b : Bool) → (a && b) ≡ true → (a ≡ true) × (b ≡ true)
both true b is = (refl, is)
both false b is = absurd (false≢true is)

isnt : (b : Bool) → not b ≡ true → b ≡ false
isnt true is = absurd (false≢true is)
isnt false is = refl

neither : (a b : Bool) → (a || b) ≡ false → b ≡ false
neither true b is = absurd (false≢true (sym is))
neither false b is = is

or_true : (b : Bool) → (b || true) ≡ true
or_true true = refl
or_true false = refl

one_further : (m n : ℕ) (ns : List ℕ) → Contains ns n → Contains (m ∷ ns) n
one_further m n ns in' = (suc in'.0, omega (arith, in'.1), in'.2)

-- a number that is found is listed, and the other way round
pub is_listed : (n : ℕ) (ms : List ℕ) → has_number n ms ≡ true → Contains ms n
is_listed n [] found = absurd (false≢true found)
is_listed n (m ∷ ms) found = elim (eqb_tells m n) as (λ _. Contains (m ∷ ms) n) [
  | inl same ↦ (0, omega arith, same.1)
  | inr other ↦ one_further m n ms (is_listed n ms (rw other.0 at found))
]

is_found : (n : ℕ) (ms : List ℕ) → Contains ms n → has_number n ms ≡ true
is_found n ms in' = list_any_at (λ m. m == n) ms in'.0 n in'.1 (eq-eqb (get_or ms in'.0 n) n in'.2)

-- each is listed
pub all_there : (clients ms : List ℕ) → are_there clients ms ≡ true → All (Contains clients) ms
all_there clients [] there = All-nil (Contains clients)
all_there clients (m ∷ ms) there =
    let parts = both (has_number m clients) (are_there clients ms) there in
    All-cons (Contains clients) m ms (is_listed m clients parts.0) (all_there clients ms parts.1)

-- a member of a group is found in one
grouped : (groups : List Grouping) (n : ℕ) → Contains (all_members groups) n → is_grouped n groups ≡ true
grouped [] n in' = absurd (omega (arith, in'.1))
grouped (g ∷ gs) n in' = elim (Contains-append_cases g.members (all_members gs) n in') as (λ _. is_grouped n (g ∷ gs) ≡ true) [
  | inl here ↦ ap (λ b. b || is_grouped n gs) (is_found n g.members here)
  | inr later ↦ ap (λ b. has_number n g.members || b) (grouped gs n later) ∙ or_true (has_number n g.members)
]

-- what the first of new members is
record IsNew (groups : List Grouping) (m : ℕ) (ms : List ℕ) : Type 0 where
  apart : is_grouped m groups ≡ false
  once : has_number m ms ≡ false
  rest : are_new groups ms ≡ true

first_new : (groups : List Grouping) (m : ℕ) (ms : List ℕ) → are_new groups (m ∷ ms) ≡ true → IsNew groups m ms
first_new groups m ms new =
    let all = both (not (is_grouped m groups) && not (has_number m ms)) (are_new groups ms) new in
    let two = both (not (is_grouped m groups)) (not (has_number m ms)) all.0 in
    record { apart = isnt (is_grouped m groups) two.0; once = isnt (has_number m ms) two.1; rest = all.1 }

-- a member of a group isn't among new ones
ungrouped : (groups : List Grouping) (ms : List ℕ) (n : ℕ) → are_new groups ms ≡ true → is_grouped n groups ≡ true → has_number n ms ≡ false
ungrouped groups [] n new is = refl
ungrouped groups (m ∷ ms) n new is = let first = first_new groups m ms new in elim (eqb_tells m n) as (λ _. has_number n (m ∷ ms) ≡ false) [
  | inl same ↦ absurd (false≢true (sym first.apart ∙ ap (λ k. is_grouped k groups) same.1 ∙ is))
  | inr other ↦ ap (λ b. b || has_number n ms) other.0 ∙ ungrouped groups ms n first.rest is
]

-- numbers that differ, and new members that are none of them
apart_on : (groups : List Grouping) (xs ms : List ℕ) → AllPairs ◌≢◌ xs → ((n : ℕ) → Contains xs n → has_number n ms ≡ false) → are_new groups ms ≡ true → AllPairs ◌≢◌ (xs ++ ms)
apart_on groups xs [] apart others new = subst (AllPairs ◌≢◌) (sym (append-nil xs)) apart
apart_on groups xs (m ∷ ms) apart others new =
    let first = first_new groups m ms new in
    let fresh : Contains xs m → ⊥ = λ in'. false≢true (sym (others m in') ∙ ap (λ b. b || has_number m ms) (eq-eqb m m refl)) in
    subst (AllPairs ◌≢◌) (append_assoc xs (m ∷ []) ms) (apart_on groups (xs ++ m ∷ []) ms (apart_more xs m apart fresh) (λ n in'. still n (Contains-push_cases xs m n in') first.once) first.rest)
  where
    still : (n : ℕ) → Contains xs n ⊎ (m ≡ n) → has_number m ms ≡ false → has_number n ms ≡ false
    still n (inl old) once = neither (m == n) (has_number n ms) (others n old)
    still n (inr same) once = ap (λ k. has_number k ms) (sym same) ∙ once

-- new members beside those of all groups
pub apart_new : (groups : List Grouping) (ms : List ℕ) → AllPairs ◌≢◌ (all_members groups) → are_new groups ms ≡ true → AllPairs ◌≢◌ (all_members groups ++ ms)
apart_new groups ms apart new = apart_on groups (all_members groups) ms apart (λ n in'. ungrouped groups ms n new (grouped groups n in')) new

-- a group more
pub members_push : (groups : List Grouping) (g : Grouping) → all_members groups ++ g.members ≡ all_members (groups ++ g ∷ [])
members_push groups g = sym (flat_map-append (λ (h : Grouping). h.members) groups (g ∷ []) ∙ ap (λ ms. all_members groups ++ ms) (append-nil g.members))
