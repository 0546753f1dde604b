-- A run is always found.
use Rattle.std.proofs.Common.{◌≡◌, ◌<◌, ◌≤◌, ◌+◌, ℕ, zero, suc, Bool, true, false, not, arith, refl, sym, ◌∙◌, inl, inr}
use Rattle.std.specs.Prelude.{◌⊎◌, ◌==◌, ◌&&◌, nat_lt, nat_le}
use Rattle.std.proofs.lemmas.Bool.Decides.{nat_tests}
use Rattle.std.proofs.lemmas.Bool.{true≢false, cases_eq, false_from_ne_true}
use Rattle.dri_model.specs.Counting.{how_many}
use Rattle.dri_model.specs.Heaps.{Heap, leads_class, older_classes, is_room, fits, lowest_place, classes_for, is_place_for}
use Rattle.dri_model.specs.Counting.{any_from, least}
use Rattle.dri_model.proofs.Counts.{none_from, some_from, how_many_all}

-- the least number with the property has it
least_is : (p : ℕ → Bool) (n k : ℕ) → k < n → p k ≡ true → (p (least p n) ≡ true) × (least p n < n)
least_is p zero k l e = absurd (omega arith)
least_is p (suc n) k l e = by_below (any_from p 0 n) refl (p n) refl (least_is p n)
  where
    by_below : (b : Bool) → any_from p 0 n ≡ b → (a : Bool) → p n ≡ a → ((k : ℕ) → k < n → p k ≡ true → (p (least p n) ≡ true) × (least p n < n)) → (p (least p (suc n)) ≡ true) × (least p (suc n) < suc n)
    by_below true h a q below = let r = some_from p 0 n h in let i = below r.0 (omega (arith, r.2)) r.3 in rw h (i.0, omega (arith, i.1))
    by_below false h true q below = rw (h, q) (q, omega arith)
    by_below false h false q below = absurd (by_place (cases_eq k n))
      where
        by_place : (k ≡ n) ⊎ (k ≡ n → ⊥) → ⊥
        by_place (inl same) = true≢false (sym e ∙ rw same q)
        by_place (inr ne) = true≢false (sym e ∙ none_from p 0 n k h (omega arith) (omega arith))

-- or there is none below
least_top : (p : ℕ → Bool) (n : ℕ) → (least p n < n) ⊎ (least p n ≡ n)
least_top p zero = inr refl
least_top p (suc n) = by_below (any_from p 0 n) refl (p n) refl (least_top p n)
  where
    by_below : (b : Bool) → any_from p 0 n ≡ b → (a : Bool) → p n ≡ a → (least p n < n) ⊎ (least p n ≡ n) → (least p (suc n) < suc n) ⊎ (least p (suc n) ≡ suc n)
    by_below true h a q (inl lt) = inl (rw h (omega (arith, lt)))
    by_below true h a q (inr is) = inl (rw h (omega (arith, is)))
    by_below false h true q below = inl (rw (h, q) (omega arith))
    by_below false h false q below = inr (rw (h, q) refl)

-- a least number below the bound has the property
pub below_has : (q : ℕ → Bool) (n : ℕ) → least q n < n → q (least q n) ≡ true
below_has q zero lt = absurd (omega arith)
below_has q (suc n) lt = by_below (any_from q 0 n) refl (q n) refl
  where
    by_below : (b : Bool) → any_from q 0 n ≡ b → (a : Bool) → q n ≡ a → q (least q (suc n)) ≡ true
    by_below true h a e = let r = some_from q 0 n h in rw h (least_is q n r.0 (omega (arith, r.2)) r.3).0
    by_below false h true e = rw (h, e) e
    by_below false h false e = absurd (top (rw (h, e) at lt))
      where
        top : suc n < suc n → ⊥
        top t = omega arith

-- and no number below it has
pub none_below : (q : ℕ → Bool) (n k : ℕ) → k < least q n → q k ≡ false
none_below q zero k lt = absurd (omega arith)
none_below q (suc n) k lt = by_below (any_from q 0 n) refl (q n) refl (none_below q n k)
  where
    outside : any_from q 0 n ≡ false → k < n → q k ≡ false
    outside h l = none_from q 0 n k h (omega arith) (omega (arith, l))

    by_below : (b : Bool) → any_from q 0 n ≡ b → (a : Bool) → q n ≡ a → (k < least q n → q k ≡ false) → q k ≡ false
    by_below true h a e below = below (rw h at lt)
    by_below false h true e below = outside h (rw (h, e) at lt)
    by_below false h false e below = by_place (cases_eq k n)
      where
        under : k < suc n
        under = rw (h, e) at lt

        by_place : (k ≡ n) ⊎ (k ≡ n → ⊥) → q k ≡ false
        by_place (inl same) = rw same e
        by_place (inr ne) = outside h (omega (arith, under, ne))

-- fewer than all have a property that one lacks
how_many_less : (p : ℕ → Bool) (n k : ℕ) → k < n → p k ≡ false → how_many p n < n
how_many_less p zero k l e = absurd (omega arith)
how_many_less p (suc n) k l e = by_place (cases_eq k n) (how_many_less p n k)
  where
    by_place : (k ≡ n) ⊎ (k ≡ n → ⊥) → (k < n → p k ≡ false → how_many p n < n) → how_many p (suc n) < suc n
    by_place (inl same) below = let q : p n ≡ false = rw same at e in rw q (omega (arith, how_many_all p n))
    by_place (inr ne) below = grind (arith, below (omega arith) e)

-- with all classes gone every region has room
all_room : (n : ℕ) (h : Heap) (k : ℕ) → k < n → is_room n h n k ≡ true
all_room n h k l = by_use (h.used k) refl
  where
    older : older_classes n h k < n
    older = how_many_less (λ j. leads_class h j && nat_lt (h.age j) (h.age k)) n k l (not_older (leads_class h k))
      where
        not_older : (b : Bool) → (b && nat_lt (h.age k) (h.age k)) ≡ false
        not_older b = grind (arith, nat_tests)

    by_use : (b : Bool) → h.used k ≡ b → is_room n h n k ≡ true
    by_use false u = rw u refl
    by_use true u = let lt : nat_lt (older_classes n h k) n ≡ true = grind (arith, nat_tests, older) in rw (u, lt) refl

all_fit : (n : ℕ) (h : Heap) (count : ℕ) → count ≤ n → fits n h n count 0 ≡ true
all_fit n h count le = let e : nat_le (0 + count) n ≡ true = grind (arith, nat_tests) in let a : any_from (λ k. not (is_room n h n k)) 0 count ≡ false = false_from_ne_true _ none in rw (e, a) refl
  where
    none : any_from (λ k. not (is_room n h n k)) 0 count ≡ true → ⊥
    none e = let r = some_from (λ k. not (is_room n h n k)) 0 count e in true≢false (sym r.3 ∙ rw (all_room n h r.0 (omega (arith, r.2))) refl)

-- the rule always finds a run for at most all regions
pub place_found : (n : ℕ) (h : Heap) (count : ℕ) → 0 < n → count ≤ n → is_place_for n h count (lowest_place n h count (classes_for n h count)) ≡ true
place_found n h count l le = rw (same (lowest_place n h count (classes_for n h count)), fit) refl
  where
    same : (m : ℕ) → (m == m) ≡ true
    same m = grind (arith, nat_tests)

    p : ℕ → Bool
    p m = nat_lt (lowest_place n h count m) n

    -- with the least number of classes there is a place
    there : p (classes_for n h count) ≡ true
    there = by_top (least_top p n)
      where
        at_all : p n ≡ true
        at_all = grind (arith, nat_tests, (least_is (fits n h n count) n 0 l (all_fit n h count le)).1)

        by_top : (least p n < n) ⊎ (least p n ≡ n) → p (least p n) ≡ true
        by_top (inr is) = rw is at_all
        by_top (inl lt) = below_has p n lt

    fit : fits n h (classes_for n h count) count (lowest_place n h count (classes_for n h count)) ≡ true
    fit = below_has (fits n h (classes_for n h count) count) n (grind (arith, nat_tests, there))
