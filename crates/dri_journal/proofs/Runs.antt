-- A place for so many regions is one alone.
use Rattle.std.proofs.Common.{◌≡◌, ℕ, Bool, true, false, Option, Some, None, refl, sym, ap, subst, ◌∙◌, arith}
use Rattle.std.specs.Prelude.{◌==◌, ◌&&◌, MatchOption}
use Rattle.std.proofs.lemmas.Bool.{and_parts, eqb-true}
use Rattle.std.proofs.lemmas.Bool.Decides.{nat_tests}
use Rattle.dri_core.specs.Effects.{heap_placed, run_at}
use Rattle.dri_core.specs.EntryTable.{is_start_for}
use Rattle.dri_model.specs.Heaps.{Heap, Run, Spot, classes_for, is_place_for, lowest_place}

place_lowest : (n : ℕ) (h : Heap) (count first : ℕ) → is_place_for n h count first ≡ true → first ≡ lowest_place n h count (classes_for n h count)
place_lowest n h count first e = eqb-true first (lowest_place n h count (classes_for n h count)) (and_parts _ _ e).0

-- two places are one
pub one_place : (n : ℕ) (h : Heap) (count first found : ℕ) → is_place_for n h count found ≡ true → is_place_for n h count first ≡ true → first ≡ found
one_place n h count first found a b = place_lowest n h count first b ∙ sym (place_lowest n h count found a)

-- a place is tested by the one that was found
pub place_is : (n : ℕ) (h : Heap) (count first found : ℕ) → is_place_for n h count found ≡ true → (first == found) ≡ is_place_for n h count first
place_is n h count first found e = by_test (first == found) refl (is_place_for n h count first) refl
  where
    by_test : (a : Bool) → (first == found) ≡ a → (b : Bool) → is_place_for n h count first ≡ b → a ≡ b
    by_test true same true here = refl
    by_test false other false here = refl
    by_test true same false here = sym (rw (sym (eqb-true first found same)) at e) ∙ here
    by_test false other true here = let is : first ≡ found = one_place n h count first found e here in grind (arith, nat_tests)

-- with room or without, a start is tested by the one that was found
pub start_is : (room : Option Spot) (n : ℕ) (h : Heap) (count first found : ℕ) → is_start_for room n h count found ≡ true → (first == found) ≡ is_start_for room n h count first
start_is None n h count first found e = place_is n h count first found e
start_is (Some spot) n h count first found e = ap (λ k. first == k) (eqb-true found spot.run.first e)

-- what is put in a room, or in a run that begins by the rule, leaves the heap of this run
pub placed_is : (room : Option Spot) (small : Bool) (n : ℕ) (h : Heap) (count needed first : ℕ) (run : Run) → MatchOption room (run.count ≡ needed) (λ spot. run.count ≡ spot.run.count) → count ≡ needed →
    is_start_for room n h run.count run.first ≡ true → is_start_for room n h count first ≡ true → heap_placed room small n h run ≡ heap_placed room small n h (run_at first count)
placed_is None small n h count needed first run many size found place = ap (λ r. heap_placed None small n h r) same
  where
    as_many : run.count ≡ count
    as_many = many ∙ sym size

    same : run ≡ run_at first count
    same = λ i. record { first = one_place n h count run.first first place (subst (λ m. is_place_for n h m run.first ≡ true) as_many found) i; count = as_many i }
placed_is (Some spot) small n h count needed first run many size found place = refl

-- a run is tested by its size and by the start that was found
pub run_is : (room : Option Spot) (n : ℕ) (h : Heap) (needed first count found : ℕ) → count ≡ needed → is_start_for room n h needed found ≡ true → (first == found) ≡ ((count == needed) && is_start_for room n h count first)
run_is room n h needed first count found same e = rw (same, self) (start_is room n h needed first found e)
  where
    self : (needed == needed) ≡ true
    self = grind (arith, nat_tests)
