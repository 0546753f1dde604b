-- The age classes below a bound, and the regions that these make room with.
use Rattle.std.proofs.Common.{◌≡◌, ◌<◌, ◌≤◌, ◌+◌, ◌-◌, ℕ, zero, suc, Bool, true, false, not, arith, refl, sym, ◌∙◌}
use Rattle.std.specs.Prelude.{◌==◌, ◌&&◌, nat_lt, nat_le}
use Rattle.std.proofs.lemmas.Bool.{true≢false, and_parts, lt-ltb, le-ltb, ltb-true, eqb-true, not-true}
use Rattle.std.proofs.lemmas.Bool.Decides.{nat_tests}
use Rattle.dri_model.specs.Counting.{any_from}
use Rattle.dri_model.specs.Heaps.{Heap, leads_class, older_classes, is_room, fits, lowest_place}
use Rattle.dri_model.proofs.Counts.{some_from, none_from, any_same}
use Rattle.dri_texheap.specs.Search.{is_available, are_available, classes_below, NowhereBefore}
use Rattle.dri_texheap.proofs.Counted.{how_many_grows, how_many_more, least_none, least_at}

less_not : (a b : ℕ) → nat_lt a b ≡ false → b ≤ a
less_not a b e = grind (arith, nat_tests)

same_self : (a : ℕ) → (a == a) ≡ true
same_self a = grind (arith, nat_tests)

-- each region in use has one that stands for its class
pub leader : (h : Heap) (m k : ℕ) → k < m → h.used k ≡ true → (j : ℕ) × (j ≤ k) × (leads_class h j ≡ true) × (h.age j ≡ h.age k)
leader h zero k l u = absurd (omega arith)
leader h (suc m) k l u = by (leader h m) (any_from (λ i. h.used i && (h.age i == h.age k)) 0 k) refl
  where
    by : ((i : ℕ) → i < m → h.used i ≡ true → (j : ℕ) × (j ≤ i) × (leads_class h j ≡ true) × (h.age j ≡ h.age i)) → (b : Bool) → any_from (λ i. h.used i && (h.age i == h.age k)) 0 k ≡ b → (j : ℕ) × (j ≤ k) × (leads_class h j ≡ true) × (h.age j ≡ h.age k)
    by below false e = (k, omega arith, rw (u, e) refl, refl)
    by below true e = let r = some_from (λ i. h.used i && (h.age i == h.age k)) 0 k e in
        let q = and_parts (h.used r.0) (h.age r.0 == h.age k) r.3 in
        let s = below r.0 (omega (arith, r.2)) q.0 in
        (s.0, omega (arith, s.1, r.2), s.2, s.3 ∙ eqb-true (h.age r.0) (h.age k) q.1)

pub leader_used : (h : Heap) (j : ℕ) → leads_class h j ≡ true → h.used j ≡ true
leader_used h j e = (and_parts (h.used j) (not (any_from (λ i. h.used i && (h.age i == h.age j)) 0 j)) e).0

-- a class has one that stands for it
leader_least : (h : Heap) (i j : ℕ) → leads_class h i ≡ true → leads_class h j ≡ true → h.age i ≡ h.age j → j ≤ i
leader_least h i j d e a = by (nat_lt i j) refl
  where
    by : (b : Bool) → nat_lt i j ≡ b → j ≤ i
    by false l = less_not i j l
    by true l = absurd (true≢false (sym both ∙ none_from (λ k. h.used k && (h.age k == h.age j)) 0 j i none (omega arith) (omega (arith, ltb-true i j l))))
      where
        none : any_from (λ k. h.used k && (h.age k == h.age j)) 0 j ≡ false
        none = not-true _ (and_parts (h.used j) (not (any_from (λ k. h.used k && (h.age k == h.age j)) 0 j)) e).1

        both : (h.used i && (h.age i == h.age j)) ≡ true
        both = rw (leader_used h i d, a, same_self (h.age j)) refl

pub one_leader : (h : Heap) (i j : ℕ) → leads_class h i ≡ true → leads_class h j ≡ true → h.age i ≡ h.age j → i ≡ j
one_leader h i j d e a = omega (arith, leader_least h i j d e a, leader_least h j i e d (sym a))

-- a region in use is in one of the classes below the bound exactly where its age is
pub older_is : (n : ℕ) (h : Heap) (bound k : ℕ) → k < n → h.used k ≡ true → nat_lt (older_classes n h k) (classes_below n h bound) ≡ nat_lt (h.age k) bound
older_is n h bound k l u = by (nat_lt (h.age k) bound) refl
  where
    by : (b : Bool) → nat_lt (h.age k) bound ≡ b → nat_lt (older_classes n h k) (classes_below n h bound) ≡ nat_lt (h.age k) bound
    by true e = let s = leader h (suc k) k (omega arith) u in
        rw e (lt-ltb _ _ (how_many_more (λ j. leads_class h j && nat_lt (h.age j) (h.age k)) (λ j. leads_class h j && nat_lt (h.age j) bound) n s.0 (omega (arith, s.1))
        (rw (s.2, s.3, le-ltb (h.age k) (h.age k) (omega arith)) refl)
        (rw (s.2, s.3, e) refl)
        (λ j m f. up (leads_class h j) (h.age j) f)))
      where
        up : (c : Bool) (a : ℕ) → (c && nat_lt a (h.age k)) ≡ true → (c && nat_lt a bound) ≡ true
        up c a f = let q = and_parts c (nat_lt a (h.age k)) f in rw (q.0, lt-ltb a bound (omega (arith, ltb-true a (h.age k) q.1, ltb-true (h.age k) bound e))) refl
    by false e = rw e (le-ltb _ _ (how_many_grows (λ j. leads_class h j && nat_lt (h.age j) bound) (λ j. leads_class h j && nat_lt (h.age j) (h.age k)) n (λ j m f. up (leads_class h j) (h.age j) f)))
      where
        up : (c : Bool) (a : ℕ) → (c && nat_lt a bound) ≡ true → (c && nat_lt a (h.age k)) ≡ true
        up c a f = let q = and_parts c (nat_lt a bound) f in rw (q.0, lt-ltb a (h.age k) (omega (arith, ltb-true a bound q.1, less_not (h.age k) bound e))) refl

-- the classes below the bound make room with the available regions
pub room_is : (n : ℕ) (h : Heap) (bound k : ℕ) → k < n → is_room n h (classes_below n h bound) k ≡ is_available h bound k
room_is n h bound k l = by (h.used k) refl
  where
    by : (b : Bool) → h.used k ≡ b → is_room n h (classes_below n h bound) k ≡ is_available h bound k
    by false u = rw u refl
    by true u = rw (u, older_is n h bound k l u) refl

pub fits_is : (n : ℕ) (h : Heap) (bound count first : ℕ) → first + count ≤ n → fits n h (classes_below n h bound) count first ≡ are_available h bound first count
fits_is n h bound count first l =
    rw (inside, any_same (λ k. not (is_room n h (classes_below n h bound) k)) (λ k. not (is_available h bound k)) first count (λ k p q. rw (room_is n h bound k (omega arith)) refl)) refl
  where
    inside : nat_le (first + count) n ≡ true
    inside = grind (arith, nat_tests)

-- where the search finds no place, the classes below the bound don't make room
pub no_place : (n : ℕ) (h : Heap) (bound count : ℕ) → NowhereBefore h bound count (n - count + 1) → nat_lt (lowest_place n h count (classes_below n h bound)) n ≡ false
no_place n h bound count none = rw (least_none (fits n h (classes_below n h bound) count) n (λ k l. at k (nat_le (k + count) n) refl)) (le-ltb n n (omega arith))
  where
    at : (k : ℕ) (b : Bool) → nat_le (k + count) n ≡ b → fits n h (classes_below n h bound) count k ≡ false
    at k false e = rw e refl
    at k true e = let l : k + count ≤ n = grind (arith, nat_tests) in fits_is n h bound count k l ∙ none k (omega (arith, l))

-- and the place that it finds is the lowest
pub place_is : (n : ℕ) (h : Heap) (bound count first : ℕ) → 0 < count → first + count ≤ n → are_available h bound first count ≡ true → NowhereBefore h bound count first
    → lowest_place n h count (classes_below n h bound) ≡ first
place_is n h bound count first some l e none =
    least_at (fits n h (classes_below n h bound) count) n first (omega arith) (fits_is n h bound count first l ∙ e) (λ j m. fits_is n h bound count j (omega arith) ∙ none j m)
