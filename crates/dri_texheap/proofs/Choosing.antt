-- The choice of a run.
use Rattle.std.proofs.Common.{◌≡◌, ◌<◌, ◌≤◌, ◌+◌, ◌-◌, ℕ, zero, suc, Bool, true, false, not, arith, refl, sym, ◌∙◌, inl, inr}
use Rattle.std.specs.Prelude.{◌⊎◌, ◌==◌, ◌&&◌, ◌||◌, nat_lt, nat_le, Option, Some, None}
use Rattle.std.proofs.lemmas.Bool.{true≢false, cases_eq, and_parts}
use Rattle.std.proofs.lemmas.Bool.Decides.{nat_tests}
use Rattle.dri_model.specs.Heaps.{Heap, leads_class, lowest_place, classes_for}
use Rattle.dri_model.proofs.Counts.{how_many_all}
use Rattle.dri_texheap.specs.Search.{is_available, are_available, lesser_age, least_age, classes_below, NowhereBefore, IsSought, IsChosen}
use Rattle.dri_texheap.proofs.Counted.{any_none, how_many_none, how_many_one, least_none, least_at}
use Rattle.dri_texheap.proofs.Classes.{leader, leader_used, one_leader, fits_is, no_place, place_is}

-- one region that isn't available spoils each longer row
pub spoilt : (h : Heap) (bound first j k : ℕ) → j < k → is_available h bound (first + j) ≡ false → are_available h bound first k ≡ false
spoilt h bound first j zero l a = absurd (omega arith)
spoilt h bound first j (suc k) l a = by (cases_eq j k) (λ m. spoilt h bound first j k m a)
  where
    by : (j ≡ k) ⊎ (j ≡ k → ⊥) → (j < k → are_available h bound first k ≡ false) → are_available h bound first (suc k) ≡ false
    by (inl same) below = let e : is_available h bound (first + k) ≡ false = rw same at a in rw e refl
    by (inr other) below = longer _ (not (is_available h bound (first + k))) (below (omega (arith, other)))
      where
        longer : (b c : Bool) → not b ≡ false → not (c || b) ≡ false
        longer true true e = refl
        longer true false e = refl
        longer false c e = absurd (true≢false e)

-- what the least age is: some region in use has it, and none has a lesser one from the bound on
pub record IsLeast (h : Heap) (bound n a : ℕ) : Type 0 where
  pub region : ℕ
  pub below : region < n
  pub used : h.used region ≡ true
  pub age : h.age region ≡ a
  pub high : bound ≤ a
  pub lowest : (k : ℕ) → k < n → h.used k ≡ true → bound ≤ h.age k → a ≤ h.age k

pub none_left : (h : Heap) (bound n k : ℕ) → least_age h bound n ≡ None → k < n → h.used k ≡ true → h.age k < bound
none_left h bound zero k e l u = absurd (omega arith)
none_left h bound (suc n) k e l u = by (h.used n && nat_le bound (h.age n)) refl (none_left h bound n k)
  where
    some : (o : Option ℕ) (a : ℕ) → lesser_age o a ≡ None → ⊥
    some None a f = cc
    some (Some x) a f = go (nat_lt a x) refl f
      where
        go : (t : Bool) → nat_lt a x ≡ t → lesser_age (Some x) a ≡ None → ⊥
        go true p f = let q = rw p at f in cc
        go false p f = let q = rw p at f in cc

    by : (t : Bool) → (h.used n && nat_le bound (h.age n)) ≡ t → (least_age h bound n ≡ None → k < n → h.used k ≡ true → h.age k < bound) → h.age k < bound
    by true p more = absurd (some (least_age h bound n) (h.age n) (rw p at e))
    by false p more = at (cases_eq k n) (rw p at e)
      where
        at : (k ≡ n) ⊎ (k ≡ n → ⊥) → least_age h bound n ≡ None → h.age k < bound
        at (inr other) f = more f (omega (arith, other)) u
        at (inl same) f = let v : h.used n ≡ true = rw same at u in let g : nat_le bound (h.age n) ≡ false = rw v at p in rw same (low (h.age n) g)
          where
            low : (a : ℕ) → nat_le bound a ≡ false → a < bound
            low a g = grind (arith, nat_tests)

pub least_is : (h : Heap) (bound n a : ℕ) → least_age h bound n ≡ Some a → IsLeast h bound n a
least_is h bound zero a e = cc
least_is h bound (suc n) a e = by (least_is h bound n) (h.used n && nat_le bound (h.age n)) refl
  where
    low : (x : ℕ) → nat_le bound x ≡ false → x < bound
    low x g = grind (arith, nat_tests)

    high : (x : ℕ) → nat_le bound x ≡ true → bound ≤ x
    high x g = grind (arith, nat_tests)

    passed : (h.used n && nat_le bound (h.age n)) ≡ false → IsLeast h bound n a → IsLeast h bound (suc n) a
    passed p r = record {
      region = r.region;
      below = omega (arith, r.below);
      used = r.used;
      age = r.age;
      high = r.high;
      lowest = λ k l u g. last k l u g (cases_eq k n);
    }
      where
        last : (k : ℕ) → k < suc n → h.used k ≡ true → bound ≤ h.age k → (k ≡ n) ⊎ (k ≡ n → ⊥) → a ≤ h.age k
        last k l u g (inr other) = r.lowest k (omega (arith, other)) u g
        last k l u g (inl same) = let v : h.used n ≡ true = rw same at u in let f : nat_le bound (h.age n) ≡ false = rw v at p in let q : bound ≤ h.age n = rw same at g in absurd (omega (arith, low (h.age n) f, q))

    first : h.used n ≡ true → bound ≤ h.age n → least_age h bound n ≡ None → h.age n ≡ a → IsLeast h bound (suc n) a
    first u b o same = record {
      region = n;
      below = omega arith;
      used = u;
      age = same;
      high = omega (arith, b, same);
      lowest = λ k l v g. last k l v g (cases_eq k n);
    }
      where
        last : (k : ℕ) → k < suc n → h.used k ≡ true → bound ≤ h.age k → (k ≡ n) ⊎ (k ≡ n → ⊥) → a ≤ h.age k
        last k l v g (inr other) = absurd (omega (arith, none_left h bound n k o (omega (arith, other)) v, g))
        last k l v g (inl same_place) = rw same_place (omega (arith, same))

    lesser : h.used n ≡ true → bound ≤ h.age n → (x : ℕ) → h.age n < x → IsLeast h bound n x → h.age n ≡ a → IsLeast h bound (suc n) a
    lesser u b x less r same = record {
      region = n;
      below = omega arith;
      used = u;
      age = same;
      high = omega (arith, b, same);
      lowest = λ k l v g. last k l v g (cases_eq k n);
    }
      where
        last : (k : ℕ) → k < suc n → h.used k ≡ true → bound ≤ h.age k → (k ≡ n) ⊎ (k ≡ n → ⊥) → a ≤ h.age k
        last k l v g (inr other) = omega (arith, r.lowest k (omega (arith, other)) v g, less, same)
        last k l v g (inl same_place) = rw same_place (omega (arith, same))

    greater : a ≤ h.age n → IsLeast h bound n a → IsLeast h bound (suc n) a
    greater more r = record {
      region = r.region;
      below = omega (arith, r.below);
      used = r.used;
      age = r.age;
      high = r.high;
      lowest = λ k l v g. last k l v g (cases_eq k n);
    }
      where
        last : (k : ℕ) → k < suc n → h.used k ≡ true → bound ≤ h.age k → (k ≡ n) ⊎ (k ≡ n → ⊥) → a ≤ h.age k
        last k l v g (inr other) = r.lowest k (omega (arith, other)) v g
        last k l v g (inl same_place) = rw same_place more

    by : ((x : ℕ) → least_age h bound n ≡ Some x → IsLeast h bound n x) → (t : Bool) → (h.used n && nat_le bound (h.age n)) ≡ t → IsLeast h bound (suc n) a
    by below false p = passed p (below a (rw p at e))
    by below true p = option (least_age h bound n) refl (rw p at e)
      where
        parts : (h.used n ≡ true) × (nat_le bound (h.age n) ≡ true)
        parts = and_parts (h.used n) (nat_le bound (h.age n)) p

        same : (x y : ℕ) → Some x ≡ Some y → x ≡ y
        same x y f = cc

        option : (o : Option ℕ) → least_age h bound n ≡ o → lesser_age (least_age h bound n) (h.age n) ≡ Some a → IsLeast h bound (suc n) a
        option None o f = first parts.0 (high (h.age n) parts.1) o (same (h.age n) a (rw o at f))
        option (Some x) o f = test (nat_lt (h.age n) x) refl (rw o at f)
          where
            test : (t : Bool) → nat_lt (h.age n) x ≡ t → lesser_age (Some x) (h.age n) ≡ Some a → IsLeast h bound (suc n) a
            test true q g = lesser parts.0 (high (h.age n) parts.1) x (less (h.age n) q) (below x o) (same (h.age n) a (rw q at g))
              where
                less : (b : ℕ) → nat_lt b x ≡ true → b < x
                less b q = grind (arith, nat_tests)
            test false q g = let z : x ≡ a = same x a (rw q at g) in greater (omega (arith, more (h.age n) q, z)) (below a (o ∙ ap_some z))
              where
                more : (b : ℕ) → nat_lt b x ≡ false → x ≤ b
                more b q = grind (arith, nat_tests)

                ap_some : x ≡ a → Some x ≡ Some a
                ap_some z = rw z refl

-- where no age is left every region is available
pub no_choice : (h : Heap) (bound n count : ℕ) → count ≤ n → NowhereBefore h bound count (n - count + 1) → least_age h bound n ≡ None → ⊥
no_choice h bound n count l none e = true≢false (sym all ∙ none 0 (omega arith))
  where
    at : (k : ℕ) (b : Bool) → h.used k ≡ b → k < n → not (is_available h bound k) ≡ false
    at k false u m = rw u refl
    at k true u m = let f : nat_lt (h.age k) bound ≡ true = less (h.age k) (none_left h bound n k e m u) in rw (u, f) refl
      where
        less : (a : ℕ) → a < bound → nat_lt a bound ≡ true
        less a p = grind (arith, nat_tests)

    all : are_available h bound 0 count ≡ true
    all = rw (any_none (λ k. not (is_available h bound k)) 0 count (λ k p q. at k (h.used k) refl (omega arith))) refl

pub sought_none : (n : ℕ) (h : Heap) (count : ℕ) → IsSought n h count 0
sought_none n h count = record { short = λ m l. absurd (omega (arith, none)); positive = rw none refl }
  where
    never : (c : Bool) (a : ℕ) → (c && nat_lt a 0) ≡ false
    never c a = grind (arith, nat_tests)

    none : classes_below n h 0 ≡ 0
    none = how_many_none (λ j. leads_class h j && nat_lt (h.age j) 0) n (λ k l. never (leads_class h k) (h.age k))

-- the bound above the least age left has one class more below it
pub one_more : (n : ℕ) (h : Heap) (bound a : ℕ) → IsLeast h bound n a → classes_below n h (a + 1) ≡ suc (classes_below n h bound)
one_more n h bound a r = how_many_one (λ j. leads_class h j && nat_lt (h.age j) bound) (λ j. leads_class h j && nat_lt (h.age j) (a + 1)) n s.0 (omega (arith, s.1, r.below)) before after others
  where
    s : (j : ℕ) × (j ≤ r.region) × (leads_class h j ≡ true) × (h.age j ≡ h.age r.region)
    s = leader h (suc r.region) r.region (omega arith) r.used

    age_is : h.age s.0 ≡ a
    age_is = s.3 ∙ r.age

    before : (leads_class h s.0 && nat_lt (h.age s.0) bound) ≡ false
    before = let e : nat_lt a bound ≡ false = no a r.high in rw (s.2, age_is, e) refl
      where
        no : (a : ℕ) → bound ≤ a → nat_lt a bound ≡ false
        no a p = grind (arith, nat_tests)

    after : (leads_class h s.0 && nat_lt (h.age s.0) (a + 1)) ≡ true
    after = let e : nat_lt a (a + 1) ≡ true = yes a in rw (s.2, age_is, e) refl
      where
        yes : (a : ℕ) → nat_lt a (a + 1) ≡ true
        yes a = grind (arith, nat_tests)

    others : (k : ℕ) → k < n → (k ≡ s.0 → ⊥) → (leads_class h k && nat_lt (h.age k) bound) ≡ (leads_class h k && nat_lt (h.age k) (a + 1))
    others k l other = by (leads_class h k) refl
      where
        by : (b : Bool) → leads_class h k ≡ b → (leads_class h k && nat_lt (h.age k) bound) ≡ (leads_class h k && nat_lt (h.age k) (a + 1))
        by false e = rw e refl
        by true e = rw e (tests (h.age k) r.high (λ p. r.lowest k l (leader_used h k e) p) (λ p. other (one_leader h k s.0 e s.2 (p ∙ sym age_is))))
          where
            tests : (x : ℕ) → bound ≤ a → (bound ≤ x → a ≤ x) → (x ≡ a → ⊥) → nat_lt x bound ≡ nat_lt x (a + 1)
            tests x p q ne = grind (arith, nat_tests)

pub sought_more : (n : ℕ) (h : Heap) (count bound a : ℕ) → IsSought n h count bound → NowhereBefore h bound count (n - count + 1) → least_age h bound n ≡ Some a → IsSought n h count (a + 1)
sought_more n h count bound a s none e = record {
  short = λ m l. by m l (cases_eq m (classes_below n h bound));
  positive = rw more (positives (classes_below n h bound) a);
}
  where
    more : classes_below n h (a + 1) ≡ suc (classes_below n h bound)
    more = one_more n h bound a (least_is h bound n a e)

    positives : (c a : ℕ) → nat_lt 0 (suc c) ≡ nat_lt 0 (a + 1)
    positives c a = grind (arith, nat_tests)

    by : (m : ℕ) → m < classes_below n h (a + 1) → (m ≡ classes_below n h bound) ⊎ (m ≡ classes_below n h bound → ⊥) → nat_lt (lowest_place n h count m) n ≡ false
    by m l (inl same) = rw same (no_place n h bound count none)
    by m l (inr other) = s.short m (omega (arith, l, more, other))

-- the first bound with a place is that of the rule
pub chosen : (n : ℕ) (h : Heap) (count bound first : ℕ) → IsSought n h count bound → 0 < count → first + count ≤ n → are_available h bound first count ≡ true → NowhereBefore h bound count first
    → IsChosen n h count bound first
chosen n h count bound first s some l e none = record {
  classes = classes;
  positive = s.positive;
  place = rw (classes, fits_is n h bound count first l, e, place) same;
}
  where
    place : lowest_place n h count (classes_below n h bound) ≡ first
    place = place_is n h bound count first some l e none

    same : ((first == first) && true) ≡ true
    same = grind (arith, nat_tests)

    c : ℕ
    c = classes_below n h bound

    here : nat_lt (lowest_place n h count c) n ≡ true
    here = rw place (less first n (omega arith))
      where
        less : (a b : ℕ) → a < b → nat_lt a b ≡ true
        less a b p = grind (arith, nat_tests)

    classes : classes_for n h count ≡ classes_below n h bound
    classes = by (cases_eq c n)
      where
        most : c ≤ n
        most = how_many_all (λ j. leads_class h j && nat_lt (h.age j) bound) n

        by : (c ≡ n) ⊎ (c ≡ n → ⊥) → classes_for n h count ≡ c
        by (inr other) = least_at (λ m. nat_lt (lowest_place n h count m) n) n c (omega (arith, most, other)) here (λ j m. s.short j m)
        by (inl all) = least_none (λ m. nat_lt (lowest_place n h count m) n) n (λ k m. s.short k (omega (arith, m, all))) ∙ sym all
