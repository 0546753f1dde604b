-- The entries form one list.
use Rattle.std.proofs.Common.{◌≡◌, ◌<◌, ◌≤◌, ◌+◌, ℕ, zero, suc, Bool, true, false, arith, refl, sym, ◌∙◌, ap, subst, inl, inr}
use Rattle.std.specs.Prelude.{Option, Some, None, ◌⊎◌, ◌==◌}
use Rattle.std.proofs.lemmas.Bool.{true≢false, cases_eq, ne_eqb}
use Rattle.std.proofs.lemmas.Bool.Decides.{nat_tests}
use Rattle.dri_model.specs.Counting.{how_many}
use Rattle.dri_model.specs.Heaps.{Heap}
use Rattle.dri_texheap.specs.declared.links.Direction.{Direction}
use Rattle.dri_texheap.specs.declared.links.Direction.TheVariants.{Onward, Backward}
use Rattle.dri_texheap.specs.Ring.{foremost, goes, follows, Nearest, entry, met, IsOneList}
use Rattle.dri_texheap.proofs.Counted.{how_many_none, how_many_one, how_many_more}
use Rattle.dri_texheap.proofs.Ordering.{before_self, before_other, before_back, nearest_first, nearest_not, nearest_new, nearest_old, nearest_same, foremost_none, foremost_some}

-- the other way along the list
abbrev opposite : Direction → Direction
opposite Onward = Backward
opposite Backward = Onward

turned : (h : Heap) (d : Direction) (j k : ℕ) → goes h (opposite d) j k ≡ goes h d k j
turned h Onward j k = refl
turned h Backward j k = refl

-- all stand behind the head, and behind a region those that it goes before
head_follows : (n : ℕ) (h : Heap) (d : Direction) (j : ℕ) → follows n h d n j ≡ true
head_follows n h d j = let e : (n == n) ≡ true = grind (arith, nat_tests) in rw e refl

region_follows : (n : ℕ) (h : Heap) (d : Direction) (i j : ℕ) → (i ≡ n → ⊥) → follows n h d i j ≡ goes h d i j
region_follows n h d i j f = let e : (i == n) ≡ false = ne_eqb i n f in rw e refl

-- of the regions below m one is the nearest, or none follows
nearest_of : (n : ℕ) (h : Heap) (d : Direction) (i m : ℕ) → (o : Option ℕ) × Nearest n h d i m o
nearest_of n h d i zero = (None, λ j l. absurd (omega (arith, l)))
nearest_of n h d i (suc m) = let r = nearest_of n h d i m in by r.0 r.1 (follows n h d i m) refl
  where
    up : (o : Option ℕ) → Nearest n h d i (m + 1) o → Nearest n h d i (suc m) o
    up o is = let e : m + 1 ≡ suc m = omega arith in subst (λ (k : ℕ). Nearest n h d i k o) e is

    nearer : (o : ℕ) → Nearest n h d i m (Some o) → follows n h d i m ≡ true → (b : Bool) → goes h d m o ≡ b → (p : Option ℕ) × Nearest n h d i (suc m) p
    nearer o is e true f = (Some m, up (Some m) (nearest_new n h d i m o is e f))
    nearer o is e false f = (Some o, up (Some o) (nearest_old n h d i m o is f))

    by : (o : Option ℕ) → Nearest n h d i m o → (b : Bool) → follows n h d i m ≡ b → (p : Option ℕ) × Nearest n h d i (suc m) p
    by None is true e = (Some m, up (Some m) (nearest_first n h d i m is e))
    by None is false e = (None, up None (nearest_not n h d i m is e))
    by (Some o) is true e = nearer o is e (goes h d m o) refl
    by (Some o) is false e = (Some o, up (Some o) (nearest_same n h d i m o is e))

-- the entry that an entry is followed by in that direction
abbrev linked : ℕ → Heap → Direction → ℕ → ℕ
linked n h d i = foremost n (goes h d) (follows n h d i)

-- the two directions undo each other
undone : (n : ℕ) (h : Heap) (d : Direction) (i : ℕ) → i ≤ n → linked n h (opposite d) (linked n h d i) ≡ i
undone n h d i l = let r = nearest_of n h d i n in by r.0 r.1 (cases_eq i n)
  where
    last : (i ≡ n → ⊥) → Nearest n h d i n None → linked n h (opposite d) n ≡ i
    last f is = foremost_some n h (opposite d) n i (omega (arith, f), head_follows n h (opposite d) i, λ k m e. turned h d k i ∙ sym (region_follows n h d i k f) ∙ is k m)

    none : i ≡ n → Nearest n h d i n None → linked n h (opposite d) n ≡ i
    none same is = foremost_none n h (opposite d) n (λ j m. absurd (true≢false (sym (head_follows n h d j) ∙ ap (λ (k : ℕ). follows n h d k j) (sym same) ∙ is j m))) ∙ sym same

    first : (j : ℕ) → i ≡ n → Nearest n h d i n (Some j) → linked n h (opposite d) j ≡ i
    first j same is = foremost_none n h (opposite d) j (λ k m. region_follows n h (opposite d) j k (λ e. omega (arith, e, is.0)) ∙ turned h d j k ∙ is.2 k m (ap (λ (k' : ℕ). follows n h d k' k) same ∙ head_follows n h d k)) ∙ sym same

    between : (j : ℕ) → (i ≡ n → ⊥) → Nearest n h d i n (Some j) → linked n h (opposite d) j ≡ i
    between j f is = foremost_some n h (opposite d) j i (omega (arith, f), region_follows n h (opposite d) j i other ∙ turned h d j i ∙ sym (region_follows n h d i j f) ∙ is.1, behind)
      where
        other : j ≡ n → ⊥
        other e = omega (arith, e, is.0)

        behind : (k : ℕ) → k < n → follows n h (opposite d) j k ≡ true → goes h (opposite d) k i ≡ false
        behind k m e = turned h d k i ∙ at (goes h d i k) refl
          where
            at : (b : Bool) → goes h d i k ≡ b → goes h d i k ≡ false
            at false g = g
            at true g = absurd (true≢false (sym e ∙ region_follows n h (opposite d) j k other ∙ turned h d j k ∙ is.2 k m (region_follows n h d i k f ∙ g)))

    by : (o : Option ℕ) → Nearest n h d i n o → (i ≡ n) ⊎ (i ≡ n → ⊥) → linked n h (opposite d) (linked n h d i) ≡ i
    by None is (inl same) = rw (foremost_none n h d i is) (none same is)
    by None is (inr f) = rw (foremost_none n h d i is) (last f is)
    by (Some j) is (inl same) = rw (foremost_some n h d i j is) (first j same is)
    by (Some j) is (inr f) = rw (foremost_some n h d i j is) (between j f is)

-- how many regions stand before region i
abbrev rank : ℕ → Heap → ℕ → ℕ
rank n h i = how_many (λ j. goes h Onward j i) n

onward : (h : Heap) (a b c : ℕ) → goes h Onward a b ≡ true → goes h Onward b c ≡ true → goes h Onward a c ≡ true
onward h a b c e f = by (goes h Onward a c) refl
  where
    by : (t : Bool) → goes h Onward a c ≡ t → goes h Onward a c ≡ true
    by true g = g
    by false g = absurd (true≢false (sym e ∙ before_other h Onward b c a f g))

all_of : (n : ℕ) → how_many (λ j. true) n ≡ n
all_of zero = refl
all_of (suc n) = ap suc (all_of n)

rank_below : (n : ℕ) (h : Heap) (i : ℕ) → i < n → rank n h i < n
rank_below n h i l = let m = how_many_more (λ j. goes h Onward j i) (λ j. true) n i l (before_self h Onward i) refl (λ k b e. refl) in let a = all_of n in omega (arith, m, a)

rank_less : (n : ℕ) (h : Heap) (i j : ℕ) → i < n → goes h Onward i j ≡ true → rank n h i < rank n h j
rank_less n h i j l e = how_many_more (λ k. goes h Onward k i) (λ k. goes h Onward k j) n i l (before_self h Onward i) e (λ k m f. onward h k i j f e)

rank_only : (n : ℕ) (h : Heap) (i j : ℕ) → i < n → j < n → rank n h i ≡ rank n h j → i ≡ j
rank_only n h i j l m e = by (cases_eq i j)
  where
    apart : (i ≡ j → ⊥) → (b : Bool) → goes h Onward i j ≡ b → i ≡ j
    apart f true g = absurd (let r = rank_less n h i j l g in omega (arith, r, e))
    apart f false g = absurd (let r = rank_less n h j i m (before_back h Onward i j f g) in omega (arith, r, e))

    by : (i ≡ j) ⊎ (i ≡ j → ⊥) → i ≡ j
    by (inl same) = same
    by (inr f) = apart f (goes h Onward i j) refl

-- the nearest behind a region has one more before it, and where none is behind it all others are before it
rank_next : (n : ℕ) (h : Heap) (i j : ℕ) → i < n → Nearest n h Onward i n (Some j) → rank n h j ≡ suc (rank n h i)
rank_next n h i j l is = how_many_one (λ k. goes h Onward k i) (λ k. goes h Onward k j) n i l (before_self h Onward i) ahead same
  where
    here : i ≡ n → ⊥
    here e = omega (arith, e, l)

    ahead : goes h Onward i j ≡ true
    ahead = sym (region_follows n h Onward i j here) ∙ is.1

    same : (k : ℕ) → k < n → (k ≡ i → ⊥) → goes h Onward k i ≡ goes h Onward k j
    same k m f = by (goes h Onward k i) refl
      where
        by : (b : Bool) → goes h Onward k i ≡ b → goes h Onward k i ≡ goes h Onward k j
        by true e = e ∙ sym (onward h k i j e ahead)
        by false e = e ∙ sym (is.2 k m (region_follows n h Onward i k here ∙ before_back h Onward k i f e))

rank_last : (n : ℕ) (h : Heap) (i : ℕ) → i < n → Nearest n h Onward i n None → n ≡ suc (rank n h i)
rank_last n h i l is = sym (all_of n) ∙ how_many_one (λ k. goes h Onward k i) (λ k. true) n i l (before_self h Onward i) refl (λ k m f. before_back h Onward i k (λ e. f (sym e)) (sym (region_follows n h Onward i k (λ e. omega (arith, e, l))) ∙ is k m))

-- after the head and k more the region is met with k before it
met_rank : (n : ℕ) (h : Heap) (k : ℕ) → k < n → (met n (entry n h) (suc k) < n) × (rank n h (met n (entry n h) (suc k)) ≡ k)
met_rank n h zero l = let r = nearest_of n h Onward n n in by r.0 r.1
  where
    by : (o : Option ℕ) → Nearest n h Onward n n o → (linked n h Onward n < n) × (rank n h (linked n h Onward n) ≡ 0)
    by None is = absurd (true≢false (sym (head_follows n h Onward 0) ∙ is 0 l))
    by (Some j) is = rw (foremost_some n h Onward n j is) (is.0, how_many_none (λ k. goes h Onward k j) n (λ k m. is.2 k m (head_follows n h Onward k)))
met_rank n h (suc k) l = let m = met_rank n h k (omega arith) in let r = nearest_of n h Onward (met n (entry n h) (suc k)) n in by (met n (entry n h) (suc k)) m.0 m.1 r.0 r.1
  where
    by : (w : ℕ) → w < n → rank n h w ≡ k → (o : Option ℕ) → Nearest n h Onward w n o → (linked n h Onward w < n) × (rank n h (linked n h Onward w) ≡ suc k)
    by w b e None is = absurd (let s = rank_last n h w b is in omega (arith, s, e, l))
    by w b e (Some j) is = rw (foremost_some n h Onward w j is) (is.0, rank_next n h w j b is ∙ ap suc e)

-- and then the head comes again
met_round : (n : ℕ) (h : Heap) → met n (entry n h) (suc n) ≡ n
met_round zero h = let r = nearest_of 0 h Onward 0 0 in by r.0 r.1
  where
    by : (o : Option ℕ) → Nearest 0 h Onward 0 0 o → linked 0 h Onward 0 ≡ 0
    by None is = foremost_none 0 h Onward 0 is
    by (Some j) is = absurd (omega (arith, is.0))
met_round (suc n) h = let m = met_rank (suc n) h n (omega arith) in let r = nearest_of (suc n) h Onward (met (suc n) (entry (suc n) h) (suc n)) (suc n) in by (met (suc n) (entry (suc n) h) (suc n)) m.0 m.1 r.0 r.1
  where
    by : (w : ℕ) → w < suc n → rank (suc n) h w ≡ n → (o : Option ℕ) → Nearest (suc n) h Onward w (suc n) o → linked (suc n) h Onward w ≡ suc n
    by w b e None is = foremost_none (suc n) h Onward w is
    by w b e (Some j) is = absurd (let s = rank_next (suc n) h w j b is in let t = rank_below (suc n) h j is.0 in omega (arith, s, e, t))

met_each : (n : ℕ) (h : Heap) (i : ℕ) → i ≤ n → (k : ℕ) × (k ≤ n) × (met n (entry n h) k ≡ i)
met_each n h i l = by (cases_eq i n)
  where
    by : (i ≡ n) ⊎ (i ≡ n → ⊥) → (k : ℕ) × (k ≤ n) × (met n (entry n h) k ≡ i)
    by (inl same) = (0, omega arith, sym same)
    by (inr f) =
        let b : i < n = omega (arith, f) in
        let r = rank_below n h i b in
        let m = met_rank n h (rank n h i) r in
        (suc (rank n h i), omega (arith, r), rank_only n h (met n (entry n h) (suc (rank n h i))) i m.0 b m.1)

met_once : (n : ℕ) (h : Heap) (j k : ℕ) → j ≤ n → k ≤ n → met n (entry n h) j ≡ met n (entry n h) k → j ≡ k
met_once n h zero zero l m e = refl
met_once n h zero (suc k) l m e = absurd (let r = met_rank n h k (omega arith) in omega (arith, r.0, e))
met_once n h (suc j) zero l m e = absurd (let r = met_rank n h j (omega arith) in omega (arith, r.0, e))
met_once n h (suc j) (suc k) l m e =
    let r = met_rank n h j (omega arith) in
    let s = met_rank n h k (omega arith) in
    ap suc (sym r.1 ∙ ap (rank n h) e ∙ s.1)

pub one_list : (n : ℕ) (h : Heap) → IsOneList n (entry n h)
one_list n h = record {
  back = undone n h Onward;
  onward = undone n h Backward;
  each = met_each n h;
  once = met_once n h;
  round = met_round n h;
}
