-- Stamps, number by number.
use Rattle.std.proofs.Common.{◌≡◌, ℕ, zero, suc, ◌<◌, ◌≤◌, ◌+◌, length, set, List, [], ◌∷◌, ◌++◌, filter, Bool, true, false, cond, arith, refl, sym, ◌∙◌, ap, subst, inl, inr}
use Rattle.std.specs.Prelude.{◌&&◌, nat_lt, ◌==◌, if◌then◌else◌, slice_index_or, All}
use Rattle.std.specs.List.{range_with_len}
use Rattle.std.proofs.lemmas.Bool.{cases_eq, cases_lt, le-ltb, lt-ltb, ne_eqb}
use Rattle.std.proofs.lemmas.List.{length-set, get_or-set_same, get_or-set_other}
use Rattle.std.proofs.lemmas.List.Elements.{filter-append}
use Rattle.dri_base.specs.declared.scene.Window.{Window}
use Rattle.dri_base.specs.Ranges.{IsWithin, WindowInRange}
use Rattle.dri_model.specs.Counting.{how_many}
use Rattle.dri_model.specs.Stacks.{is_touched, restamped, touches}
use Rattle.dri_clips.specs.declared.stamps.Restamped.{Restamped}
use Rattle.dri_clips.specs.Layouts.{IsAbsent, IsRestamped, SameNumbers}
use Rattle.dri_clips.proofs.Placing.{origin_absent}
use Rattle.dri_clips.proofs.Comparing.{same_absent}

range_more : (a n : ℕ) → range_with_len a (suc n) ≡ range_with_len a n ++ (a + n) ∷ []
range_more a zero = let e : a + 0 ≡ a = omega arith in rw e refl
range_more a (suc n) = let e : a + 1 + n ≡ a + suc n = omega arith in ap (λ ns. a ∷ ns) (range_more (a + 1) n ∙ ap (λ (k : ℕ). range_with_len (a + 1) n ++ k ∷ []) e)

filter_next : (p : ℕ → Bool) (n : ℕ) → filter p (range_with_len 0 (n + 1)) ≡ filter p (range_with_len 0 n) ++ cond (p n) (n ∷ []) []
filter_next p n =
    let e : suc n ≡ n + 1 = omega arith in
    let z : 0 + n ≡ n = omega arith in
    ap (λ (k : ℕ). filter p (range_with_len 0 k)) (sym e) ∙ ap (filter p) (range_more 0 n ∙ ap (λ (k : ℕ). range_with_len 0 n ++ k ∷ []) z) ∙ filter-append p (range_with_len 0 n) (n ∷ [])

many_next : (p : ℕ → Bool) (n : ℕ) → how_many p (n + 1) ≡ (if p n then suc (how_many p n) else how_many p n)
many_next p n = let e : n + 1 ≡ suc n = omega arith in rw e refl

pub many_most : (p : ℕ → Bool) → p 0 ≡ false → (n : ℕ) → 0 < n → how_many p n < n
many_most p z zero b = absurd (omega arith)
many_most p z (suc zero) b = rw z (omega arith)
many_most p z (suc (suc n)) b = by (p (suc n)) (many_most p z (suc n) (omega arith))
  where
    by : (t : Bool) → how_many p (suc n) < suc n → (if t then suc (how_many p (suc n)) else how_many p (suc n)) < suc (suc n)
    by true h = omega arith
    by false h = omega arith

last_lt : (n : ℕ) → nat_lt n (n + 1) ≡ true
last_lt n = lt-ltb n (n + 1) (omega arith)

other_lt : (k n : ℕ) → (k ≡ n → ⊥) → nat_lt k (n + 1) ≡ nat_lt k n
other_lt k n f = elim (cases_lt k n) [
  | inl a ↦ lt-ltb k (n + 1) (omega arith) ∙ sym (lt-ltb k n a)
  | inr a ↦ let b : n + 1 ≤ k = omega (arith, f) in le-ltb k (n + 1) b ∙ sym (le-ltb k n a)
]

pub restamp_none : (p : ℕ → Bool) (start : ℕ) (were : List ℕ) (r : Restamped) → p 0 ≡ false → length were ≡ 65 → r.touched ≡ [] → r.counter ≡ start → r.stamps ≡ were → IsRestamped p 1 start were r
restamp_none p start were r z room t c s = record {
  numbers = t ∙ none;
  counter = c ∙ count;
  room = ap length s ∙ room;
  stamps = λ k. ap (λ (ns : List ℕ). slice_index_or ns k 1) s ∙ by k;
}
  where
    none : [] ≡ filter p (range_with_len 0 1)
    none = rw z refl

    count : start ≡ start + how_many p 1
    count = rw z (omega arith)

    by : (k : ℕ) → slice_index_or were k 1 ≡ (if nat_lt k 1 && p k then start + how_many p (k + 1) else slice_index_or were k 1)
    by zero = rw z refl
    by (suc k) = let e : nat_lt (suc k) 1 ≡ false = le-ltb (suc k) 1 (omega arith) in rw e refl

pub restamp_yes : (p : ℕ → Bool) (n start : ℕ) (were : List ℕ) (r s : Restamped) → IsRestamped p n start were r → p n ≡ true → n < 65 → s.touched ≡ r.touched ++ n ∷ [] → s.counter ≡ r.counter + 1 → s.stamps ≡ set r.stamps n (r.counter + 1) → IsRestamped p (n + 1) start were s
restamp_yes p n start were r s is so below t c m = record {
  numbers = t ∙ ap (λ ns. ns ++ n ∷ []) is.numbers ∙ sym (filter_next p n ∙ ap (λ b. filter p (range_with_len 0 n) ++ cond b (n ∷ []) []) so);
  counter = count;
  room = ap length m ∙ length-set r.stamps n (r.counter + 1) ∙ is.room;
  stamps = λ k. ap (λ (ns : List ℕ). slice_index_or ns k 1) m ∙ at k;
}
  where
    count : s.counter ≡ start + how_many p (n + 1)
    count = rw (many_next p n, so) (omega (arith, c, is.counter))

    at : (k : ℕ) → slice_index_or (set r.stamps n (r.counter + 1)) k 1 ≡ (if nat_lt k (n + 1) && p k then start + how_many p (k + 1) else slice_index_or were k 1)
    at k = elim (cases_eq k n) [
      | inl same ↦ rw (same, last_lt n, so) (get_or-set_same r.stamps n (r.counter + 1) 1 (omega (arith, is.room)) ∙ (sym c ∙ count))
      | inr other ↦ rw (other_lt k n other) (get_or-set_other r.stamps n k (r.counter + 1) 1 other ∙ is.stamps k)
    ]

pub restamp_no : (p : ℕ → Bool) (n start : ℕ) (were : List ℕ) (r s : Restamped) → IsRestamped p n start were r → p n ≡ false → s ≡ r → IsRestamped p (n + 1) start were s
restamp_no p n start were r s is not_so e = subst (λ (t : Restamped). IsRestamped p (n + 1) start were t) (sym e) (record {
  numbers = is.numbers ∙ sym (filter_next p n ∙ ap (λ b. filter p (range_with_len 0 n) ++ cond b (n ∷ []) []) not_so ∙ append_none (filter p (range_with_len 0 n)));
  counter = rw (many_next p n, not_so) is.counter;
  room = is.room;
  stamps = at;
})
  where
    append_none : (ns : List ℕ) → ns ++ [] ≡ ns
    append_none [] = refl
    append_none (m ∷ ns) = ap (λ ms. m ∷ ms) (append_none ns)

    never : nat_lt n n ≡ false
    never = le-ltb n n (omega arith)

    at : (k : ℕ) → slice_index_or r.stamps k 1 ≡ (if nat_lt k (n + 1) && p k then start + how_many p (k + 1) else slice_index_or were k 1)
    at k = elim (cases_eq k n) [
      | inl same ↦ rw (same, last_lt n, not_so) (is.stamps n ∙ by)
      | inr other ↦ rw (other_lt k n other) (is.stamps k)
    ]
      where
        by : (if nat_lt n n && p n then start + how_many p (n + 1) else slice_index_or were n 1) ≡ slice_index_or were n 1
        by = rw never refl

-- numbers that no window has
absent_out : (n : ℕ) (ws : List Window) → ((k : ℕ) → IsWithin 1 64 k → (k == n) ≡ false) → All WindowInRange ws → IsAbsent n ws
absent_out n [] f all = tt
absent_out n (w ∷ ws) f all = (f w.number (all 0 w (omega arith)).numbered, absent_out n ws f (λ j d b. all (suc j) d (omega arith)))

untouched : (width height n : ℕ) (old new : List Window) → IsAbsent n old → IsAbsent n new → is_touched width height old new n ≡ false
untouched width height n old new a b = rw (← same_absent width height n old new a b, origin_absent n old a, origin_absent n new b) refl

pub touched_none : (width height : ℕ) (old new : List Window) → All WindowInRange old → SameNumbers old new → is_touched width height old new 0 ≡ false
touched_none width height old new ranged same = let gone : IsAbsent 0 old = absent_out 0 old out ranged in untouched width height 0 old new gone ((same 0).0 gone)
  where
    out : (k : ℕ) → IsWithin 1 64 k → (k == 0) ≡ false
    out k w = ne_eqb k 0 (λ e. omega (arith, w.0))

-- there are 64 numbers that a window may have
pub touches_most : (width height : ℕ) (old new : List Window) → All WindowInRange old → SameNumbers old new → touches width height old new ≤ 64
touches_most width height old new ranged same =
    let gone : IsAbsent 0 old = absent_out 0 old (λ k w. ne_eqb k 0 (λ e. omega (arith, w.0))) ranged in
    let below = many_most (is_touched width height old new) (untouched width height 0 old new gone ((same 0).0 gone)) 65 (omega arith) in
    omega (arith, below)

touched_far : (width height : ℕ) (old new : List Window) (n : ℕ) → All WindowInRange old → SameNumbers old new → 65 ≤ n → is_touched width height old new n ≡ false
touched_far width height old new n ranged same far = let gone : IsAbsent n old = absent_out n old out ranged in untouched width height n old new gone ((same n).0 gone)
  where
    out : (k : ℕ) → IsWithin 1 64 k → (k == n) ≡ false
    out k w = ne_eqb k n (λ e. omega (arith, w.1))

-- all stamps
pub all_stamps : (width height : ℕ) (old new : List Window) (start : ℕ) (were : List ℕ) (r : Restamped) → All WindowInRange old → SameNumbers old new → IsRestamped (is_touched width height old new) 65 start were r → (n : ℕ) → slice_index_or r.stamps n 1 ≡ restamped width height old new start (λ k. slice_index_or were k 1) n
all_stamps width height old new start were r ranged same is n = is.stamps n ∙ (elim (cases_lt n 65) [
  | inl below ↦ let e : nat_lt n 65 ≡ true = lt-ltb n 65 below in rw e refl
  | inr far ↦ let e : nat_lt n 65 ≡ false = le-ltb n 65 far in rw (e, touched_far width height old new n ranged same far) refl
])
