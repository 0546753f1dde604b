-- What a call leaves, as a heap.
use Rattle.std.proofs.Common.{◌≡◌, ◌<◌, ◌≤◌, ◌+◌, ℕ, zero, suc, List, Bool, true, false, not, arith, refl, sym, ◌∙◌, get_or, replicate}
use Rattle.std.specs.Prelude.{◌==◌, ◌&&◌, ◌||◌, nat_lt, if◌then◌else◌}
use Rattle.std.proofs.lemmas.Bool.{true≢false}
use Rattle.std.proofs.lemmas.Bool.Decides.{nat_tests}
use Rattle.dri_model.specs.Heaps.{Heap, Run, in_run, classes_for, age_freed, freed_for, allocated}
use Rattle.dri_texheap.specs.RegionStates.{heap_from, heap_of, is_within, IsHeap}
use Rattle.dri_texheap.specs.Search.{is_old, classes_below, IsChosen}
use Rattle.dri_texheap.proofs.Classes.{older_is}

abbrev pub heap : ℕ → (ℕ → Bool) → (ℕ → Bool) → (ℕ → ℕ) → Heap
heap global used shared age = record { global = global; used = used; shared = shared; age = age }

-- heaps with the same uses, marks and ages are the same
pub same_heap : (global other : ℕ) (used uses shared marks : ℕ → Bool) (age ages : ℕ → ℕ) → global ≡ other → ((k : ℕ) → used k ≡ uses k) → ((k : ℕ) → shared k ≡ marks k) → ((k : ℕ) → age k ≡ ages k)
    → heap global used shared age ≡ heap other uses marks ages
same_heap global other used uses shared marks age ages g u s a = λ i. record { global = g i; used = λ k. u k i; shared = λ k. s k i; age = λ k. a k i }

pub zeros : (n i : ℕ) → get_or {A = ℕ} (replicate n 0) i 0 ≡ 0
zeros zero i = refl
zeros (suc n) zero = refl
zeros (suc n) (suc i) = zeros n i

pub falses : (n i : ℕ) → get_or {A = Bool} (replicate n false) i false ≡ false
falses zero i = refl
falses (suc n) zero = refl
falses (suc n) (suc i) = falses n i

-- new regions
pub new_regions : (count : ℕ) → 0 < count → count ≤ 64 → IsHeap (record { count = count; global = 0; used = replicate 64 false; shared = replicate 64 false; ages = replicate 64 0 })
new_regions count p q = record { some = p; most = q; aged = λ k. omega (arith, zeros 64 k); unused = λ k l. falses 64 k; ageless = λ k l. zeros 64 k }

pub new_heap : (count : ℕ) → heap_of (record { count = count; global = 0; used = replicate 64 false; shared = replicate 64 false; ages = replicate 64 0 }) ≡ heap 0 (λ k. false) (λ k. false) (λ k. 0)
new_heap count = same_heap 0 0 (λ k. get_or {A = Bool} (replicate 64 false) k false) (λ k. false) (λ k. get_or {A = Bool} (replicate 64 false) k false) (λ k. false) (λ k. get_or {A = ℕ} (replicate 64 0) k 0) (λ k. 0) refl (falses 64) (falses 64) (zeros 64)

-- what an allocation frees
pub freed_is : (n : ℕ) (h : Heap) (count bound k : ℕ) → ((k : ℕ) → n ≤ k → h.used k ≡ false) → classes_for n h count ≡ classes_below n h bound → freed_for n h count k ≡ (h.used k && nat_lt (h.age k) bound)
freed_is n h count bound k unused classes = by (h.used k) refl (nat_lt k n) refl
  where
    by : (b : Bool) → h.used k ≡ b → (c : Bool) → nat_lt k n ≡ c → freed_for n h count k ≡ (h.used k && nat_lt (h.age k) bound)
    by false u c e = rw u refl
    by true u true e = rw (u, classes) (older_is n h bound k (less k e) u)
      where
        less : (k : ℕ) → nat_lt k n ≡ true → k < n
        less k e = grind (arith, nat_tests)
    by true u false e = absurd (true≢false (sym u ∙ unused k (more k e)))
      where
        more : (k : ℕ) → nat_lt k n ≡ false → n ≤ k
        more k e = grind (arith, nat_tests)

pub age_freed_is : (n : ℕ) (h : Heap) (count bound age : ℕ) → classes_for n h count ≡ classes_below n h bound → nat_lt 0 (classes_below n h bound) ≡ nat_lt 0 bound
    → age ≡ (if nat_lt 0 bound then h.global + 1 else h.global) → age_freed n h count ≡ age
age_freed_is n h count bound age classes positive is = rw classes (by (classes_below n h bound) positive)
  where
    by : (c : ℕ) → nat_lt 0 c ≡ nat_lt 0 bound → (if c == 0 then h.global else suc h.global) ≡ age
    by c p = grind (arith, nat_tests)

pub allocates : (n global age k bound first : ℕ) (used used1 used2 shared shared2 : List Bool) (ages ages1 ages2 : List ℕ)
    → ((k : ℕ) → n ≤ k → get_or used k false ≡ false)
    → IsChosen n (heap_from 0 used ages) k bound first
    → ((i : ℕ) → get_or shared2 i false ≡ (get_or shared i false && not (is_within first k i || is_old used ages bound i)))
    → ((i : ℕ) → get_or used1 i false ≡ (get_or used i false && not (is_old used ages bound i)))
    → ((i : ℕ) → get_or ages1 i 0 ≡ (if is_old used ages bound i then global + 1 else get_or ages i 0))
    → age ≡ (if nat_lt 0 bound then global + 1 else global)
    → ((i : ℕ) → get_or ages2 i 0 ≡ (if is_within first k i then age + 1 else get_or ages1 i 0))
    → ((i : ℕ) → get_or used2 i false ≡ (is_within first k i || get_or used1 i false))
    → heap_of (record { count = n; global = age + 1; used = used2; shared = shared2; ages = ages2 }) ≡ allocated n (heap_of (record { count = n; global = global; used = used; shared = shared; ages = ages })) (record { first = first; count = k })
allocates n global age k bound first used used1 used2 shared shared2 ages ages1 ages2 unused c s2 u1 a1 is a2 u2 =
    same_heap (age + 1) (suc (age_freed n h k)) (λ i. get_or used2 i false) (λ i. in_run run i || (h.used i && not (freed_for n h k i)))
    (λ i. get_or shared2 i false) (λ i. h.shared i && not (in_run run i || freed_for n h k i))
    (λ i. get_or ages2 i 0) (λ i. if in_run run i then suc (age_freed n h k) else (if freed_for n h k i then age_freed n h k else h.age i))
    (rw freed_age (omega arith))
    (λ i. u2 i ∙ rw (u1 i, freed i) refl)
    (λ i. s2 i ∙ rw (freed i) refl)
    (λ i. a2 i ∙ rw (a1 i, freed i, freed_age) (old i))
  where
    h : Heap
    h = heap_of (record { count = n; global = global; used = used; shared = shared; ages = ages })

    run : Run
    run = record { first = first; count = k }

    freed : (i : ℕ) → freed_for n h k i ≡ is_old used ages bound i
    freed i = freed_is n h k bound i unused c.classes

    freed_age : age_freed n h k ≡ age
    freed_age = age_freed_is n h k bound age c.classes c.positive is

    old : (i : ℕ) → (if is_within first k i then age + 1 else (if is_old used ages bound i then global + 1 else get_or ages i 0)) ≡ (if is_within first k i then suc age else (if is_old used ages bound i then age else get_or ages i 0))
    old i = by (is_within first k i) (get_or used i false) (nat_lt (get_or ages i 0) bound) refl
      where
        by : (w b t : Bool) → nat_lt (get_or ages i 0) bound ≡ t → (if w then age + 1 else (if b && t then global + 1 else get_or ages i 0)) ≡ (if w then suc age else (if b && t then age else get_or ages i 0))
        by true b t e = omega arith
        by false false t e = refl
        by false true false e = refl
        by false true true e = let p : nat_lt 0 bound ≡ true = positive (get_or ages i 0) e in sym (rw p at is)
          where
            positive : (a : ℕ) → nat_lt a bound ≡ true → nat_lt 0 bound ≡ true
            positive a e = grind (arith, nat_tests)
