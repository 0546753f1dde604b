-- What a reader has read so far.
use Rattle.std.proofs.Common.{◌≡◌, ◌<◌, ◌≤◌, ◌+◌, ℕ, zero, suc, List, [], ◌∷◌, ◌++◌, length, take, get_or, Bool, true, false, None, arith, refl, sym, subst, ◌∙◌, ap, inl, inr, length-append}
use Rattle.std.specs.Prelude.{◌⊎◌, nat_le}
use Rattle.std.proofs.lemmas.Bool.{cases_eq}
use Rattle.std.proofs.lemmas.Bool.Decides.{nat_tests}
use Rattle.std.proofs.Math.ListN.{get_or-append, get_or-eq_default}
use Rattle.std.proofs.Math.Seq.{get_or-append_seam}
use Rattle.dri_base.specs.declared.texture.TexRegion.{TexRegion}
use Rattle.dri_sarea.specs.declared.layout.Field.{Field}
use Rattle.dri_sarea.specs.Layouts.{bytes_in, number, size, pieces, entry_fields, entry_values}
use Rattle.dri_sarea.specs.declared.layout.Range.TheVariants.{Any, Within, RegionSize}
use Rattle.dri_sarea.specs.Images.{fits, number_at, numbers_at, first_bad}
use Rattle.dri_sarea.proofs.Fields.{numbers_append}
use Rattle.dri_sarea.proofs.Pieces.{no_pieces, more_pieces, same_pieces, numbers_more}
use Rattle.dri_sarea.proofs.Parts.{the_numbers, is_zero, zeros_read}

-- an item that is put last is read at its place, and those before it at theirs
pub put_before : {A : Type 0} (items more : List A) (d none : A) (k : ℕ) → more ≡ items ++ d ∷ [] → k < length items → get_or more k none ≡ get_or items k none
put_before items more d none k e l = rw e (get_or-append items (d ∷ []) none k l)

pub put_here : {A : Type 0} (items more : List A) (d none : A) (i : ℕ) → more ≡ items ++ d ∷ [] → length items ≡ i → get_or more i none ≡ d
put_here items more d none i e l = rw (e, ← l) (get_or-append_seam items d [] none)

-- a fact of each place is kept where it holds of the item put last
pub put_each : {A : Type 0} (P : ℕ → A → Type 0) (items more : List A) (d none : A) (i : ℕ) → more ≡ items ++ d ∷ [] → length items ≡ i → ((k : ℕ) → P k (get_or items k none)) → P i d → (k : ℕ) → P k (get_or more k none)
put_each P items more d none i e l h last k = by (cases_eq k i) (nat_le k i) refl
  where
    by : (k ≡ i) ⊎ (k ≡ i → ⊥) → (t : Bool) → nat_le k i ≡ t → P k (get_or more k none)
    by (inl same) t q = subst (λ n. P n (get_or more n none)) (sym same) (subst (λ x. P i x) (sym (put_here items more d none i e l)) last)
    by (inr other) true q = subst (λ x. P k x) (sym (put_before items more d none k e (less k i q other l))) (h k)
      where
        less : (k i : ℕ) → nat_le k i ≡ true → (k ≡ i → ⊥) → length items ≡ i → k < length items
        less k i q other l = grind (arith, nat_tests)
    by (inr other) false q = subst (λ x. P k x) (get_or-eq_default items none (low k i q l) ∙ sym (get_or-eq_default more none (high k i q l))) (h k)
      where
        low : (k i : ℕ) → nat_le k i ≡ false → length items ≡ i → length items ≤ k
        low k i q l = grind (arith, nat_tests)

        long : length more ≡ length items + 1
        long = rw e (length-append items (d ∷ []))

        high : (k i : ℕ) → nat_le k i ≡ false → length items ≡ i → length more ≤ k
        high k i q l = grind (arith, nat_tests, long)

pub length_take : {A : Type 0} (n : ℕ) (xs : List A) → n ≤ length xs → length (take n xs) ≡ n
length_take zero xs l = refl
length_take (suc n) [] l = absurd (omega (arith, l))
length_take (suc n) (x ∷ xs) l = let e = length_take n xs (omega (arith, l)) in omega (arith, e)

pub none_each : {A : Type 0} (items : List A) (none : A) (k : ℕ) → items ≡ [] → get_or items k none ≡ none
none_each items none k e = rw e refl

-- no item is read yet
pub read_none : {A : Type 0} (bytes : List ℕ) (at : ℕ) (p : ℕ → List Field) (v : ℕ → A → List ℕ) (none : A) (items : List A) → numbers_at bytes at (pieces p 0) ≡ pieces (λ k. v k (get_or items k none)) 0
read_none bytes at p v none items = ap (λ (fs : List Field). numbers_at bytes at fs) (no_pieces p) ∙ sym (no_pieces (λ k. v k (get_or items k none)))

-- one item more is read as its fields
pub read_more : {A : Type 0} (bytes : List ℕ) (at place : ℕ) (p : ℕ → List Field) (v : ℕ → A → List ℕ) (none : A) (items more : List A) (d : A) (i : ℕ) → more ≡ items ++ d ∷ [] → length items ≡ i → at + size (pieces p i) ≡ place
    → numbers_at bytes at (pieces p i) ≡ pieces (λ k. v k (get_or items k none)) i → numbers_at bytes place (p i) ≡ v i d → numbers_at bytes at (pieces p (i + 1)) ≡ pieces (λ k. v k (get_or more k none)) (i + 1)
read_more bytes at place p v none items more d i e l s h last =
    numbers_more bytes at place p i s
    ∙ ap (λ (xs : List ℕ). xs ++ numbers_at bytes place (p i)) h
    ∙ ap (λ (xs : List ℕ). pieces (λ k. v k (get_or items k none)) i ++ xs) (last ∙ ap (λ x. v i x) (sym (put_here items more d none i e l)))
    ∙ ap (λ (xs : List ℕ). xs ++ v i (get_or more i none)) (same_pieces (λ k. v k (get_or items k none)) (λ k. v k (get_or more k none)) i (λ k m. ap (λ x. v k x) (sym (put_before items more d none k e (omega (arith, m, l))))))
    ∙ sym (more_pieces (λ k. v k (get_or more k none)) i)

-- an entry above the head
pub entry_zero : (bytes : List ℕ) (at n i : ℕ) (r : TexRegion) → n < i → first_bad bytes at (entry_fields n i) ≡ None → numbers_at bytes at (entry_fields n i) ≡ entry_values n i r
entry_zero bytes at n i r l h = let e : nat_le i n ≡ false = above in rw e (zeros_read bytes at 8 (rw e at h))
  where
    above : nat_le i n ≡ false
    above = grind (arith, nat_tests)

good_cons : (bytes : List ℕ) (at : ℕ) (f : Field) (fs : List Field) → first_bad bytes at (f ∷ fs) ≡ None → (fits f (number_at bytes at (bytes_in f.width)) ≡ true) × (first_bad bytes (at + bytes_in f.width) fs ≡ None)
good_cons bytes at f fs h = by (fits f (number_at bytes at (bytes_in f.width))) refl
  where
    by : (t : Bool) → fits f (number_at bytes at (bytes_in f.width)) ≡ t → (fits f (number_at bytes at (bytes_in f.width)) ≡ true) × (first_bad bytes (at + bytes_in f.width) fs ≡ None)
    by true e = (e, rw e at h)
    by false e = let no = rw e at h in cc

abbrev zero_number : Field
zero_number = number (Within 0 0)

abbrev side : Field
side = number (Within 1 1024)

abbrev from_owner : List Field
from_owner = number (Within 0 33) ∷ number Any ∷ number (Within 1 64) ∷ number RegionSize ∷ []

-- the ten numbers
pub numbers_read : (bytes : List ℕ) → first_bad bytes 2176 the_numbers ≡ None
    → numbers_at bytes 2176 the_numbers ≡ 0 ∷ 0 ∷ number_at bytes 2184 4 ∷ number_at bytes 2188 4 ∷ 0 ∷ 0 ∷ number_at bytes 2200 4 ∷ number_at bytes 2204 4 ∷ number_at bytes 2208 4 ∷ number_at bytes 2212 4 ∷ []
numbers_read bytes h =
    let a = good_cons bytes 2176 zero_number (zero_number ∷ side ∷ side ∷ zero_number ∷ zero_number ∷ from_owner) h in
    let b = good_cons bytes 2180 zero_number (side ∷ side ∷ zero_number ∷ zero_number ∷ from_owner) a.1 in
    let c = good_cons bytes 2184 side (side ∷ zero_number ∷ zero_number ∷ from_owner) b.1 in
    let d = good_cons bytes 2188 side (zero_number ∷ zero_number ∷ from_owner) c.1 in
    let e = good_cons bytes 2192 zero_number (zero_number ∷ from_owner) d.1 in
    let f = good_cons bytes 2196 zero_number from_owner e.1 in
    let x : number_at bytes 2176 4 ≡ 0 = is_zero zero_number (number_at bytes 2176 4) refl a.0 in
    let y : number_at bytes 2180 4 ≡ 0 = is_zero zero_number (number_at bytes 2180 4) refl b.0 in
    let s : number_at bytes 2192 4 ≡ 0 = is_zero zero_number (number_at bytes 2192 4) refl e.0 in
    let z : number_at bytes 2196 4 ≡ 0 = is_zero zero_number (number_at bytes 2196 4) refl f.0 in
    λ i. x i ∷ y i ∷ number_at bytes 2184 4 ∷ number_at bytes 2188 4 ∷ s i ∷ z i ∷ number_at bytes 2200 4 ∷ number_at bytes 2204 4 ∷ number_at bytes 2208 4 ∷ number_at bytes 2212 4 ∷ []

pub numbers_join : (bytes : List ℕ) (at next : ℕ) (fs gs : List Field) (vs ws : List ℕ) → at + size fs ≡ next → numbers_at bytes at fs ≡ vs → numbers_at bytes next gs ≡ ws → numbers_at bytes at (fs ++ gs) ≡ vs ++ ws
numbers_join bytes at next fs gs vs ws e h k =
    numbers_append bytes at fs gs ∙ ap (λ (xs : List ℕ). xs ++ numbers_at bytes (at + size fs) gs) h ∙ ap (λ (xs : List ℕ). vs ++ xs) (ap (λ (n : ℕ). numbers_at bytes n gs) e ∙ k)
