-- Fields that stand one after another.
use Rattle.std.proofs.Common.{◌≡◌, ◌+◌, ℕ, List, [], ◌∷◌, ◌++◌, length, Bool, true, false, Some, None, arith, refl, sym, ◌∙◌, ap, append_assoc}
use Rattle.std.specs.Prelude.{Option}
use Rattle.std.proofs.lemmas.Bool.{and_parts, true≢false}
use Rattle.byteorder.specs.Endian.{little_bytes}
use Rattle.dri_sarea.specs.declared.layout.Field.{Field}
use Rattle.dri_sarea.specs.Layouts.{bytes_in, size}
use Rattle.dri_sarea.specs.Images.{written, fits, are_held, number_at, numbers_at, first_bad}

pub size_append : (fs gs : List Field) → size (fs ++ gs) ≡ size fs + size gs
size_append [] gs = omega arith
size_append (f ∷ fs) gs = omega (arith, size_append fs gs)

moved : (bytes : List ℕ) (fs : List Field) (a b : ℕ) → a ≡ b → first_bad bytes a fs ≡ first_bad bytes b fs
moved bytes fs a b e = ap (λ (n : ℕ). first_bad bytes n fs) e

pub first_bad_after : (bytes : List ℕ) (at : ℕ) (fs gs : List Field) → first_bad bytes at fs ≡ None → first_bad bytes at (fs ++ gs) ≡ first_bad bytes (at + size fs) gs
first_bad_after bytes at [] gs h = moved bytes gs at (at + 0) (omega arith)
first_bad_after bytes at (f ∷ fs) gs h = by (fits f (number_at bytes at (bytes_in f.width))) refl (first_bad_after bytes (at + bytes_in f.width) fs gs)
  where
    by : (t : Bool) → fits f (number_at bytes at (bytes_in f.width)) ≡ t
        → (first_bad bytes (at + bytes_in f.width) fs ≡ None → first_bad bytes (at + bytes_in f.width) (fs ++ gs) ≡ first_bad bytes (at + bytes_in f.width + size fs) gs)
        → first_bad bytes at (f ∷ (fs ++ gs)) ≡ first_bad bytes (at + (bytes_in f.width + size fs)) gs
    by true e rest = rw e (rest (rw e at h) ∙ moved bytes gs (at + bytes_in f.width + size fs) (at + (bytes_in f.width + size fs)) (omega arith))
    by false e rest = let no = rw e at h in cc

pub first_bad_stop : (bytes : List ℕ) (at e : ℕ) (fs gs : List Field) → first_bad bytes at fs ≡ Some e → first_bad bytes at (fs ++ gs) ≡ Some e
first_bad_stop bytes at e [] gs h = cc
first_bad_stop bytes at e (f ∷ fs) gs h = by (fits f (number_at bytes at (bytes_in f.width))) refl (first_bad_stop bytes (at + bytes_in f.width) e fs gs)
  where
    by : (t : Bool) → fits f (number_at bytes at (bytes_in f.width)) ≡ t
        → (first_bad bytes (at + bytes_in f.width) fs ≡ Some e → first_bad bytes (at + bytes_in f.width) (fs ++ gs) ≡ Some e)
        → first_bad bytes at (f ∷ (fs ++ gs)) ≡ Some e
    by true t rest = rw t (rest (rw t at h))
    by false t rest = let same = rw t at h in rw t same

pub first_bad_split : (bytes : List ℕ) (at : ℕ) (fs gs : List Field) → first_bad bytes at (fs ++ gs) ≡ None → (first_bad bytes at fs ≡ None) × (first_bad bytes (at + size fs) gs ≡ None)
first_bad_split bytes at fs gs h = by (first_bad bytes at fs) refl
  where
    by : (o : Option ℕ) → first_bad bytes at fs ≡ o → (first_bad bytes at fs ≡ None) × (first_bad bytes (at + size fs) gs ≡ None)
    by None e = (e, sym (first_bad_after bytes at fs gs e) ∙ h)
    by (Some x) e = let stop = first_bad_stop bytes at x fs gs e in cc

pub numbers_append : (bytes : List ℕ) (at : ℕ) (fs gs : List Field) → numbers_at bytes at (fs ++ gs) ≡ numbers_at bytes at fs ++ numbers_at bytes (at + size fs) gs
numbers_append bytes at [] gs = ap (λ (n : ℕ). numbers_at bytes n gs) (omega arith)
numbers_append bytes at (f ∷ fs) gs = ap (λ (xs : List ℕ). number_at bytes at (bytes_in f.width) ∷ xs) (numbers_append bytes (at + bytes_in f.width) fs gs
    ∙ ap (λ (n : ℕ). numbers_at bytes (at + bytes_in f.width) fs ++ numbers_at bytes n gs) (omega arith))

pub written_append : (fs gs : List Field) (vs ws : List ℕ) → length fs ≡ length vs → written (fs ++ gs) (vs ++ ws) ≡ written fs vs ++ written gs ws
written_append [] gs [] ws h = refl
written_append [] gs (v ∷ vs) ws h = absurd (omega (arith, h))
written_append (f ∷ fs) gs [] ws h = absurd (omega (arith, h))
written_append (f ∷ fs) gs (v ∷ vs) ws h =
    ap (λ (xs : List ℕ). little_bytes (bytes_in f.width) v ++ xs) (written_append fs gs vs ws (omega (arith, h))) ∙ sym (append_assoc (little_bytes (bytes_in f.width) v) (written fs vs) (written gs ws))

pub held_length : (fs : List Field) (vs : List ℕ) → are_held fs vs ≡ true → length fs ≡ length vs
held_length [] [] h = refl
held_length [] (v ∷ vs) h = absurd (true≢false (sym h))
held_length (f ∷ fs) [] h = absurd (true≢false (sym h))
held_length (f ∷ fs) (v ∷ vs) h = let e = held_length fs vs (and_parts (fits f v) (are_held fs vs) h).1 in omega (arith, e)

pub held_append : (fs gs : List Field) (vs ws : List ℕ) → are_held fs vs ≡ true → are_held gs ws ≡ true → are_held (fs ++ gs) (vs ++ ws) ≡ true
held_append [] gs [] ws h k = k
held_append [] gs (v ∷ vs) ws h k = absurd (true≢false (sym h))
held_append (f ∷ fs) gs [] ws h k = absurd (true≢false (sym h))
held_append (f ∷ fs) gs (v ∷ vs) ws h k = let p = and_parts (fits f v) (are_held fs vs) h in rw (p.0, held_append fs gs vs ws p.1 k) refl

pub held_parts : (fs gs : List Field) (vs ws : List ℕ) → length fs ≡ length vs → are_held (fs ++ gs) (vs ++ ws) ≡ true → (are_held fs vs ≡ true) × (are_held gs ws ≡ true)
held_parts [] gs [] ws e h = (refl, h)
held_parts [] gs (v ∷ vs) ws e h = absurd (omega (arith, e))
held_parts (f ∷ fs) gs [] ws e h = absurd (omega (arith, e))
held_parts (f ∷ fs) gs (v ∷ vs) ws e h =
    let p = and_parts (fits f v) (are_held (fs ++ gs) (vs ++ ws)) h in
    let q = held_parts fs gs vs ws (omega (arith, e)) p.1 in
    (rw (p.0, q.0) refl, q.1)

-- where nothing is bad the fields can hold their numbers, and the other way round
pub held_good : (bytes : List ℕ) (at : ℕ) (fs : List Field) → first_bad bytes at fs ≡ None → are_held fs (numbers_at bytes at fs) ≡ true
held_good bytes at [] h = refl
held_good bytes at (f ∷ fs) h = by (fits f (number_at bytes at (bytes_in f.width))) refl (held_good bytes (at + bytes_in f.width) fs)
  where
    by : (t : Bool) → fits f (number_at bytes at (bytes_in f.width)) ≡ t
        → (first_bad bytes (at + bytes_in f.width) fs ≡ None → are_held fs (numbers_at bytes (at + bytes_in f.width) fs) ≡ true)
        → are_held (f ∷ fs) (numbers_at bytes at (f ∷ fs)) ≡ true
    by true e rest = rw (e, rest (rw e at h)) refl
    by false e rest = let no = rw e at h in cc

pub good_held : (bytes : List ℕ) (at : ℕ) (fs : List Field) → are_held fs (numbers_at bytes at fs) ≡ true → first_bad bytes at fs ≡ None
good_held bytes at [] h = refl
good_held bytes at (f ∷ fs) h =
    let p = and_parts (fits f (number_at bytes at (bytes_in f.width))) (are_held fs (numbers_at bytes (at + bytes_in f.width) fs)) h in
    rw p.0 (good_held bytes (at + bytes_in f.width) fs p.1)
