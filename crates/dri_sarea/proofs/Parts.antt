-- The parts of the layout, one after another.
use Rattle.std.proofs.Common.{◌≡◌, ◌<◌, ◌+◌, ◌^◌, ℕ, zero, suc, List, [], ◌∷◌, ◌++◌, Bool, true, None, arith, refl, sym, ◌∙◌, ap}
use Rattle.std.specs.Prelude.{◌&&◌, nat_lt, nat_le}
use Rattle.std.proofs.lemmas.Bool.{and_parts}
use Rattle.std.proofs.lemmas.List.{append-nil}
use Rattle.std.proofs.lemmas.Bool.Decides.{nat_tests}
use Rattle.dri_sarea.specs.declared.layout.Field.{Field}
use Rattle.dri_sarea.specs.declared.layout.Width.TheVariants.{Number}
use Rattle.dri_sarea.specs.declared.layout.Range.TheVariants.{Any, Within, RegionSize}
use Rattle.dri_sarea.specs.Layouts.{bytes_in, byte, number, size, pieces, zero_fields, zero_values, drawable_fields, entry_fields, table, layout}
use Rattle.dri_sarea.specs.Images.{fits, number_at, numbers_at, first_bad, FollowOn}
use Rattle.dri_sarea.proofs.Fields.{first_bad_after, first_bad_split, numbers_append, held_good}
use Rattle.dri_sarea.proofs.Bytes.{AreBytes, number_small}
use Rattle.dri_sarea.proofs.Pieces.{size_zeros, size_eights, size_entry}

-- the frame, the dummy context, the owner, the global age, the number of regions and their size
abbrev pub the_numbers : List Field
the_numbers =
    number (Within 0 0) ∷ number (Within 0 0) ∷ number (Within 1 1024) ∷ number (Within 1 1024) ∷ number (Within 0 0) ∷
    number (Within 0 0) ∷ number (Within 0 33) ∷ number Any ∷ number (Within 1 64) ∷ number RegionSize ∷ []

abbrev pub the_drawables : List Field
the_drawables = pieces (λ i. drawable_fields) 256

abbrev pub the_entries : ℕ → List Field
the_entries n = pieces (entry_fields n) 65

-- what is left from a place on
abbrev pub from_rest : List Field
from_rest = zero_fields 5456 ++ []

abbrev pub from_entries : ℕ → List Field
from_entries n = the_entries n ++ from_rest

abbrev pub from_numbers : ℕ → List Field
from_numbers n = the_numbers ++ from_entries n

abbrev pub from_drawables : ℕ → List Field
from_drawables n = the_drawables ++ from_numbers n

abbrev pub from_lock : ℕ → List Field
from_lock n = zero_fields 64 ++ from_drawables n

abbrev pub from_padding : ℕ → List Field
from_padding n = zero_fields 60 ++ from_lock n

pub size_drawables : size the_drawables ≡ 2048
size_drawables = size_eights (λ i. drawable_fields) 256 (λ i. refl)

pub size_entries : (n : ℕ) → size (the_entries n) ≡ 520
size_entries n = size_eights (entry_fields n) 65 (size_entry n)

pub follow_on : (n : ℕ) → FollowOn 0 (table n)
follow_on n = (refl, (refl, (omega (arith, size_zeros 60), (omega (arith, size_zeros 60, size_zeros 64), (omega (arith, size_zeros 60, size_zeros 64, size_drawables), (omega (arith, size_zeros 60, size_zeros 64, size_drawables), (omega (arith, size_zeros 60, size_zeros 64, size_drawables), (omega (arith, size_zeros 60, size_zeros 64, size_drawables), (omega (arith, size_zeros 60, size_zeros 64, size_drawables), (omega (arith, size_zeros 60, size_zeros 64, size_drawables), (omega (arith, size_zeros 60, size_zeros 64, size_drawables), (omega (arith, size_zeros 60, size_zeros 64, size_drawables, size_entries n), omega (arith, size_zeros 60, size_zeros 64, size_drawables, size_entries n, size_zeros 5456)))))))))))))

-- a good part is passed over
pub passed : (bytes : List ℕ) (at next : ℕ) (fs gs : List Field) → at + size fs ≡ next → first_bad bytes at fs ≡ None → first_bad bytes at (fs ++ gs) ≡ first_bad bytes next gs
passed bytes at next fs gs e h = first_bad_after bytes at fs gs h ∙ ap (λ (n : ℕ). first_bad bytes n gs) e

pub word_passed : (bytes : List ℕ) (n : ℕ) → AreBytes bytes → first_bad bytes 0 (layout n) ≡ first_bad bytes 4 (from_padding n)
word_passed bytes n h = let e : fits (number Any) (number_at bytes 0 4) ≡ true = small (number_at bytes 0 4) (number_small Number bytes 0 h) in rw e refl
  where
    small : (v : ℕ) → v < 256 ^ 4 → fits (number Any) v ≡ true
    small v l = let e : nat_lt v (256 ^ 4) ≡ true = grind (arith, nat_tests) in rw e refl

pub padding_passed : (bytes : List ℕ) (n : ℕ) → first_bad bytes 4 (zero_fields 60) ≡ None → first_bad bytes 4 (from_padding n) ≡ first_bad bytes 64 (from_lock n)
padding_passed bytes n h = passed bytes 4 64 (zero_fields 60) (from_lock n) (omega (arith, size_zeros 60)) h

pub lock_passed : (bytes : List ℕ) (n : ℕ) → first_bad bytes 64 (zero_fields 64) ≡ None → first_bad bytes 64 (from_lock n) ≡ first_bad bytes 128 (from_drawables n)
lock_passed bytes n h = passed bytes 64 128 (zero_fields 64) (from_drawables n) (omega (arith, size_zeros 64)) h

pub drawables_passed : (bytes : List ℕ) (n : ℕ) → first_bad bytes 128 the_drawables ≡ None → first_bad bytes 128 (from_drawables n) ≡ first_bad bytes 2176 (from_numbers n)
drawables_passed bytes n h = passed bytes 128 2176 the_drawables (from_numbers n) (omega (arith, size_drawables)) h

pub numbers_passed : (bytes : List ℕ) (n : ℕ) → first_bad bytes 2176 the_numbers ≡ None → first_bad bytes 2176 (from_numbers n) ≡ first_bad bytes 2216 (from_entries n)
numbers_passed bytes n h = passed bytes 2176 2216 the_numbers (from_entries n) refl h

pub entries_passed : (bytes : List ℕ) (n : ℕ) → first_bad bytes 2216 (the_entries n) ≡ None → first_bad bytes 2216 (from_entries n) ≡ first_bad bytes 2736 from_rest
entries_passed bytes n h = passed bytes 2216 2736 (the_entries n) from_rest (omega (arith, size_entries n)) h

pub rest_is : (bytes : List ℕ) (at : ℕ) → first_bad bytes at from_rest ≡ first_bad bytes at (zero_fields 5456)
rest_is bytes at = ap (λ (fs : List Field). first_bad bytes at fs) (append-nil (zero_fields 5456))

-- nothing is bad in any part
pub record IsGood (bytes : List ℕ) (n : ℕ) : Type 0 where
  pub padding : first_bad bytes 4 (zero_fields 60) ≡ None
  pub lock : first_bad bytes 64 (zero_fields 64) ≡ None
  pub drawables : first_bad bytes 128 the_drawables ≡ None
  pub numbers : first_bad bytes 2176 the_numbers ≡ None
  pub entries : first_bad bytes 2216 (the_entries n) ≡ None
  pub rest : first_bad bytes 2736 (zero_fields 5456) ≡ None

split : (bytes : List ℕ) (at next : ℕ) (fs gs : List Field) → at + size fs ≡ next → first_bad bytes at (fs ++ gs) ≡ None → (first_bad bytes at fs ≡ None) × (first_bad bytes next gs ≡ None)
split bytes at next fs gs e h = let p = first_bad_split bytes at fs gs h in (p.0, ap (λ (n : ℕ). first_bad bytes n gs) (sym e) ∙ p.1)

pub all_good : (bytes : List ℕ) (n : ℕ) → AreBytes bytes → first_bad bytes 0 (layout n) ≡ None → IsGood bytes n
all_good bytes n h good =
    let a = split bytes 4 64 (zero_fields 60) (from_lock n) (omega (arith, size_zeros 60)) (sym (word_passed bytes n h) ∙ good) in
    let b = split bytes 64 128 (zero_fields 64) (from_drawables n) (omega (arith, size_zeros 64)) a.1 in
    let c = split bytes 128 2176 the_drawables (from_numbers n) (omega (arith, size_drawables)) b.1 in
    let d = split bytes 2176 2216 the_numbers (from_entries n) refl c.1 in
    let e = split bytes 2216 2736 (the_entries n) from_rest (omega (arith, size_entries n)) d.1 in
    let f = first_bad_split bytes 2736 (zero_fields 5456) [] e.1 in
    record { padding = a.0; lock = b.0; drawables = c.0; numbers = d.0; entries = e.0; rest = f.0 }

-- a number that has to be 0 is 0
pub is_zero : (f : Field) (v : ℕ) → f.range ≡ Within 0 0 → fits f v ≡ true → v ≡ 0
is_zero f v e h = none (nat_lt v (256 ^ bytes_in f.width)) (rw e at h)
  where
    none : (a : Bool) → (a && (nat_le 0 v && nat_le v 0)) ≡ true → v ≡ 0
    none a h = let p = and_parts a (nat_le 0 v && nat_le v 0) h in let q = and_parts (nat_le 0 v) (nat_le v 0) p.1 in low q.1
      where
        low : nat_le v 0 ≡ true → v ≡ 0
        low h = grind (arith, nat_tests)

pub zeros_read : (bytes : List ℕ) (at k : ℕ) → first_bad bytes at (zero_fields k) ≡ None → numbers_at bytes at (zero_fields k) ≡ zero_values k
unfolding pieces
zeros_read bytes at zero h = refl
zeros_read bytes at (suc k) h =
    let p = first_bad_split bytes at (zero_fields k) (byte (Within 0 0) ∷ []) h in
    let held = held_good bytes (at + size (zero_fields k)) (byte (Within 0 0) ∷ []) p.1 in
    let v = number_at bytes (at + size (zero_fields k)) 1 in
    let z : v ≡ 0 = is_zero (byte (Within 0 0)) v refl (and_parts (fits (byte (Within 0 0)) v) true held).0 in
    numbers_append bytes at (zero_fields k) (byte (Within 0 0) ∷ [])
    ∙ ap (λ (xs : List ℕ). xs ++ (v ∷ [])) (zeros_read bytes at k p.0)
    ∙ ap (λ (x : ℕ). zero_values k ++ (x ∷ [])) z
