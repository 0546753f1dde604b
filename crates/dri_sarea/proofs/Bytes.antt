-- Numbers as bytes, there and back.
use Rattle.std.proofs.Common.{◌≡◌, ◌<◌, ◌≤◌, ◌+◌, ◌*◌, ◌^◌, ◌%◌, ℕ, zero, suc, List, [], ◌∷◌, ◌++◌, length, take, drop, get_or, true, arith, refl, sym, ◌∙◌, ap, append_assoc, length-append, length-drop}
use Rattle.std.specs.Prelude.{nat_lt}
use Rattle.std.proofs.lemmas.Bool.{and_parts, true≢false}
use Rattle.std.proofs.lemmas.Bool.Decides.{nat_tests}
use Rattle.std.proofs.lemmas.Nat.{le_bytes_4}
use Rattle.std.proofs.Math.Seq.{drop-append_seam}
use Rattle.byteorder.specs.Endian.{little_bytes, little_number}
use Rattle.byteorder.specs.Numbers.{little_from-lt, little_number-reads_back, length-bytes_low_first}
use Rattle.dri_sarea.specs.declared.layout.Field.{Field}
use Rattle.dri_sarea.specs.declared.layout.Width.{Width}
use Rattle.dri_sarea.specs.declared.layout.Width.TheVariants.{Byte, Number}
use Rattle.dri_sarea.specs.Layouts.{bytes_in, size, holds}
use Rattle.dri_sarea.specs.Images.{written, fits, are_held, number_at, numbers_at}

-- each is a byte
abbrev pub AreBytes : List ℕ → Type 0
AreBytes bytes = (i : ℕ) → get_or bytes i 0 < 256

pub drop_bytes : (n : ℕ) (xs : List ℕ) → AreBytes xs → AreBytes (drop n xs)
drop_bytes zero xs h = h
drop_bytes (suc n) [] h = h
drop_bytes (suc n) (x ∷ xs) h = drop_bytes n xs (λ i. h (suc i))

pub take_all : (xs : List ℕ) → take (length xs) xs ≡ xs
take_all [] = refl
take_all (x ∷ xs) = ap (λ (ys : List ℕ). x ∷ ys) (take_all xs)

pub take_add : (m n : ℕ) (xs : List ℕ) → take (m + n) xs ≡ take m xs ++ take n (drop m xs)
take_add zero n xs = let e : 0 + n ≡ n = omega arith in rw e refl
take_add (suc m) n [] = nothing n
  where
    nothing : (n : ℕ) → take {A = ℕ} (suc m + n) [] ≡ take {A = ℕ} n []
    nothing zero = let e : suc m + 0 ≡ suc m = omega arith in rw e refl
    nothing (suc n) = let e : suc m + suc n ≡ suc (m + suc n) = omega arith in rw e refl
take_add (suc m) n (x ∷ xs) = let e : suc m + n ≡ suc (m + n) = omega arith in rw e (ap (λ (ys : List ℕ). x ∷ ys) (take_add m n xs))

pub drop_add : (m n : ℕ) (xs : List ℕ) → drop (m + n) xs ≡ drop n (drop m xs)
drop_add zero n xs = let e : 0 + n ≡ n = omega arith in rw e refl
drop_add (suc m) n [] = nothing n
  where
    nothing : (n : ℕ) → drop {A = ℕ} (suc m + n) [] ≡ drop {A = ℕ} n []
    nothing zero = let e : suc m + 0 ≡ suc m = omega arith in rw e refl
    nothing (suc n) = let e : suc m + suc n ≡ suc (m + suc n) = omega arith in rw e refl
drop_add (suc m) n (x ∷ xs) = let e : suc m + n ≡ suc (m + n) = omega arith in rw e (drop_add m n xs)

pub number_small : (w : Width) (bytes : List ℕ) (at : ℕ) → AreBytes bytes → number_at bytes at (bytes_in w) < 256 ^ bytes_in w
number_small w bytes at h = little_from-lt 0 (bytes_in w) (drop at bytes) (drop_bytes at bytes h)

-- the bytes of a number that was read are those read
pub spelled : (w : Width) (xs : List ℕ) → AreBytes xs → bytes_in w ≤ length xs → little_bytes (bytes_in w) (little_number (bytes_in w) xs) ≡ take (bytes_in w) xs
spelled Byte [] h l = absurd (omega (arith, l))
spelled Byte (x ∷ xs) h l = let s : x < 256 = h 0 in let e : (x + 256 * 0) % 256 ≡ x = omega (arith, s) in ap (λ (b : ℕ). b ∷ []) e
spelled Number [] h l = absurd (omega (arith, l))
spelled Number (a ∷ []) h l = absurd (omega (arith, l))
spelled Number (a ∷ b ∷ []) h l = absurd (omega (arith, l))
spelled Number (a ∷ b ∷ c ∷ []) h l = absurd (omega (arith, l))
spelled Number (a ∷ b ∷ c ∷ d ∷ xs) h l = le_bytes_4 (a ∷ b ∷ c ∷ d ∷ []) (little_number 4 (a ∷ b ∷ c ∷ d ∷ xs)) refl small (omega arith)
  where
    small : (i : ℕ) → get_or (a ∷ b ∷ c ∷ d ∷ []) i 0 < 256
    small zero = h 0
    small (suc zero) = h 1
    small (suc (suc zero)) = h 2
    small (suc (suc (suc zero))) = h 3
    small (suc (suc (suc (suc i)))) = omega arith

-- the bytes of fields that were read are those read
pub written_numbers : (bytes : List ℕ) (at : ℕ) (fs : List Field) → AreBytes bytes → at + size fs ≤ length bytes → written fs (numbers_at bytes at fs) ≡ take (size fs) (drop at bytes)
written_numbers bytes at [] h l = refl
written_numbers bytes at (f ∷ fs) h l =
    let w = bytes_in f.width in
    let long : w ≤ length (drop at bytes) = omega (arith, length-drop at bytes, l) in
    ap (λ (xs : List ℕ). xs ++ written fs (numbers_at bytes (at + w) fs)) (spelled f.width (drop at bytes) (drop_bytes at bytes h) long)
    ∙ ap (λ (xs : List ℕ). take w (drop at bytes) ++ xs) (written_numbers bytes (at + w) fs h (omega (arith, l)) ∙ ap (λ (xs : List ℕ). take (size fs) xs) (drop_add at w bytes))
    ∙ sym (take_add w (size fs) (drop at bytes))

-- a number that was written is read back
number_back : (w : Width) (v : ℕ) (before after : List ℕ) → nat_lt v (256 ^ bytes_in w) ≡ true → number_at (before ++ (little_bytes (bytes_in w) v ++ after)) (length before) (bytes_in w) ≡ v
number_back w v before after h = ap (λ (xs : List ℕ). little_number (bytes_in w) xs) (drop-append_seam before (little_bytes (bytes_in w) v ++ after)) ∙ little_number-reads_back (bytes_in w) v after (less v (256 ^ bytes_in w) h)
  where
    less : (a b : ℕ) → nat_lt a b ≡ true → a < b
    less a b h = grind (arith, nat_tests)

-- the numbers of fields that were written are read back
pub numbers_back : (fs : List Field) (vs before after : List ℕ) → are_held fs vs ≡ true → numbers_at (before ++ (written fs vs ++ after)) (length before) fs ≡ vs
numbers_back [] [] before after h = refl
numbers_back [] (v ∷ vs) before after h = absurd (true≢false (sym h))
numbers_back (f ∷ fs) [] before after h = absurd (true≢false (sym h))
numbers_back (f ∷ fs) (v ∷ vs) before after h =
    let p = and_parts (fits f v) (are_held fs vs) h in
    let q = and_parts (nat_lt v (256 ^ bytes_in f.width)) (holds f.range v) p.0 in
    let w = bytes_in f.width in
    let b = little_bytes w v in
    let r = written fs vs in
    let all = before ++ ((b ++ r) ++ after) in
    let first : all ≡ before ++ (b ++ (r ++ after)) = ap (λ (xs : List ℕ). before ++ xs) (append_assoc b r after) in
    let second : all ≡ (before ++ b) ++ (r ++ after) = first ∙ sym (append_assoc before b (r ++ after)) in
    let place : length before + w ≡ length (before ++ b) = omega (arith, length-append before b, length-bytes_low_first 0 w v) in
    let head : number_at all (length before) w ≡ v = ap (λ (xs : List ℕ). number_at xs (length before) w) first ∙ number_back f.width v before (r ++ after) q.0 in
    let tail : numbers_at all (length before + w) fs ≡ vs = ap (λ (n : ℕ). numbers_at all n fs) place ∙ ap (λ (xs : List ℕ). numbers_at xs (length (before ++ b)) fs) second ∙ numbers_back fs vs (before ++ b) after p.1 in
    ap (λ (x : ℕ). x ∷ numbers_at all (length before + w) fs) head ∙ ap (λ (xs : List ℕ). v ∷ xs) tail

pub written_size : (fs : List Field) (vs : List ℕ) → length fs ≡ length vs → length (written fs vs) ≡ size fs
written_size [] [] h = refl
written_size [] (v ∷ vs) h = absurd (omega (arith, h))
written_size (f ∷ fs) [] h = absurd (omega (arith, h))
written_size (f ∷ fs) (v ∷ vs) h = let e = written_size fs vs (omega (arith, h)) in
    omega (arith, length-append (little_bytes (bytes_in f.width) v) (written fs vs), length-bytes_low_first 0 (bytes_in f.width) v, e)
