-- A number that is written in digits is read again.
use Rattle.std.proofs.Common.{◌≡◌, ℕ, zero, suc, ◌<◌, cond, eqb, List, [], ◌∷◌, get_or, Some, None, Option, ℤ, pos, negsuc, neg_ℤ, ap, ◌∙◌, arith}
use Rattle.std.proofs.lemmas.Bool.{ne_eqb}
use Rattle.std.proofs.lemmas.Fmt.{decimal_digit, first_decimal}
use Rattle.std.specs.Fmt.{decimal, signed_decimal}
use Rattle.dri_words.specs.Words.{◌>>=◌, number_of, signed_of, number_at}
use Rattle.dri_words.proofs.Decimals.{decimal_read}

-- digits are no minus sign
digits_signed : (ds : List ℕ) (n : ℕ) → 45 < get_or ds 0 0 → number_of ds ≡ Some n → signed_of ds ≡ Some (pos n)
digits_signed [] n first is = absurd (omega arith)
digits_signed (c ∷ cs) n first is = rw (ne_eqb c 45 (λ e. omega arith)) (ap (λ o. o >>= λ m. Some (pos m)) is)

-- the first byte of a written number is above the signs
pub first_above : (n : ℕ) → n < 10000000000 → 45 < get_or (decimal n) 0 0
first_above zero small = rw (decimal_digit 0 (omega arith)) (omega arith)
first_above (suc n) small = let first = first_decimal (suc n) (omega arith) (omega arith) in omega (arith, first)

-- a written number is read as a word
pub unsigned_read : (n : ℕ) → n < 10000000000 → signed_of (decimal n) ≡ Some (pos n)
unsigned_read n small = digits_signed (decimal n) n (first_above n small) (decimal_read n small)

-- a written number below 0
pub negative_read : (m : ℕ) → suc m < 10000000000 → signed_of (signed_decimal (negsuc m)) ≡ Some (negsuc m)
negative_read m small = ap (λ (o : Option ℕ). o >>= λ n. cond (eqb n 0) None (Some (neg_ℤ (pos n)))) (decimal_read (suc m) small)
    ∙ ap (λ t. cond t None (Some (negsuc m))) (ne_eqb (suc m) 0 (λ e. omega (arith, e)))

-- the next word's number
pub number_there : (word : List ℕ) (words : List (List ℕ)) (z : ℤ) → signed_of word ≡ Some z → number_at (word ∷ words) ≡ Some (z, words)
unfolding number_at
number_there word words z is = ap (λ (o : Option ℤ). o >>= λ n. Some (n, words)) is
