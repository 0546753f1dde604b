-- A number's digits are a word, and a number in its range is kept.
use Rattle.std.proofs.Common.{◌≡◌, ℕ, ◌+◌, ◌%◌, ◌^◌, ◌<◌, ◌≤◌, Bool, true, false, List, [], ◌∷◌, ◌++◌, Some, pos, refl, ap, ◌&&◌, nat_lt, arith}
use Rattle.std.specs.Fmt.{decimal}
use Rattle.std.proofs.lemmas.Bool.{lt-ltb, le-leb}
use Rattle.std.proofs.lemmas.Fmt.{decimal_by_steps}
use Rattle.dri_words.specs.Ranges.{within}
use Rattle.dri_words.proofs.Splitting.{is_word}

pub word_append : (xs ys : List ℕ) → is_word xs ≡ true → is_word ys ≡ true → is_word (xs ++ ys) ≡ true
word_append [] ys first second = second
word_append (x ∷ xs) ys first second = head (nat_lt 32 x) (is_word xs) (is_word (xs ++ ys)) first (λ is. word_append xs ys is second) where
  head : (a b c : Bool) → (a && b) ≡ true → (b ≡ true → c ≡ true) → (a && c) ≡ true
  head true b c is on = on is
  head false b c is on = is

-- a number's digits
pub decimal_word : (n : ℕ) → n < 2 ^ 64 → is_word (decimal n) ≡ true
decimal_word n small = decimal_by_steps (λ m ds. is_word ds ≡ true) one more n small where
  digit_word : (d : ℕ) → is_word ((48 + d) ∷ []) ≡ true
  digit_word d = ap (λ t. t && true) (lt-ltb 32 (48 + d) (omega arith))

  one : (m : ℕ) → m < 10 → is_word ((48 + m) ∷ []) ≡ true
  one m below = digit_word m

  more : (m : ℕ) (ds : List ℕ) → 10 ≤ m → is_word ds ≡ true → is_word (ds ++ ((48 + m % 10) ∷ [])) ≡ true
  more m ds large before = word_append ds ((48 + m % 10) ∷ []) before (digit_word (m % 10))

-- a number in its range
pub kept : (low high n : ℕ) → low ≤ n → n ≤ high → within low high (pos n) ≡ Some n
kept low high n above below = rw (le-leb low n above, le-leb n high below) refl
