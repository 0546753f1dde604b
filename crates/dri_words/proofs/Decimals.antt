-- The words that spell a number are its decimal digits.
use Rattle.std.proofs.Common.{◌≡◌, ℕ, zero, suc, ◌+◌, ◌-◌, ◌*◌, ◌/◌, ◌%◌, ◌<◌, ◌≤◌, Bool, true, false, cond, List, [], ◌∷◌, ◌++◌, get_or, Some, None, refl, sym, ap, subst, ◌∙◌, append_assoc, inl, inr, arith}
use Rattle.std.proofs.lemmas.Bool.{ne_eqb}
use Rattle.std.proofs.lemmas.Bool.Decides.{nat_tests, eqb_tells}
use Rattle.std.proofs.lemmas.List.{append-nil}
use Rattle.std.proofs.lemmas.Fmt.{decimal_digit, decimal_by_steps, decimal_step, first_decimal}
use Rattle.std.specs.Char.{is_ascii_digit}
use Rattle.std.specs.Prelude.{◌&&◌, nat_lt}
use Rattle.std.specs.Fmt.{decimal}
use Rattle.std.proofs.lemmas.Option.{same_Some}
use Rattle.dri_words.specs.Parts.{is_nil}
use Rattle.dri_words.specs.Words.{◌>>=◌, NumbersAreDecimal, digits_from, number_of}

-- one more digit at the end
digits_push : (n : ℕ) (ds : List ℕ) (c : ℕ) → digits_from n (ds ++ c ∷ []) ≡ (digits_from n ds >>= λ m. digits_from m (c ∷ []))
digits_push n [] c = refl
digits_push n (d ∷ ds) c = chosen (is_ascii_digit d && nat_lt n 1000000000) (digits_push (n * 10 + (d - 48)) ds c) where
  chosen : (b : Bool) → digits_from (n * 10 + (d - 48)) (ds ++ c ∷ []) ≡ (digits_from (n * 10 + (d - 48)) ds >>= λ m. digits_from m (c ∷ []))
      → cond b (digits_from (n * 10 + (d - 48)) (ds ++ c ∷ [])) None ≡ (cond b (digits_from (n * 10 + (d - 48)) ds) None >>= λ m. digits_from m (c ∷ []))
  chosen true later = later
  chosen false later = refl

-- a digit behind a small number
one_digit : (m d : ℕ) → d < 10 → m < 1000000000 → digits_from m ((48 + d) ∷ []) ≡ Some (m * 10 + d)
one_digit m d small below = grind (arith, nat_tests)

-- the digits of a number spell it
digits_decimal_read : (n : ℕ) → n < 10000000000 → digits_from 0 (decimal n) ≡ Some n
digits_decimal_read n small = decimal_by_steps (λ n ds. n < 10000000000 → digits_from 0 ds ≡ Some n) one more n (omega arith) small where
  one : (n : ℕ) → n < 10 → n < 10000000000 → digits_from 0 ((48 + n) ∷ []) ≡ Some n
  one n below small = one_digit 0 n below (omega arith) ∙ ap Some (omega arith)

  more : (n : ℕ) (ds : List ℕ) → 10 ≤ n → (n / 10 < 10000000000 → digits_from 0 ds ≡ Some (n / 10)) → n < 10000000000 → digits_from 0 (ds ++ ((48 + n % 10) ∷ [])) ≡ Some n
  more n ds large before small =
      digits_push 0 ds (48 + n % 10) ∙ ap (λ r. r >>= λ m. digits_from m ((48 + n % 10) ∷ [])) (before (omega arith))
      ∙ one_digit (n / 10) (n % 10) (omega arith) (omega arith) ∙ ap Some (omega arith)

-- digits of which the first isn't 0
number_of_digits : (ds : List ℕ) → 48 < get_or ds 0 0 → number_of ds ≡ digits_from 0 ds
number_of_digits [] first = absurd (omega arith)
number_of_digits (c ∷ cs) first = rw (ne_eqb c 48 (λ e. omega arith)) refl

-- a written number is read again
pub decimal_read : (n : ℕ) → n < 10000000000 → number_of (decimal n) ≡ Some n
decimal_read zero small = ap number_of (decimal_digit 0 (omega arith))
decimal_read (suc n) small = number_of_digits (decimal (suc n)) (first_decimal (suc n) (omega arith) (omega arith)) ∙ digits_decimal_read (suc n) small

-- one more digit behind a number's
decimal_more : (m d : ℕ) → 0 < m → d < 10 → m < 1000000000 → decimal m ++ (48 + d) ∷ [] ≡ decimal (m * 10 + d)
decimal_more m d some small below =
    let whole : (m * 10 + d) / 10 ≡ m = omega arith in
    let last : (m * 10 + d) % 10 ≡ d = omega arith in
    sym (decimal_step (m * 10 + d) (omega arith) (omega arith) ∙ ap (λ k. decimal k ++ ((48 + (m * 10 + d) % 10) ∷ [])) whole ∙ ap (λ k. decimal m ++ ((48 + k) ∷ [])) last)

-- a digit, and a number that has room for one more
record Digit (c n : ℕ) : Type 0 where
  value : ℕ
  is : c ≡ 48 + value
  small : value < 10
  below : n < 1000000000

digit_told : (c n : ℕ) → (is_ascii_digit c && nat_lt n 1000000000) ≡ true → Digit c n
digit_told c n told = record { value = c - 48; is = grind (arith, nat_tests); small = grind (arith, nat_tests); below = grind (arith, nat_tests) }

none_some : {n : ℕ} → None ≡ Some n → ⊥
none_some is = cc

-- the digits behind a number's go on to the digits of the whole
goes_on : (ds : List ℕ) (m n : ℕ) → 0 < m → m < 10000000000 → digits_from m ds ≡ Some n → (n < 10000000000) × (decimal m ++ ds ≡ decimal n)
goes_on [] m n some small is = let same = same_Some _ _ is in (subst (λ k. k < 10000000000) same small, append-nil (decimal m) ∙ ap decimal same)
goes_on (c ∷ cs) m n some small is = told (λ k. goes_on cs k n) (is_ascii_digit c && nat_lt m 1000000000) refl where
  told : ((k : ℕ) → 0 < k → k < 10000000000 → digits_from k cs ≡ Some n → (n < 10000000000) × (decimal k ++ cs ≡ decimal n)) → (b : Bool) → (is_ascii_digit c && nat_lt m 1000000000) ≡ b → (n < 10000000000) × (decimal m ++ c ∷ cs ≡ decimal n)
  told further false test = absurd (none_some (rw test at is))
  told further true test =
      let digit = digit_told c m test in
      let d = digit.value in
      let value : c - 48 ≡ d = let e = digit.is in omega (arith, e) in
      let later = further (m * 10 + d) (omega (arith, some)) (let s = digit.small in let b = digit.below in omega (arith, s, b)) (subst (λ k. digits_from (m * 10 + k) cs ≡ Some n) value (rw test at is)) in
      (later.0, ap (λ k. decimal m ++ k ∷ cs) digit.is ∙ sym (append_assoc (decimal m) ((48 + d) ∷ []) cs) ∙ ap (λ ds. ds ++ cs) (decimal_more m d some digit.small digit.below) ∙ later.1)

-- a word whose first digit isn't 0 spells a number in its digits
first_digit : (c : ℕ) (cs : List ℕ) (n : ℕ) → (c ≡ 48 → ⊥) → digits_from 0 (c ∷ cs) ≡ Some n → (n < 10000000000) × (c ∷ cs ≡ decimal n)
first_digit c cs n other is = told (is_ascii_digit c && nat_lt 0 1000000000) refl where
  told : (b : Bool) → (is_ascii_digit c && nat_lt 0 1000000000) ≡ b → (n < 10000000000) × (c ∷ cs ≡ decimal n)
  told false test = absurd (none_some (rw test at is))
  told true test =
      let digit = digit_told c 0 test in
      let d = digit.value in
      let value : 0 + (c - 48) ≡ d = let e = digit.is in omega (arith, e) in
      let some : 0 < d = above d digit.is in
      let later = goes_on cs d n some (let s = digit.small in omega (arith, s)) (subst (λ k. digits_from k cs ≡ Some n) value (rw test at is)) in
      (later.0, ap (λ k. k ∷ cs) digit.is ∙ ap (λ ds. ds ++ cs) (sym (decimal_digit d digit.small)) ∙ later.1)
    where
      above : (d : ℕ) → c ≡ 48 + d → 0 < d
      above zero is = absurd (other (is ∙ omega arith))
      above (suc d) is = omega arith

-- a word that spells a number is the number in digits
spelled : (word : List ℕ) (n : ℕ) → number_of word ≡ Some n → (n < 10000000000) × (word ≡ decimal n)
spelled [] n is = absurd (none_some is)
spelled (c ∷ cs) n is = elim (eqb_tells c 48) as (λ _. (n < 10000000000) × (c ∷ cs ≡ decimal n)) [
  | inl same ↦ alone cs (rw same.0 at is) same.1
  | inr other ↦ first_digit c cs n other.1 (rw other.0 at is)
] where
  alone : (cs : List ℕ) → cond (is_nil cs) (Some 0) None ≡ Some n → c ≡ 48 → (n < 10000000000) × (c ∷ cs ≡ decimal n)
  alone [] zero_is zero_byte = let none = same_Some _ _ zero_is in (omega (arith, none), ap (λ k. k ∷ []) zero_byte ∙ sym (decimal_digit 0 (omega arith)) ∙ ap decimal none)
  alone (d ∷ ds) none zero_byte = absurd (none_some none)

-- both ways
pub numbers_are_decimal : NumbersAreDecimal
numbers_are_decimal word n = ((λ is. spelled word n is), (λ digits. ap number_of digits.1 ∙ decimal_read n digits.0))
