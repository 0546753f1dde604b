-- Words of a line, read from the left: a value, and the words after it.
use Rattle.std.specs.Prelude.{◌≡◌, ◌<◌, ◌↔◌, decimal, ℕ, ◌+◌, ◌-◌, ◌*◌, List, [], ◌∷◌, ℤ, pos, neg_ℤ, ◌&&◌, ◌==◌, nat_lt, nat_le, if◌then◌else◌, Some, None}
use Rattle.std.specs.Char.{is_ascii_digit}
use Rattle.std.specs.declared.option.Option.{Option}
use Rattle.dri_base.specs.declared.colour.Rgb.{Rgb}
use Rattle.dri_base.specs.declared.colour.Rgba.{Rgba}
use Rattle.dri_words.specs.Parts.{is_nil}

-- the next step, where this one gave a value
infixl 10 ◌>>=◌
abbrev pub ◌>>=◌ : {A B : Type 0} → Option A → (A → Option B) → Option B
None >>= f = None
(Some x) >>= f = f x

-- the number that digits go on to, below 10,000,000,000
abbrev pub digits_from : ℕ → List ℕ → Option ℕ
digits_from n [] = Some n
digits_from n (c ∷ cs) = if is_ascii_digit c && nat_lt n 1000000000 then digits_from (n * 10 + (c - 48)) cs else None

-- the number that a word spells: 0, or digits of which the first isn't 0
abbrev pub number_of : List ℕ → Option ℕ
number_of [] = None
number_of (c ∷ cs) = if c == 48 then (if is_nil cs then Some 0 else None) else digits_from 0 (c ∷ cs)

-- law: a word spells a number exactly where it is the number's decimal digits, of which there are at most ten
abbrev pub NumbersAreDecimal : Type 0
NumbersAreDecimal = (word : List ℕ) (n : ℕ) → (number_of word ≡ Some n) ↔ ((n < 10000000000) × (word ≡ decimal n))

-- a hexadecimal digit in lower case
abbrev pub nibble_of : ℕ → Option ℕ
nibble_of c = if nat_le 48 c && nat_le c 57 then Some (c - 48) else if nat_le 97 c && nat_le c 102 then Some (c - 87) else None

-- two hexadecimal digits, the higher first
abbrev pub byte_of : ℕ → ℕ → Option ℕ
byte_of high low = do
  h ← nibble_of high
  l ← nibble_of low
  Some (16 * h + l)

-- six hexadecimal digits
abbrev pub colour_of : List ℕ → Option Rgb
colour_of (a ∷ b ∷ c ∷ d ∷ e ∷ f ∷ []) = do
  red ← byte_of a b
  green ← byte_of c d
  blue ← byte_of e f
  Some record { r = red; g = green; b = blue }
colour_of _ = None

-- the next word, and the words after it
abbrev pub word_at : List (List ℕ) → Option (List ℕ × List (List ℕ))
word_at [] = None
word_at (word ∷ words) = Some (word, words)

-- the number below 0 that digits spell behind a minus sign
abbrev pub negative_of : List ℕ → Option ℤ
negative_of digits = number_of digits >>= λ n. if n == 0 then None else Some (neg_ℤ (pos n))

-- a number, or a number from 1 on behind a minus sign
abbrev pub signed_of : List ℕ → Option ℤ
signed_of [] = None
signed_of (c ∷ cs) = if c == 45 then negative_of cs else (number_of (c ∷ cs) >>= λ n. Some (pos n))

-- the next word's number, and the words after it
unfoldable pub number_at : List (List ℕ) → Option (ℤ × List (List ℕ))
number_at words = do
  word ← word_at words
  number ← signed_of word.0
  Some (number, word.1)

-- the next word's colour, and the words after it
unfoldable pub colour_at : List (List ℕ) → Option (Rgb × List (List ℕ))
colour_at words = do
  word ← word_at words
  colour ← colour_of word.0
  Some (colour, word.1)

-- eight hexadecimal digits
abbrev pub colour_alpha_of : List ℕ → Option Rgba
colour_alpha_of (a ∷ b ∷ c ∷ d ∷ e ∷ f ∷ g ∷ h ∷ []) = do
  red ← byte_of a b
  green ← byte_of c d
  blue ← byte_of e f
  alpha ← byte_of g h
  Some record { r = red; g = green; b = blue; a = alpha }
colour_alpha_of _ = None

-- the next word's colour with alpha, and the words after it
unfoldable pub colour_alpha_at : List (List ℕ) → Option (Rgba × List (List ℕ))
colour_alpha_at words = do
  word ← word_at words
  colour ← colour_alpha_of word.0
  Some (colour, word.1)

-- a value after which no word is left
abbrev pub alone : {A : Type 0} → A → List (List ℕ) → Option A
alone value words = if is_nil words then Some value else None
