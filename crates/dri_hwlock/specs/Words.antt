-- The lock word, of 32 bits: bit 31 says that it is held, bit 30 that it is contended, and the bits below name a context.
use Rattle.std.specs.Prelude.{◌≡◌, ℕ, ◌+◌, ◌*◌, ◌/◌, ◌%◌, ◌<◌, ◌≤◌}

-- the word that names this context and has these two bits
abbrev pub word_of : ℕ → ℕ → ℕ → ℕ
word_of context contended held = context + 1073741824 * contended + 2147483648 * held

-- the word of a hold in the name of this context, while nobody has marked it
abbrev pub held_word : ℕ → ℕ
held_word context = 2147483648 + context

-- bit 30 of a word
abbrev pub contended_bit : ℕ → ℕ
contended_bit word = word / 1073741824 % 2

-- it has 32 bits
abbrev pub IsWord : ℕ → Type 0
IsWord word = word < 4294967296

-- of a word of 32 bits: bit 31 is set
abbrev pub IsHeld : ℕ → Type 0
IsHeld word = 2147483648 ≤ word

-- of a word of 32 bits: bit 31 is clear
abbrev pub IsFree : ℕ → Type 0
IsFree word = word < 2147483648

-- bit 30 is set
abbrev pub IsContended : ℕ → Type 0
IsContended word = contended_bit word ≡ 1

-- bit 30 is clear
abbrev pub IsUncontended : ℕ → Type 0
IsUncontended word = contended_bit word ≡ 0
