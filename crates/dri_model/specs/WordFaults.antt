-- Where a list of words goes wrong, for a kind of lists such as register lists or command buffers.
use Rattle.std.specs.Prelude.{◌≡◌, ◌⊎◌, ℕ, ◌+◌, List, ◌++◌, length, take, slice_get, Some}

-- some list of the kind begins with these words
abbrev pub Begins : (List ℕ → Type 0) → List ℕ → Type 0
Begins Kind words = (rest : List ℕ) × Kind (words ++ rest)

-- the first word that no list of the kind has at that place after the words before it
pub record IsWrongWord (Kind : List ℕ → Type 0) (words : List ℕ) (at word : ℕ) : Type 0 where
  pub there : slice_get words at ≡ Some word
  pub before : Begins Kind (take at words)
  pub wrong : Begins Kind (take (at + 1) words) → ⊥

-- the list ends where one of the kind would go on; then the place is its length and the word 0
pub record IsCutShort (Kind : List ℕ → Type 0) (words : List ℕ) (at word : ℕ) : Type 0 where
  pub end : at ≡ length words
  pub zero : word ≡ 0
  pub before : Begins Kind words
  pub short : Kind words → ⊥

-- the fault of a list that isn't of the kind
abbrev pub IsBadWord : (List ℕ → Type 0) → List ℕ → ℕ → ℕ → Type 0
IsBadWord Kind words at word = IsWrongWord Kind words at word ⊎ IsCutShort Kind words at word

-- a list has at most one fault, and none where it is of the kind
pub record HasOneFault (Kind : List ℕ → Type 0) (words : List ℕ) : Type 0 where
  pub one : (a v b w : ℕ) → IsBadWord Kind words a v → IsBadWord Kind words b w → (a ≡ b) × (v ≡ w)
  pub none : (a v : ℕ) → IsBadWord Kind words a v → Kind words → ⊥
