-- A text in parts.
use Rattle.std.specs.Prelude.{ℕ, List, [], ◌∷◌, Bool, true, false, ◌==◌, Some, None}
use Rattle.std.specs.List.{slice_split}
use Rattle.std.specs.declared.option.Option.{Option}

-- the parts of a text round a byte: one more than the byte occurs
abbrev pub parts_at : ℕ → List ℕ → List (List ℕ)
parts_at c bytes = slice_split (λ b. b == c) bytes

-- the parts that are left
abbrev pub parts_left : ℕ → Option (List ℕ) → List (List ℕ)
parts_left c None = []
parts_left c (Some bytes) = parts_at c bytes

-- the list is empty
abbrev pub is_nil : {A : Type 0} → List A → Bool
is_nil [] = true
is_nil (x ∷ xs) = false
