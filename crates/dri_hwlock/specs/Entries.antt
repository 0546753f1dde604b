-- Lists of entries, each of which belongs to a context.
use Rattle.std.specs.Prelude.{◌≡◌, ℕ, ◌==◌, cond, List, [], ◌∷◌, ◌++◌}

module _ {E : Type 0} where
  -- the list begins with the entries that were seen
  abbrev pub StartsWith : List E → List E → Type 0
  StartsWith entries seen = (later : List E) × (entries ≡ seen ++ later)

  -- it begins with each of these lists
  abbrev pub StartsWithEach : List E → List (List E) → Type 0
  StartsWithEach entries [] = Unit {0}
  StartsWithEach entries (seen ∷ others) = StartsWith entries seen × StartsWithEach entries others

  -- the entries of the context x, in their order
  abbrev pub mine : (E → ℕ) → ℕ → List E → List E
  mine context_of x [] = []
  mine context_of x (e ∷ es) = cond (context_of e == x) (e ∷ mine context_of x es) (mine context_of x es)

  -- all entries are of the context x
  abbrev pub AllOf : (E → ℕ) → ℕ → List E → Type 0
  AllOf context_of x [] = Unit {0}
  AllOf context_of x (e ∷ es) = (context_of e ≡ x) × AllOf context_of x es

  -- a hold of the context x found the entries `found`, and has added some of its own to them
  abbrev pub Adds : (E → ℕ) → ℕ → List E → List E → Type 0
  Adds context_of x found left = (added : List E) × (left ≡ found ++ added) × AllOf context_of x added
