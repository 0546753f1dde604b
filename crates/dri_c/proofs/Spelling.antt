-- The words that a call makes.
use Rattle.std.proofs.Common.{◌≡◌, ◌∷◌, ◌++◌, ◌+◌, ◌<◌, [], ℕ, List, arith, decimal, length, map, take, get_or}
use Rattle.std.specs.String.{string_bytes}
use Rattle.std.specs.declared.string.String.{String}
use Rattle.std.specs.declared.alloc.Global.{Global}
use native.Mathlib.Numerals.{unary_clauses}
use Rattle.std.proofs.lemmas.List.{map-append}
use Rattle.std.proofs.Math.Seq.{take-suc}

-- one number more is one word more
pub one_more : (words new : List (String Global)) (word numbers : List ℕ) (i : ℕ) (next : String Global) → i < length numbers → new ≡ words ++ (next ∷ []) → string_bytes next ≡ decimal (get_or numbers i 0) → map string_bytes words ≡ word ∷ map decimal (take i numbers) → map string_bytes new ≡ word ∷ map decimal (take (i + 1) numbers)
one_more words new word numbers i next below grows spelled before =
    let split : map string_bytes (words ++ (next ∷ [])) ≡ map string_bytes words ++ (string_bytes next ∷ []) = map-append string_bytes words (next ∷ []) in
    let taken : take (i + 1) numbers ≡ take i numbers ++ (get_or numbers i 0 ∷ []) = simp unary_clauses (take-suc numbers i 0 below) in
    let spread : map decimal (take i numbers ++ (get_or numbers i 0 ∷ [])) ≡ map decimal (take i numbers) ++ (decimal (get_or numbers i 0) ∷ []) = map-append decimal (take i numbers) (get_or numbers i 0 ∷ []) in
    grind (arith, split, taken, spread, grows, spelled, before)
