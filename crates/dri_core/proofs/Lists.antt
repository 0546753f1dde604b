-- Places of lists: what stands at a place after a write or a push, numbers that rise, and the numbers of scripts.
use Rattle.std.proofs.Common.{◌≡◌, ◌≢◌, ◌<◌, ◌⊎◌, ℕ, zero, suc, List, [], ◌∷◌, ◌++◌, Bool, true, false, length, Some, arith, refl, sym, ap, ◌∙◌, inl, inr}
use Rattle.std.proofs.Math.ListN.{set, length-set}
use Rattle.std.specs.Option.{option_map}
use Rattle.std.specs.Prelude.{AllPairs, nat_lt, slice_get}
use Rattle.std.proofs.lemmas.Bool.Decides.{nat_tests}
use Rattle.std.proofs.lemmas.List.{get_or-set_same, get_or-set_other}
use Rattle.std.proofs.lemmas.Option.{get_or_from_slice_get, same_Some, slice_get-get_or, slice_get-map, slice_get_within}
use Rattle.dri_base.specs.Ranges.{client_numbers}
use Rattle.dri_base.specs.declared.scene.ClientScript.{ClientScript}

-- what was written stands there
pub written : {A : Type 0} (xs : List A) (i : ℕ) (x y : A) → slice_get (set xs i x) i ≡ Some y → y ≡ x
written xs i x y e =
    let within : i < length (set xs i x) = slice_get_within (set xs i x) i y e in
    let inside : i < length xs = omega (arith, within, length-set xs i x) in
    sym (get_or_from_slice_get (set xs i x) i y x e) ∙ get_or-set_same xs i x x inside

-- what stands elsewhere stood there
pub unwritten : {A : Type 0} (xs : List A) (i j : ℕ) (x y : A) → j ≢ i → slice_get (set xs i x) j ≡ Some y → slice_get xs j ≡ Some y
unwritten xs i j x y ne e =
    let within : j < length (set xs i x) = slice_get_within (set xs i x) j y e in
    let inside : j < length xs = omega (arith, within, length-set xs i x) in
    slice_get-get_or xs j y inside ∙ ap Some (sym (get_or-set_other xs i j x y ne) ∙ get_or_from_slice_get (set xs i x) j y y e)

-- what stands in a list with one item more stood there, or is that item
pub pushed_at : {A : Type 0} (xs : List A) (x : A) (j : ℕ) (y : A) → slice_get (xs ++ x ∷ []) j ≡ Some y → (slice_get xs j ≡ Some y) ⊎ ((j ≡ length xs) × (x ≡ y))
pushed_at [] x zero y e = inr (refl, same_Some _ _ e)
pushed_at [] x (suc j) y e = absurd (grind arith)
pushed_at (z ∷ xs) x zero y e = inl e
pushed_at (z ∷ xs) x (suc j) y e = elim (pushed_at xs x j y e) [ inl h ↦ inl h | inr h ↦ inr (ap suc h.0, h.1) ]

-- at two places of numbers that rise stand two numbers
pub apart : (ns : List ℕ) (i j n m : ℕ) → AllPairs ◌<◌ ns → slice_get ns i ≡ Some n → slice_get ns j ≡ Some m → j ≢ i → m ≢ n
apart ns i j n m rising at_i at_j ne same = by_order (nat_lt i j) refl
  where
    by_order : (b : Bool) → nat_lt i j ≡ b → ⊥
    by_order true o =
        let lt : i < j = grind (arith, nat_tests) in
        omega (arith, rising i j 0 lt (slice_get_within ns j m at_j), get_or_from_slice_get ns i n 0 at_i, get_or_from_slice_get ns j m 0 at_j, same)
    by_order false o =
        let lt : j < i = grind (arith, nat_tests, ne) in
        omega (arith, rising j i 0 lt (slice_get_within ns i n at_i), get_or_from_slice_get ns i n 0 at_i, get_or_from_slice_get ns j m 0 at_j, same)

-- the number of the script at a place
pub number_at : (ps : List ClientScript) (i : ℕ) (p : ClientScript) → slice_get ps i ≡ Some p → slice_get (client_numbers ps) i ≡ Some p.number
number_at ps i p e = slice_get-map (λ (q : ClientScript). q.number) ps i ∙ ap (option_map (λ (q : ClientScript). q.number)) e
