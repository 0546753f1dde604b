-- Places of lists: what stands at a place after a write, and numbers that rise.
use Rattle.std.proofs.Common.{◌≡◌, ◌≢◌, ◌<◌, ℕ, List, Bool, true, false, length, Some, arith, refl, sym, ap, ◌∙◌}
use Rattle.std.proofs.Math.ListN.{set, length-set}
use Rattle.std.specs.Prelude.{AllPairs, Contains, nat_lt, slice_get}
use Rattle.std.proofs.lemmas.Bool.Decides.{nat_tests}
use Rattle.std.proofs.lemmas.List.{get_or-set_same, get_or-set_other}
use Rattle.std.proofs.lemmas.Option.{get_or_from_slice_get, slice_get-get_or, slice_get_within}

-- a list has what stands at a place
pub stands : (ns : List ℕ) (i n : ℕ) → slice_get ns i ≡ Some n → Contains ns n
stands ns i n e = (i, slice_get_within ns i n e, get_or_from_slice_get ns i n n e)

-- what was written stands there
pub written : {A : Type 0} (xs : List A) (i : ℕ) (x y : A) → slice_get (set xs i x) i ≡ Some y → y ≡ x
written xs i x y e =
    let within : i < length (set xs i x) = slice_get_within (set xs i x) i y e in
    let inside : i < length xs = omega (arith, within, length-set xs i x) in
    sym (get_or_from_slice_get (set xs i x) i y x e) ∙ get_or-set_same xs i x x inside

-- what stands elsewhere stood there
pub unwritten : {A : Type 0} (xs : List A) (i j : ℕ) (x y : A) → j ≢ i → slice_get (set xs i x) j ≡ Some y → slice_get xs j ≡ Some y
unwritten xs i j x y ne e =
    let within : j < length (set xs i x) = slice_get_within (set xs i x) j y e in
    let inside : j < length xs = omega (arith, within, length-set xs i x) in
    slice_get-get_or xs j y inside ∙ ap Some (sym (get_or-set_other xs i j x y ne) ∙ get_or_from_slice_get (set xs i x) j y y e)

-- at two places of numbers that rise stand two numbers
pub apart : (ns : List ℕ) (i j n m : ℕ) → AllPairs ◌<◌ ns → slice_get ns i ≡ Some n → slice_get ns j ≡ Some m → j ≢ i → m ≢ n
apart ns i j n m rising at_i at_j ne same = by_order (nat_lt i j) refl
  where
    by_order : (b : Bool) → nat_lt i j ≡ b → ⊥
    by_order true o =
        let lt : i < j = grind (arith, nat_tests) in
        omega (arith, rising i j 0 lt (slice_get_within ns j m at_j), get_or_from_slice_get ns i n 0 at_i, get_or_from_slice_get ns j m 0 at_j, same)
    by_order false o =
        let lt : j < i = grind (arith, nat_tests, ne) in
        omega (arith, rising j i 0 lt (slice_get_within ns i n at_i), get_or_from_slice_get ns i n 0 at_i, get_or_from_slice_get ns j m 0 at_j, same)
