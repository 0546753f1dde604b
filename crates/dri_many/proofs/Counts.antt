-- How many members a line names.
use Rattle.std.proofs.Common.{◌≡◌, ℕ, ℤ, List, [], ◌∷◌, length, Bool, true, false, ◌&&◌, nat_le, Option, Some, None, if◌then◌else◌, refl, sym, ap, ◌∙◌, subst, suc, arith, codes}
use Rattle.std.proofs.lemmas.Bool.Decides.{nat_tests}
use Rattle.dri_base.specs.Ranges.{IsWithin}
use Rattle.dri_words.specs.Words.{◌>>=◌}
use Rattle.dri_many.specs.Groupings.{least_members, most_members}
use Rattle.dri_many.specs.Lines.{client_in, clients_in, group_form, named, numbers_of, sized}

-- a step that gave a value
came : {A B : Type 0} (o : Option A) (f : A → Option B) (y : B) → (o >>= f) ≡ Some y → (x : A) × (o ≡ Some x) × (f x ≡ Some y)
came None f y is = absurd (cc)
came (Some x) f y is = (x, refl, is)

some_same : {A : Type 0} (x y : A) → Some x ≡ Some y → x ≡ y
some_same x y is = cc

-- each number names a client
pub as_many : (numbers : List ℤ) (clients : List ℕ) → clients_in numbers ≡ Some clients → length clients ≡ length numbers
as_many [] clients is = ap length (sym (some_same [] clients is))
as_many (number ∷ more) clients is =
    let first = came (client_in number) (λ client. clients_in more >>= λ cs. Some (client ∷ cs)) clients is in
    let rest = came (clients_in more) (λ cs. Some (first.0 ∷ cs)) clients first.2 in
    ap length (sym (some_same (first.0 ∷ rest.0) clients rest.2)) ∙ ap suc (as_many more rest.0 rest.1)

few : (n : ℕ) → (nat_le least_members n && nat_le n most_members) ≡ true → IsWithin least_members most_members n
few n is = (grind (arith, nat_tests, is), grind (arith, nat_tests, is))

sized_are : (ns numbers : List ℤ) → sized ns ≡ Some numbers → IsWithin least_members most_members (length numbers)
sized_are ns numbers is = by_test (nat_le least_members (length ns) && nat_le (length ns) most_members) refl is where
  by_test : (b : Bool) → (nat_le least_members (length ns) && nat_le (length ns) most_members) ≡ b → (if b then Some ns else None) ≡ Some numbers → IsWithin least_members most_members (length numbers)
  by_test true test e = subst (λ (ms : List ℤ). IsWithin least_members most_members (length ms)) (some_same ns numbers e) (few (length ns) test)
  by_test false test e = absurd (cc)

-- a group's line names 2 to 8
pub group_sized : (words : List (List ℕ)) (numbers : List ℤ) → group_form words ≡ Some numbers → IsWithin least_members most_members (length numbers)
unfolding group_form
group_sized words numbers is =
    let fields = came (named (codes "group") words) (λ fs. numbers_of fs >>= sized) numbers is in
    let read = came (numbers_of fields.0) sized numbers fields.2 in
    sized_are read.0 numbers read.2
