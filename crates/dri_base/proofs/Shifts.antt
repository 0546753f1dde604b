-- Numbers that are moved, in a comparison.
use Rattle.std.proofs.Common.{◌≡◌, ℤ, ◌+ℤ◌, ◌-ℤ◌, ◌≤ℤ◌, ◌<ℤ◌, true, false, sym, ◌∙◌, arith}
use Rattle.std.specs.Prelude.{int_le, int_lt}
use Rattle.std.proofs.lemmas.Int.{ints, by_lt_z}

pub le_moved : (a b d : ℤ) → int_le (a +ℤ d) b ≡ int_le a (b -ℤ d)
le_moved a b d = by_lt_z b (a +ℤ d) (λ h. no h ∙ sym (no' h)) (λ h. yes h ∙ sym (yes' h))
  where
    no : b <ℤ (a +ℤ d) → int_le (a +ℤ d) b ≡ false
    no h = grind (arith, ints)

    no' : b <ℤ (a +ℤ d) → int_le a (b -ℤ d) ≡ false
    no' h = grind (arith, ints)

    yes : (a +ℤ d) ≤ℤ b → int_le (a +ℤ d) b ≡ true
    yes h = grind (arith, ints)

    yes' : (a +ℤ d) ≤ℤ b → int_le a (b -ℤ d) ≡ true
    yes' h = grind (arith, ints)

pub lt_moved : (a b d : ℤ) → int_lt b (a +ℤ d) ≡ int_lt (b -ℤ d) a
lt_moved a b d = by_lt_z b (a +ℤ d) (λ h. yes h ∙ sym (yes' h)) (λ h. no h ∙ sym (no' h))
  where
    yes : b <ℤ (a +ℤ d) → int_lt b (a +ℤ d) ≡ true
    yes h = grind (arith, ints)

    yes' : b <ℤ (a +ℤ d) → int_lt (b -ℤ d) a ≡ true
    yes' h = grind (arith, ints)

    no : (a +ℤ d) ≤ℤ b → int_lt b (a +ℤ d) ≡ false
    no h = grind (arith, ints)

    no' : (a +ℤ d) ≤ℤ b → int_lt (b -ℤ d) a ≡ false
    no' h = grind (arith, ints)
