-- The lesser and the greater of two numbers.
use Rattle.std.proofs.Common.{◌≡◌, Bool, true, false, arith, refl}
use Rattle.std.specs.Prelude.{ℤ, ◌≤ℤ◌, ◌&&◌, int_le, int_lt}
use Rattle.std.proofs.lemmas.Int.{ints}
use Rattle.dri_rect.specs.Walk.{lesser_of, greater_of}

pub least_both : (a b z : ℤ) → int_le (greater_of a b) z ≡ (int_le a z && int_le b z)
least_both a b z = grind (arith, ints)

pub most_both : (a b z : ℤ) → int_lt z (lesser_of a b) ≡ (int_lt z a && int_lt z b)
most_both a b z = grind (arith, ints)

pub low_first : (a b : ℤ) → lesser_of a b ≤ℤ a
low_first a b = grind (arith, ints)

pub low_second : (a b : ℤ) → lesser_of a b ≤ℤ b
low_second a b = grind (arith, ints)

pub high_first : (a b : ℤ) → a ≤ℤ greater_of a b
high_first a b = grind (arith, ints)

pub high_second : (a b : ℤ) → b ≤ℤ greater_of a b
high_second a b = grind (arith, ints)

-- two starts and two ends
pub mixed : (p q r s : Bool) → ((p && q) && (r && s)) ≡ ((p && r) && (q && s))
mixed true true r s = refl
mixed true false true s = refl
mixed true false false s = refl
mixed false q r s = refl
