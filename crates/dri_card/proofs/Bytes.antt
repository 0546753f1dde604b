-- Bytes of the texture memory.
use Rattle.std.proofs.Common.{◌≡◌, ℕ, List, replicate, nat_lt, Bool, true, false, refl, arith}
use Rattle.std.proofs.lemmas.Bool.Decides.{nat_tests}
use Rattle.std.proofs.lemmas.List.{get_or_past, get_or-replicate, length-replicate}
use Rattle.dri_walk.specs.Samplings.{byte_in}

-- a memory of zeros
pub zeros_read : (bytes : List ℕ) (n : ℕ) → bytes ≡ replicate n 0 → byte_in bytes ≡ (λ a. 0)
zeros_read bytes n is = λ i a. at a i where
  at : (a : ℕ) → byte_in bytes a ≡ 0
  at a = by (nat_lt a n) refl where
    by : (b : Bool) → nat_lt a n ≡ b → byte_in bytes a ≡ 0
    by true e = rw is (get_or-replicate n a 0 0 (grind (arith, nat_tests, e)))
    by false e = rw is (get_or_past (replicate n 0) a 0 (rw (length-replicate {A = ℕ} n 0) (grind (arith, nat_tests, e))))
