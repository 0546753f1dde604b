-- Remainders by a reciprocal that is rounded up.
use Rattle.std.proofs.Common.{◌≡◌, ℕ, ◌+◌, ◌-◌, ◌*◌, ◌/◌, ◌%◌, ◌<◌, ◌≤◌, sym, ap, ◌∙◌, arith}
use Rattle.std.proofs.lemmas.Nat.{mul-le, div-mul-add, div-add-mod', mod_below}

-- the reciprocal isn't small
reciprocal_from : (m side : ℕ) → side ≤ 256 → 4294967296 ≤ m * side → 16777216 ≤ m
reciprocal_from m side most low =
    let all : m * side ≤ m * 256 = mul-le m side m 256 (omega arith) most in
    omega (arith, low, all)

-- a rest e above 2^32
over : (m side : ℕ) → 4294967296 ≤ m * side → m * side < 4294967296 + side → (e : ℕ) × (m * side ≡ 4294967296 + e) × (e < side)
over m side low high = (m * side - 4294967296, omega (arith, low), omega (arith, low, high))

product : (q r side m e : ℕ) → m * side ≡ 4294967296 + e → (q * side + r) * m ≡ q * 4294967296 + (q * e + r * m)
product q r side m e is =
    let one : (q * side + r) * m ≡ q * (m * side) + r * m = omega arith in
    one ∙ ap (λ p. q * p + r * m) is ∙ omega arith

-- what is left over 2^32 times the quotient is less than 2^32
left_over : (q r side m e : ℕ) → 1 ≤ side → side ≤ 256 → q < 4096 → r < side → e < side → m * side ≡ 4294967296 + e → q * e + r * m < 4294967296
left_over q r side m e some most small below rest is =
    let from : 16777216 ≤ m = reciprocal_from m side most (omega (arith, is)) in
    let qe : q * e ≤ 4095 * 255 = mul-le q e 4095 255 (omega (arith, small)) (omega (arith, rest, most)) in
    let rm : (r + 1) * m ≤ side * m = mul-le (r + 1) m side m (omega (arith, below)) (omega arith) in
    let turned : side * m ≡ m * side = omega arith in
    omega (arith, from, qe, rm, turned, is, rest, most)

pub quotient_is : (n side m : ℕ) → n < 4096 → 1 ≤ side → side ≤ 256 → 4294967296 ≤ m * side → m * side < 4294967296 + side → n * m / 4294967296 ≡ n / side
quotient_is n side m small some most low high =
    let o = over m side low high in
    let whole : (n / side) * side + n % side ≡ n = div-add-mod' n side in
    let below : n % side < side = mod_below n side (omega (arith, some)) in
    let few : (n / side) * 1 ≤ (n / side) * side = mul-le (n / side) 1 (n / side) side (omega arith) some in
    let q_small : n / side < 4096 = omega (arith, whole, few, small) in
    ap (λ k. k * m / 4294967296) (sym whole)
    ∙ ap (λ k. k / 4294967296) (product (n / side) (n % side) side m o.0 o.1)
    ∙ div-mul-add (n / side) 4294967296 ((n / side) * o.0 + (n % side) * m) (left_over (n / side) (n % side) side m o.0 some most q_small below o.2 o.1)

-- what is left of a number by a side
pub rest_is : (n side m : ℕ) → n < 4096 → 1 ≤ side → side ≤ 256 → 4294967296 ≤ m * side → m * side < 4294967296 + side → (n * m / 4294967296 * side ≤ n) × (n - n * m / 4294967296 * side ≡ n % side)
rest_is n side m small some most low high =
    let times : n * m / 4294967296 * side ≡ n / side * side = ap (λ q. q * side) (quotient_is n side m small some most low high) in
    let whole : (n / side) * side + n % side ≡ n = div-add-mod' n side in
    (omega (arith, times, whole), omega (arith, times, whole))
