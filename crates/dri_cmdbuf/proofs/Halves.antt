-- Words of sixteen and eight bits, there and back.
use Rattle.std.proofs.Common.{◌≡◌, ℕ, ◌+◌, ◌-◌, ◌*◌, ◌/◌, ◌%◌, ◌<◌, ◌≤◌, pos, negsuc, ◌+ℤ◌, ◌-ℤ◌, nat_abs, int_lt, nat_lt, ap, ◌∙◌, inl, inr, arith}
use Rattle.std.proofs.lemmas.Int.{ints}
use Rattle.std.proofs.lemmas.Bool.{cases_lt, lt-ltb, le-ltb, cond-true, cond-false}
use Rattle.std.proofs.Math.Nat.{div-div-eq-div-mul}
use Rattle.dri_base.specs.Ranges.{IsVertexPlace}
use Rattle.dri_model.specs.CommandWords.{low_half, colour_word, IsColour}
use Rattle.dri_cmdbuf.specs.Decoding.{coordinate_of, colour_of}

low_pos : (n : ℕ) → low_half (pos n) ≡ n
low_pos n = cond-false (int_lt (pos n) (pos 0)) (nat_abs (pos n +ℤ pos 65536)) n (grind (arith, ints))

low_neg : (n : ℕ) → low_half (negsuc n) ≡ nat_abs (negsuc n +ℤ pos 65536)
low_neg n = cond-true (int_lt (negsuc n) (pos 0)) (nat_abs (negsuc n +ℤ pos 65536)) (nat_abs (negsuc n)) (grind (arith, ints))

-- sixteen bits as a coordinate, and back
pub low_of : (h : ℕ) → h ≤ 65535 → low_half (coordinate_of h) ≡ h
low_of h small = elim (cases_lt h 32768) as (λ _. low_half (coordinate_of h) ≡ h) [
  | inl low ↦ ap low_half (cond-true (nat_lt h 32768) (pos h) (pos h -ℤ pos 65536) (lt-ltb h 32768 low)) ∙ low_pos h
  | inr high ↦
      let k : ℕ = 65535 - h in
      let e : pos h -ℤ pos 65536 ≡ negsuc k = omega (arith, ints) in
      let back : negsuc k +ℤ pos 65536 ≡ pos h = omega (arith, ints) in
      ap low_half (cond-false (nat_lt h 32768) (pos h) (pos h -ℤ pos 65536) (le-ltb h 32768 high) ∙ e) ∙ low_neg k ∙ ap nat_abs back
]

pub coordinate_inside : (h : ℕ) → h ≤ 65535 → IsVertexPlace (coordinate_of h)
coordinate_inside h small = elim (cases_lt h 32768) as (λ _. IsVertexPlace (coordinate_of h)) [
  | inl low ↦ rw (cond-true (nat_lt h 32768) (pos h) (pos h -ℤ pos 65536) (lt-ltb h 32768 low)) (grind (arith, ints), grind (arith, ints))
  | inr high ↦ rw (cond-false (nat_lt h 32768) (pos h) (pos h -ℤ pos 65536) (le-ltb h 32768 high)) (grind (arith, ints), grind (arith, ints))
]

-- a word's colour, and back
pub coloured : (w : ℕ) → colour_word (colour_of w) ≡ w
coloured w =
    let second : w / 256 / 256 ≡ w / 65536 = div-div-eq-div-mul w 256 256 in
    let third : w / 65536 / 256 ≡ w / 16777216 = div-div-eq-div-mul w 65536 256 in
    let a : 256 * (w / 256) + w % 256 ≡ w = omega arith in
    let b : 256 * (w / 256 / 256) + w / 256 % 256 ≡ w / 256 = omega arith in
    let c : 256 * (w / 65536 / 256) + w / 65536 % 256 ≡ w / 65536 = omega arith in
    omega (arith, a, rw second at b, rw third at c)

pub colour_inside : (w : ℕ) → w < 4294967296 → IsColour (colour_of w)
colour_inside w small = record { r = omega arith; g = omega arith; b = omega arith; a = omega arith }
