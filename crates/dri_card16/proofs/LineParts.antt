-- The parts of a line that a column has.
use Rattle.std.proofs.Common.{◌≡◌, ℕ, ◌+◌, ◌*◌, ◌/◌, ◌≤◌, Bool, true, false, ◌&&◌, if◌then◌else◌, ℤ, pos, ◌+ℤ◌, ◌-ℤ◌, ◌*ℤ◌, ◌≤ℤ◌, ◌<ℤ◌, int_le, int_lt, nat_abs, refl, ◌∙◌, arith}
use Rattle.std.proofs.lemmas.Int.{ints}
use Rattle.std.proofs.Math.Nat.{mul-le-mul_left, div-le_of_le-mul}
use Rattle.dri_base.specs.declared.colour.Rgba.{Rgba}
use Rattle.dri_base.specs.declared.shape.Vertex.{Vertex}
use Rattle.dri_base.specs.Ranges.{VertexInRange}
use Rattle.dri_card16.specs.declared.line.Line.{Line}
use Rattle.dri_card16.specs.Dots.{IsLineInRange}
use Rattle.dri_card16.specs.Lines.{between, has_pixel, middle, rising}

-- the ends of a line in either order
pub rising_in_range : (x_major : Bool) (flat : Rgba) (a b : Vertex) → VertexInRange a → VertexInRange b → IsLineInRange (rising x_major flat a b)
rising_in_range x_major flat a b in_a in_b = by (int_lt b.x a.x) where
  by : (c : Bool) → IsLineInRange (if c then record { first = b; last = a; x_major = x_major; flat = flat } else record { first = a; last = b; x_major = x_major; flat = flat })
  by true = (in_b, in_a)
  by false = (in_a, in_b)

-- a column's centre lies between the ends
pub centre_between : (l : Line) (n : ℤ) → has_pixel l n ≡ true → (l.first.x ≤ℤ middle n) × (middle n <ℤ l.last.x)
centre_between l n h = (low l.first.x (middle n) (first_of _ _ h), high (middle n) l.last.x (second_of _ _ h)) where
  first_of : (a b : Bool) → (a && b) ≡ true → a ≡ true
  first_of true b h = refl
  first_of false b h = cc

  second_of : (a b : Bool) → (a && b) ≡ true → b ≡ true
  second_of true b h = h
  second_of false b h = cc

  low : (a b : ℤ) → int_le a b ≡ true → a ≤ℤ b
  low a b h = grind (arith, ints, h)

  high : (a b : ℤ) → int_lt a b ≡ true → a <ℤ b
  high a b h = grind (arith, ints, h)

-- a mean is at most what both numbers are
pub mean_bounded : (p u q v k : ℕ) → u ≤ k → v ≤ k → (p * u + q * v) / (p + q) ≤ k
mean_bounded p u q v k hu hv = div-le_of_le-mul (p + q) (omega (arith, mul-le-mul_left p hu, mul-le-mul_left q hv))

-- by natural distances
pub between_is : (l : Line) (u v p q : ℕ) (n : ℤ) → pos p ≡ l.last.x -ℤ middle n → pos q ≡ middle n -ℤ l.first.x → (p * u + q * v) / (p + q) ≡ between l u v n
between_is l u v p q n ahead behind =
    (λ i. nat_abs (sums i) / nat_abs (whole i))
    ∙ (λ i. nat_abs ((ahead i *ℤ pos u) +ℤ (behind i *ℤ pos v)) / nat_abs (l.last.x -ℤ l.first.x))
  where
    sums : pos (p * u + q * v) ≡ (pos p *ℤ pos u) +ℤ (pos q *ℤ pos v)
    sums = omega (arith, ints)

    whole : pos (p + q) ≡ l.last.x -ℤ l.first.x
    whole = omega (arith, ints, ahead, behind)
