-- Where the centres that a triangle covers lie.
use Rattle.std.specs.Prelude.{◌≡◌, ℤ, ◌≤ℤ◌, true}
use Rattle.dri_base.specs.declared.shape.Point.{Point}
use Rattle.dri_base.specs.declared.shape.Triangle.{Triangle}
use Rattle.dri_base.specs.Coverage.{centre, covers}

-- a bound that all three corners keep is kept by p, on each side
pub record IsAmid (t : Triangle) (p : Point) : Type 0 where
  pub left : (n : ℤ) → n ≤ℤ t.a.x → n ≤ℤ t.b.x → n ≤ℤ t.c.x → n ≤ℤ p.x
  pub right : (n : ℤ) → t.a.x ≤ℤ n → t.b.x ≤ℤ n → t.c.x ≤ℤ n → p.x ≤ℤ n
  pub top : (n : ℤ) → n ≤ℤ t.a.y → n ≤ℤ t.b.y → n ≤ℤ t.c.y → n ≤ℤ p.y
  pub bottom : (n : ℤ) → t.a.y ≤ℤ n → t.b.y ≤ℤ n → t.c.y ≤ℤ n → p.y ≤ℤ n

-- a covered centre lies between the corners
abbrev pub CoveredIsAmid : Type 0
CoveredIsAmid = (t : Triangle) (x y : ℤ) → covers t x y ≡ true → IsAmid t (centre x y)
