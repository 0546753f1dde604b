-- A brush that goes on along its row.
use Rattle.std.proofs.Common.{◌≡◌, ℕ, ◌+◌, ◌<◌, ℤ, pos, ◌+ℤ◌, ◌-ℤ◌, Bool, true, Option, Some, None, refl, w32, FitsSigned, to_z, of_z, ap, ◌∙◌, subst, arith}
use Rattle.std.proofs.lemmas.Int.{ints, to_z-of_z}
use Rattle.dri_base.specs.declared.shape.Triangle.{Triangle}
use Rattle.dri_base.specs.Coverage.{covers}
use Rattle.dri_base.specs.Ranges.{IsPlace}
use Rattle.dri_raster.specs.declared.channel.Channel.{Channel}
use Rattle.dri_raster.specs.Edges.{IsPixel}
use Rattle.dri_raster.specs.Standing.{Standing}
use Rattle.dri_walk.specs.Rows.{CanStep, IsAt, IsDepthAt, IsReady, one_on}
use Rattle.dri_raster.specs.declared.channel.Channel.TheVariants.{Z}
use Rattle.dri_walk.specs.declared.depth_test.DepthTest.{DepthTest}

-- numbers that fit are what their words spell
pub place_plain : (n : ℤ) → IsPlace n → to_z w32 (of_z w32 n) ≡ n
place_plain n place = to_z-of_z w32 n (fits n place) where
  fits : (k : ℤ) → IsPlace k → FitsSigned w32 k
  fits k place = omega (arith, ints)

pub row_plain : (n : ℤ) → IsPixel n → to_z w32 (of_z w32 n) ≡ n
row_plain n near = to_z-of_z w32 n (fits n near) where
  fits : (k : ℤ) → IsPixel k → FitsSigned w32 k
  fits k near = omega (arith, ints)

-- a coordinate less the origin's
pub less_is : (x : ℕ) (origin result : ℤ) → IsPlace origin → result ≡ pos x -ℤ to_z w32 (of_z w32 origin) → result ≡ pos x -ℤ origin
less_is x origin result place is = is ∙ ap (λ n. pos x -ℤ n) (place_plain origin place)

pub less_plain : (x : ℕ) (origin result : ℤ) → x < 65536 → IsPlace origin → result ≡ pos x -ℤ to_z w32 (of_z w32 origin) → to_z w32 (of_z w32 result) ≡ pos x -ℤ origin
less_plain x origin result small place is =
    let plain = less_is x origin result place is in
    to_z-of_z w32 result (fits result plain) ∙ plain
  where
    fits : (k : ℤ) → k ≡ pos x -ℤ origin → FitsSigned w32 k
    fits k e = omega (arith, ints, small, place)

-- the window's next column
pub next_column : (x : ℕ) (left : ℤ) → (pos x -ℤ left) +ℤ pos 1 ≡ pos (x + 1) -ℤ left
next_column x left = omega (arith, ints)

-- the next pixel is covered
pub next_covered : (colours : Triangle → ℤ → ℤ → Type 0) (test : DepthTest) (write : Bool) (t : Triangle) (z : Option Standing) (left row : ℤ) (x end : ℕ) → IsReady colours test write t z left row x end → x + 1 < end → covers t ((pos x -ℤ left) +ℤ pos 1) row ≡ true
next_covered colours test write t z left row x end ready more = ap (λ n. covers t n row) (next_column x left) ∙ ready.covered (x + 1) (omega arith) more

-- a runner that has stepped
pub runs_on : (runner new : Standing) (channel : Channel) (t : Triangle) (x y : ℤ) → IsAt runner channel t x y → new ≡ record runner { x = runner.x +ℤ pos 1 } → IsAt new channel t (x +ℤ pos 1) y
runs_on runner new channel t x y at step = step ∙ ap (λ (v : Standing). record v { x = v.x +ℤ pos 1 }) at

-- the depth's runner can step, and stands at the next column
pub can_step : (test : DepthTest) (write : Bool) (z : Option Standing) (t : Triangle) (x y : ℤ) → IsDepthAt test write z t x y → covers t (x +ℤ pos 1) y ≡ true → CanStep z
can_step test write None t x y at covered = tt
can_step test write (Some z) t x y at covered = ap (λ (v : Standing). covers v.triangle (v.x +ℤ pos 1) v.y) at ∙ covered

pub deeper_on : (test : DepthTest) (write : Bool) (z : Option Standing) (t : Triangle) (x y : ℤ) → IsDepthAt test write z t x y → IsDepthAt test write (one_on z) t (x +ℤ pos 1) y
deeper_on test write None t x y at = at
deeper_on test write (Some z) t x y at = runs_on z (record z { x = z.x +ℤ pos 1 }) Z t x y at refl

-- the brush stands at the next column
pub goes_on : (colours after : Triangle → ℤ → ℤ → Type 0) (test : DepthTest) (write : Bool) (t : Triangle) (z next : Option Standing) (left row : ℤ) (x end : ℕ) → IsReady colours test write t z left row x end
    → IsDepthAt test write next t ((pos x -ℤ left) +ℤ pos 1) row → after t ((pos x -ℤ left) +ℤ pos 1) row → IsReady after test write t next left row (x + 1) end
goes_on colours after test write t z next left row x end ready deep coloured = record {
  place = ready.place;
  near = ready.near;
  depth_at = subst (λ n. IsDepthAt test write next t n row) (next_column x left) deep;
  colours_at = subst (λ n. after t n row) (next_column x left) coloured;
  covered = λ a from until. ready.covered a (omega (arith, from)) until;
}
