-- Quantities that go along a row of pixels.
use Rattle.std.specs.Prelude.{ℕ, ◌≡◌, ◌≤◌, ◌<◌, ℤ, pos, ◌+ℤ◌, ◌-ℤ◌, Bool, true, false, Option, Some, None}
use Rattle.dri_base.specs.declared.shape.Triangle.{Triangle}
use Rattle.dri_base.specs.Coverage.{covers}
use Rattle.dri_base.specs.Ranges.{IsPlace}
use Rattle.dri_raster.specs.declared.channel.Channel.{Channel}
use Rattle.dri_raster.specs.declared.channel.Channel.TheVariants.{Z, R, G, B, A, S, T}
use Rattle.dri_raster.specs.Edges.{IsPixel}
use Rattle.dri_raster.specs.Standing.{Standing}
use Rattle.dri_walk.specs.declared.depth_test.DepthTest.{DepthTest}
use Rattle.dri_walk.specs.Drawings.{draws_all}

-- the runner stands at pixel (x, y) of that channel of the triangle
abbrev pub IsAt : Standing → Channel → Triangle → ℤ → ℤ → Type 0
IsAt runner channel t x y = runner ≡ record { triangle = t; channel = channel; x = x; y = y }

-- the runners of the colour's four channels stand there
pub record AreColoursAt (r g b a : Standing) (t : Triangle) (x y : ℤ) : Type 0 where
  pub red : IsAt r R t x y
  pub green : IsAt g G t x y
  pub blue : IsAt b B t x y
  pub alpha : IsAt a A t x y

-- the runners of the texture's two coordinates stand there, and so does what gives the triangle's own colour
pub record AreTexturedAt (own : Triangle → ℤ → ℤ → Type 0) (s t : Standing) (triangle : Triangle) (x y : ℤ) : Type 0 where
  pub own_at : own triangle x y
  pub s_at : IsAt s S triangle x y
  pub t_at : IsAt t T triangle x y

-- the depth's runner stands there; where there is none, every depth is drawn and none is written
abbrev pub IsDepthAt : DepthTest → Bool → Option Standing → Triangle → ℤ → ℤ → Type 0
IsDepthAt test write None t x y = (draws_all test ≡ true) × (write ≡ false)
IsDepthAt test write (Some z) t x y = IsAt z Z t x y

-- the pixel to the right of a runner, where there is one, is covered
abbrev pub CanStep : Option Standing → Type 0
CanStep None = Unit {0}
CanStep (Some z) = covers z.triangle (z.x +ℤ pos 1) z.y ≡ true

-- and there it stands then
abbrev pub one_on : Option Standing → Option Standing
one_on None = None
one_on (Some z) = Some (record z { x = z.x +ℤ pos 1 })

-- a brush stands at column x of the screen in the window's row, and the triangle covers what comes until the end
pub record IsReady (colours : Triangle → ℤ → ℤ → Type 0) (test : DepthTest) (write : Bool) (t : Triangle) (z : Option Standing) (left row : ℤ) (x end : ℕ) : Type 0 where
  pub place : IsPlace left
  pub near : IsPixel row
  pub depth_at : IsDepthAt test write z t (pos x -ℤ left) row
  pub colours_at : colours t (pos x -ℤ left) row
  pub covered : (a : ℕ) → x ≤ a → a < end → covers t (pos a -ℤ left) row ≡ true
