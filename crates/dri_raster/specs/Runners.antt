-- Where a runner stands, and what it keeps.
use Rattle.std.specs.Prelude.{◌≡◌, ◌<◌, ℕ, ℤ, pos, ◌+ℤ◌, ◌*ℤ◌, true, unsigned_abs}
use Rattle.dri_base.specs.declared.shape.Vertex.{Vertex}
use Rattle.dri_base.specs.declared.shape.Triangle.{Triangle}
use Rattle.dri_base.specs.Coverage.{area, centre, covers, turned, weighed}
use Rattle.dri_base.specs.Ranges.{TriangleInRange}
use Rattle.dri_raster.specs.declared.runner.Runner.TheInside.{Inside}
use Rattle.dri_raster.specs.Channels.{IsBounded, most, slope_by, value_of}
use Rattle.dri_raster.specs.Edges.{IsWithin, edges_of}
use Rattle.dri_raster.specs.Standing.{Standing}

-- what the weighed sum of a quantity grows by from a column to the next
abbrev pub slope_of : Triangle → (Vertex → ℕ) → ℤ
slope_of t value = slope_by (edges_of (turned t)) (turned t) value

abbrev pub standing : Inside → Standing
standing r = record { triangle = r.setup.now; channel = r.channel; x = r.x; y = r.y }

-- the quotient and the remainder of the weighed sum by twice the area, and of its slope
pub record IsRunner (r : Inside) : Type 0 where
  pub in_range : TriangleInRange r.setup.now
  pub bounded : IsBounded (turned r.setup.now) (value_of r.channel) (most r.channel)
  pub covered : covers r.setup.now r.x r.y ≡ true
  pub area : r.area ≡ unsigned_abs (area r.setup.now)
  pub remainder : r.remainder < r.area
  pub remainder_slope : r.remainder_slope < r.area
  pub quotient_slope : IsWithin 108086391056891905 r.quotient_slope
  pub sum : (r.quotient *ℤ pos r.area) +ℤ pos r.remainder ≡ weighed (turned r.setup.now) (value_of r.channel) (centre r.x r.y)
  pub slope : (r.quotient_slope *ℤ pos r.area) +ℤ pos r.remainder_slope ≡ slope_of r.setup.now (value_of r.channel)
