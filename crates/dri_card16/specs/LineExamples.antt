-- Lines that were worked by hand.
use Rattle.std.specs.Prelude.{ℤ, pos, neg_ℤ}
use Rattle.dri_base.specs.declared.colour.Rgba.{Rgba}
use Rattle.dri_base.specs.declared.shape.Triangle.{Triangle}
use Rattle.dri_base.specs.declared.shape.Vertex.{Vertex}

-- a vertex at a place, in a colour
abbrev pub standing : ℤ → ℤ → Rgba → Vertex
standing x y colour = record { x = x; y = y; z = 0; colour = colour; s = 0; t = 0 }

-- a line between two places, from red to green, its third vertex blue
abbrev pub line_between : ℤ → ℤ → ℤ → ℤ → Triangle
line_between ax ay bx by = record {
  a = standing ax ay (record { r = 255; g = 0; b = 0; a = 255 });
  b = standing bx by (record { r = 0; g = 255; b = 0; a = 255 });
  c = standing bx by (record { r = 0; g = 0; b = 255; a = 255 });
}

-- four pixels to the right, at the first row's centres
abbrev pub to_the_right : Triangle
to_the_right = line_between (pos 0) (pos 8) (pos 64) (pos 8)

-- and back
abbrev pub to_the_left : Triangle
to_the_left = line_between (pos 64) (pos 8) (pos 0) (pos 8)

-- four pixels down, and one to the right
abbrev pub steep : Triangle
steep = line_between (pos 8) (pos 0) (pos 24) (pos 64)

-- and back
abbrev pub steep_upwards : Triangle
steep_upwards = line_between (pos 24) (pos 64) (pos 8) (pos 0)

-- two pixels to the right, and as many up
abbrev pub upwards : Triangle
upwards = line_between (pos 0) (pos 0) (pos 32) (neg_ℤ (pos 32))

-- as far across as down: x-major, and one pixel
abbrev pub as_long : Triangle
as_long = line_between (pos 0) (pos 8) (pos 16) (pos 24)
