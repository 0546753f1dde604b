-- One pixel of a line as a small triangle.
use Rattle.std.specs.Prelude.{ℕ, ◌≤◌, ◌<◌, ◌+◌, ◌==◌, ◌-ℤ◌, Bool, ◌&&◌, nat_le, nat_lt, int_le, int_lt, ◌≡◌, true, Option, ℤ, pos, ◌+ℤ◌, ◌*ℤ◌, ◌≤ℤ◌, neg_ℤ}
use Rattle.dri_base.specs.declared.shape.ClipRect.{ClipRect}
use Rattle.dri_base.specs.declared.shape.Point.{Point}
use Rattle.dri_base.specs.declared.shape.Triangle.{Triangle}
use Rattle.dri_base.specs.Planes.{in_rect}
use Rattle.dri_base.specs.declared.shape.Vertex.{Vertex}
use Rattle.dri_base.specs.declared.state.Shade.{Shade}
use Rattle.dri_base.specs.Ranges.{VertexInRange}
use Rattle.dri_card16.specs.declared.line.Line.{Line}
use Rattle.dri_base.specs.declared.colour.Pixel.{Pixel}
use Rattle.dri_base.specs.Fragments.{Rules}
use Rattle.dri_base.specs.Texels.{Image}
use Rattle.dri_walk.specs.Drawings.{fragment_kept}
use Rattle.dri_card16.specs.Lines.{across, along, colour_in, has_pixel, is_on, left_on, value_in}

-- both ends lie where corners may
abbrev pub IsLineInRange : Line → Type 0
IsLineInRange l = VertexInRange l.first × VertexInRange l.last

-- a column or a row of a window that the screen may show
abbrev pub IsWindowPixel : ℤ → Type 0
IsWindowPixel n = (neg_ℤ (pos 1024) ≤ℤ n) × (n ≤ℤ pos 2047)

-- the line's quantities in column n, or row n, in its colour there
abbrev pub vertex_in : Shade → Line → ℤ → Vertex
vertex_in shade l n = record {
  x = pos 0;
  y = pos 0;
  z = value_in l (λ v. v.z) n;
  colour = colour_in shade l n;
  s = value_in l (λ v. v.s) n;
  t = value_in l (λ v. v.t) n;
}

-- a triangle round the centre of pixel (x, y), with the same quantities at each corner
abbrev pub dot : Vertex → ℤ → ℤ → Triangle
dot v x y = record {
  a = record v { x = (pos 16 *ℤ x) +ℤ pos 7; y = (pos 16 *ℤ y) +ℤ pos 7 };
  b = record v { x = (pos 16 *ℤ x) +ℤ pos 10; y = (pos 16 *ℤ y) +ℤ pos 7 };
  c = record v { x = (pos 16 *ℤ x) +ℤ pos 7; y = (pos 16 *ℤ y) +ℤ pos 10 };
}

-- law: at a pixel of a line, the pixel rule for the triangle of its quantities there is what the line leaves
abbrev pub DotIsTheLine : Type 0
DotIsTheLine =
    (kept : Pixel → Pixel) (r : Rules) (image : Option Image) (l : Line) (x y : ℤ) (under : Pixel) → is_on l x y ≡ true →
    fragment_kept kept r image (dot (vertex_in r.shade l (along l x y)) x y) x y under ≡ left_on kept r image l x y under

-- the rectangle of the one place in column n and row m, or in row n and column m of a line that is y-major
abbrev pub placed : Line → ℕ → ℕ → ClipRect
placed l n m = record { x1 = along l n m; y1 = along l m n; x2 = along l n m + 1; y2 = along l m n + 1 }

-- the clip's places in that column, or row
abbrev pub in_column : Line → ClipRect → ℕ → ℕ → ℕ → Bool
in_column l clip n a b = in_rect clip a b && (along l a b == n)

-- and those before it
abbrev pub before_column : Line → ClipRect → ℕ → ℕ → ℕ → Bool
before_column l clip n a b = in_rect clip a b && nat_lt (along l a b) n

-- a clip, laid along the line: where that is y-major, x and y are exchanged
abbrev pub laid_clip : Line → ClipRect → ClipRect
laid_clip l r = record { x1 = along l r.x1 r.y1; y1 = across l r.x1 r.y1; x2 = along l r.x2 r.y2; y2 = across l r.x2 r.y2 }

-- and a point
abbrev pub laid_point : Line → Point → Point
laid_point l p = record { x = along l p.x p.y; y = across l p.x p.y }

-- the row is one of those from low up to high
abbrev pub is_among : ℕ → ℕ → ℤ → Bool
is_among low high row = int_le (pos low) row && int_lt row (pos high)

-- among the screen's columns from low up to high, the line has a pixel in those from start up to end
abbrev pub AreColumns : Line → ℕ → ℕ → ℤ → ℕ → ℕ → Type 0
AreColumns l low high shift start end = (k : ℕ) → low ≤ k → k < high → (nat_le start k && nat_lt k end) ≡ has_pixel l (pos k -ℤ shift)
