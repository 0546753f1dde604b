-- The words of command buffers: a row of triangles of thirteen words each.
use Rattle.std.specs.Prelude.{◌≡◌, ◌≤◌, ℕ, ◌+◌, ◌*◌, List, [], ◌∷◌, ◌++◌, if◌then◌else◌, ℤ, pos, ◌+ℤ◌, int_lt, nat_abs}
use Rattle.std.specs.List.{All}
use Rattle.dri_base.specs.declared.colour.Rgba.{Rgba}
use Rattle.dri_base.specs.declared.shape.Triangle.{Triangle}
use Rattle.dri_base.specs.declared.shape.Vertex.{Vertex}
use Rattle.dri_base.specs.Ranges.{VertexInRange}
use Rattle.dri_model.specs.Words.{halves}

-- the low sixteen bits of a coordinate in two's complement
abbrev pub low_half : ℤ → ℕ
low_half v = if int_lt v (pos 0) then nat_abs (v +ℤ pos 65536) else nat_abs v

-- red in the lowest byte, then green, blue and alpha
abbrev pub colour_word : Rgba → ℕ
colour_word c = c.r + (256 * c.g + (65536 * c.b + 16777216 * c.a))

-- a vertex: its place, its depth, its colour, and where it lies in the texture
abbrev pub vertex_words : Vertex → List ℕ
vertex_words v = halves (low_half v.x) (low_half v.y) ∷ v.z ∷ colour_word v.colour ∷ halves v.s v.t ∷ []

-- a triangle: a header, and its three vertices
abbrev pub triangle_words : Triangle → List ℕ
triangle_words t = 0x54000003 ∷ (vertex_words t.a ++ (vertex_words t.b ++ vertex_words t.c))

-- the words of triangles, one after another
abbrev pub buffer_words : List Triangle → List ℕ
buffer_words [] = []
buffer_words (t ∷ ts) = triangle_words t ++ buffer_words ts

-- each channel is a byte
pub record IsColour (c : Rgba) : Type 0 where
  pub r : c.r ≤ 255
  pub g : c.g ≤ 255
  pub b : c.b ≤ 255
  pub a : c.a ≤ 255

-- a vertex that a buffer can hold
pub record IsVertex (v : Vertex) : Type 0 where
  pub place : VertexInRange v
  pub z : v.z ≤ 65535
  pub colour : IsColour v.colour
  pub s : v.s ≤ 65535
  pub t : v.t ≤ 65535

-- a triangle that a buffer can hold
pub record IsTriangle (t : Triangle) : Type 0 where
  pub a : IsVertex t.a
  pub b : IsVertex t.b
  pub c : IsVertex t.c

-- words that are a buffer: they are the words of some triangles in range, which are then drawn in this order
pub record Buffer (words : List ℕ) : Type 0 where
  pub triangles : List Triangle
  pub in_range : All IsTriangle triangles
  pub spells : words ≡ buffer_words triangles
