-- The triangles of a buffer's words.
use Rattle.std.specs.Prelude.{ℕ, ◌≡◌, ◌+◌, ◌*◌, ◌/◌, ◌%◌, ◌<◌, List, map, length, slice_index, Bool, true, ◌==◌, ◌||◌, nat_lt, nat_le, if◌then◌else◌, ℤ, pos, ◌-ℤ◌}
use Rattle.std.specs.List.{range_with_len}
use Rattle.dri_base.specs.declared.colour.Rgba.{Rgba}
use Rattle.dri_base.specs.declared.shape.Triangle.{Triangle}
use Rattle.dri_base.specs.declared.shape.Vertex.{Vertex}
use Rattle.dri_base.specs.Limits.{word_end}

-- a word that can stand at that place of a triangle's thirteen: the header, a depth of sixteen bits, or any word
abbrev pub is_good : ℕ → ℕ → Bool
is_good place word = if place == 0 then word == 0x54000003 else (if place == 2 || (place == 6 || place == 10) then nat_le word 65535 else true)

-- the coordinate with these sixteen bits in two's complement
abbrev pub coordinate_of : ℕ → ℤ
coordinate_of half = if nat_lt half 32768 then pos half else (pos half -ℤ pos 65536)

-- the colour of a word
abbrev pub colour_of : ℕ → Rgba
colour_of word = record { r = word % 256; g = word / 256 % 256; b = word / 65536 % 256; a = word / 16777216 }

-- the vertex whose four words begin at place i
abbrev pub vertex_of : List ℕ → ℕ → Vertex
vertex_of words i = record {
  x = coordinate_of (slice_index words i % 65536);
  y = coordinate_of (slice_index words i / 65536);
  z = slice_index words (i + 1);
  colour = colour_of (slice_index words (i + 2));
  s = slice_index words (i + 3) % 65536;
  t = slice_index words (i + 3) / 65536;
}

-- triangle k, counted from 0
abbrev pub triangle_of : List ℕ → ℕ → Triangle
triangle_of words k = record { a = vertex_of words (k * 13 + 1); b = vertex_of words (k * 13 + 5); c = vertex_of words (k * 13 + 9) }

-- the triangles of the words, in order
abbrev pub triangles_of : List ℕ → List Triangle
triangles_of words = map (triangle_of words) (range_with_len 0 (length words / 13))

-- the words are thirteen for each triangle, and each can stand at its place
pub record IsWhole (words : List ℕ) : Type 0 where
  pub thirteens : length words % 13 ≡ 0
  pub good : (i : ℕ) → i < length words → is_good (i % 13) (slice_index words i) ≡ true
  pub small : (i : ℕ) → i < length words → slice_index words i < word_end
