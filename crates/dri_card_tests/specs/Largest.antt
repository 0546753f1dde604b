-- The largest triangle that a scene may have.
use Rattle.std.specs.Prelude.{ℤ, pos, neg_ℤ}
use Rattle.dri_base.specs.declared.shape.Triangle.{Triangle}
use Rattle.dri_base.specs.declared.shape.Vertex.{Vertex}

-- a corner, as deep as can be
abbrev pub deepest : ℤ → ℤ → Vertex
deepest x y = record { x = x; y = y; z = 65535; colour = record { r = 255; g = 128; b = 64; a = 0 }; s = 16; t = 32 }

abbrev pub largest : Triangle
largest = record {
  a = deepest (neg_ℤ (pos 32768)) (neg_ℤ (pos 32768));
  b = deepest (pos 32767) (neg_ℤ (pos 32768));
  c = deepest (neg_ℤ (pos 32768)) (pos 32767);
}
