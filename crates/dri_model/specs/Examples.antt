-- A heap of eight regions and the two triangles of a square, worked by hand.
use Rattle.std.specs.Prelude.{ℕ, List, [], ◌∷◌, map, filter, get_or, Bool, false, ◌==◌, not, pos}
use Rattle.dri_base.specs.declared.colour.Rgba.{Rgba}
use Rattle.dri_base.specs.declared.shape.Triangle.{Triangle}
use Rattle.dri_base.specs.declared.shape.Vertex.{Vertex}
use Rattle.dri_base.specs.Coverage.{covers, quantity}
use Rattle.dri_model.specs.Heaps.{Heap, Run}

-- a vertex at a place; all else is 0
abbrev pub vertex_at : ℕ → ℕ → Vertex
vertex_at x y = record { x = pos x; y = pos y; z = 0; colour = record { r = 0; g = 0; b = 0; a = 0 }; s = 0; t = 0 }

-- the upper left half of a square of four by four pixels
abbrev pub upper_left : Triangle
upper_left = record { a = vertex_at 0 0; b = vertex_at 64 0; c = vertex_at 0 64 }

-- its lower right half
abbrev pub lower_right : Triangle
lower_right = record { a = vertex_at 64 0; b = vertex_at 64 64; c = vertex_at 0 64 }

-- the sixteen pixels of the square, row by row
abbrev pub square : List (ℕ × ℕ)
square =
    (0, 0) ∷ (1, 0) ∷ (2, 0) ∷ (3, 0) ∷ (0, 1) ∷ (1, 1) ∷ (2, 1) ∷ (3, 1) ∷
    (0, 2) ∷ (1, 2) ∷ (2, 2) ∷ (3, 2) ∷ (0, 3) ∷ (1, 3) ∷ (2, 3) ∷ (3, 3) ∷ []

-- those that a triangle covers
abbrev pub covered : Triangle → List (ℕ × ℕ)
covered t = filter (λ p. covers t (pos p.0) (pos p.1)) square

-- eight regions, of which only region 2 is free, in four age classes: 6 with age 1, 1 and 3 with age 2, 0 and 5 with age 4, 4 and 7 with age 6
abbrev pub eight : Heap
eight = record {
  global = 6;
  used = λ k. not (k == 2);
  shared = λ k. false;
  age = λ k. get_or (4 ∷ 2 ∷ 0 ∷ 2 ∷ 6 ∷ 4 ∷ 1 ∷ 6 ∷ []) k 0;
}

-- which regions are in use, by number
abbrev pub uses : Heap → List Bool
uses h = map h.used (0 ∷ 1 ∷ 2 ∷ 3 ∷ 4 ∷ 5 ∷ 6 ∷ 7 ∷ [])

-- their ages
abbrev pub ages : Heap → List ℕ
ages h = map h.age (0 ∷ 1 ∷ 2 ∷ 3 ∷ 4 ∷ 5 ∷ 6 ∷ 7 ∷ [])

-- neighbouring regions
abbrev pub neighbours : ℕ → ℕ → Run
neighbours first count = record { first = first; count = count }

-- a colour without transparency
abbrev pub opaque : ℕ → ℕ → ℕ → Rgba
opaque r g b = record { r = r; g = g; b = b; a = 255 }

-- a red corner, a green one four pixels to the right with depth 64, and a blue one four pixels below
abbrev pub three_corners : Triangle
three_corners = record {
  a = record (vertex_at 0 0) { colour = opaque 255 0 0 };
  b = record (vertex_at 64 0) { z = 64; colour = opaque 0 255 0 };
  c = record (vertex_at 0 64) { colour = opaque 0 0 255 };
}

-- the same places and depths the other way round, with green below
abbrev pub other_way : Triangle
other_way = record {
  a = record (vertex_at 0 0) { colour = opaque 255 0 0 };
  b = record (vertex_at 0 64) { colour = opaque 0 255 0 };
  c = record (vertex_at 64 0) { z = 64; colour = opaque 0 0 255 };
}

-- the depths at the first three pixels of the first row
abbrev pub depths : Triangle → List ℕ
depths t = map (λ x. quantity t (λ v. v.z) (pos x) (pos 0)) (0 ∷ 1 ∷ 2 ∷ [])

-- a triangle with a horizontal edge through the centres of row 2, and its third corner at this height
abbrev pub on_row_two : ℕ → Triangle
on_row_two y = record { a = vertex_at 0 40; b = vertex_at 64 40; c = vertex_at 0 y }

-- the pixels of row 2 that a triangle covers
abbrev pub row_two : Triangle → List ℕ
row_two t = filter (λ x. covers t (pos x) (pos 2)) (0 ∷ 1 ∷ 2 ∷ 3 ∷ [])
