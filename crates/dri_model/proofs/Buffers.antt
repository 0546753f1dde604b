-- Command words spell one list of triangles.
use Rattle.std.proofs.Common.{◌≡◌, ◌≤◌, ℕ, List, [], ◌∷◌, ◌++◌, Bool, true, false, arith, refl, sym, ◌∙◌}
use Rattle.std.specs.Prelude.{ℤ, pos, ◌+ℤ◌, int_lt, nat_abs, if◌then◌else◌}
use Rattle.std.specs.List.{All}
use Rattle.std.proofs.lemmas.List.Elements.{All-head, All-tail}
use Rattle.std.proofs.lemmas.Bool.Decides.{nat_tests}
use Rattle.std.proofs.lemmas.Int.{ints}
use Rattle.dri_base.specs.Ranges.{IsVertexPlace}
use Rattle.dri_base.specs.declared.colour.Rgba.{Rgba}
use Rattle.dri_base.specs.declared.shape.Triangle.{Triangle}
use Rattle.dri_base.specs.declared.shape.Vertex.{Vertex}
use Rattle.dri_model.proofs.Spelling.{cons_same, nil_cons}
use Rattle.dri_model.specs.CommandWords.{low_half, colour_word, vertex_words, triangle_words, buffer_words, IsColour, IsVertex, IsTriangle, Buffer}
use Rattle.dri_model.specs.Words.{halves}

low_bound : (x : ℤ) → IsVertexPlace x → low_half x ≤ 65535
low_bound x r = by_sign (int_lt x (pos 0)) refl
  where
    by_sign : (b : Bool) → int_lt x (pos 0) ≡ b → (if b then nat_abs (x +ℤ pos 65536) else nat_abs x) ≤ 65535
    by_sign true e = grind (arith, nat_tests, r.0, r.1)
    by_sign false e = grind (arith, nat_tests, r.0, r.1)

-- coordinates with one low half are one
low_same : (x y : ℤ) → IsVertexPlace x → IsVertexPlace y → low_half x ≡ low_half y → x ≡ y
low_same x y r t e = by_signs (int_lt x (pos 0)) refl (int_lt y (pos 0)) refl
  where
    by_signs : (a : Bool) → int_lt x (pos 0) ≡ a → (b : Bool) → int_lt y (pos 0) ≡ b → x ≡ y
    by_signs true p true q = let h : nat_abs (x +ℤ pos 65536) ≡ nat_abs (y +ℤ pos 65536) = rw (p, q) at e in omega (arith, ints, p, q, h, r.0, r.1, t.0, t.1)
    by_signs true p false q = let h : nat_abs (x +ℤ pos 65536) ≡ nat_abs y = rw (p, q) at e in omega (arith, ints, p, q, h, r.0, r.1, t.0, t.1)
    by_signs false p true q = let h : nat_abs x ≡ nat_abs (y +ℤ pos 65536) = rw (p, q) at e in omega (arith, ints, p, q, h, r.0, r.1, t.0, t.1)
    by_signs false p false q = let h : nat_abs x ≡ nat_abs y = rw (p, q) at e in omega (arith, ints, p, q, h, r.0, r.1, t.0, t.1)

-- numbers of sixteen bits in one word
halves_same : (a b c d : ℕ) → a ≤ 65535 → c ≤ 65535 → halves a b ≡ halves c d → (a ≡ c) × (b ≡ d)
halves_same a b c d l m e = (omega (arith, e, l, m), omega (arith, e, l, m))

colour_same : (a b : Rgba) → IsColour a → IsColour b → colour_word a ≡ colour_word b → a ≡ b
colour_same a b r t e = λ i. record { r = red i; g = green i; b = blue i; a = alpha i }
  where
    red : a.r ≡ b.r
    red = omega (arith, e, r.r, t.r)

    green : a.g ≡ b.g
    green = omega (arith, e, red, r.g, t.g)

    blue : a.b ≡ b.b
    blue = omega (arith, e, red, green, r.b, t.b)

    alpha : a.a ≡ b.a
    alpha = omega (arith, e, red, green, blue)

-- a vertex and the words behind it
vertex_front : (v u : Vertex) (xs ys : List ℕ) → IsVertex v → IsVertex u → vertex_words v ++ xs ≡ vertex_words u ++ ys → (v ≡ u) × (xs ≡ ys)
vertex_front v u xs ys r t e = (λ i. record { x = x i; y = y i; z = b.0 i; colour = colour i; s = texture.0 i; t = texture.1 i }, d.1)
  where
    a : (halves (low_half v.x) (low_half v.y) ≡ halves (low_half u.x) (low_half u.y)) × (v.z ∷ colour_word v.colour ∷ halves v.s v.t ∷ xs ≡ u.z ∷ colour_word u.colour ∷ halves u.s u.t ∷ ys)
    a = cons_same _ _ _ _ e

    b : (v.z ≡ u.z) × (colour_word v.colour ∷ halves v.s v.t ∷ xs ≡ colour_word u.colour ∷ halves u.s u.t ∷ ys)
    b = cons_same _ _ _ _ a.1

    c : (colour_word v.colour ≡ colour_word u.colour) × (halves v.s v.t ∷ xs ≡ halves u.s u.t ∷ ys)
    c = cons_same _ _ _ _ b.1

    d : (halves v.s v.t ≡ halves u.s u.t) × (xs ≡ ys)
    d = cons_same _ _ _ _ c.1

    places : (low_half v.x ≡ low_half u.x) × (low_half v.y ≡ low_half u.y)
    places = halves_same (low_half v.x) (low_half v.y) (low_half u.x) (low_half u.y) (low_bound v.x r.place.0) (low_bound u.x t.place.0) a.0

    x : v.x ≡ u.x
    x = low_same v.x u.x r.place.0 t.place.0 places.0

    y : v.y ≡ u.y
    y = low_same v.y u.y r.place.1 t.place.1 places.1

    colour : v.colour ≡ u.colour
    colour = colour_same v.colour u.colour r.colour t.colour c.0

    texture : (v.s ≡ u.s) × (v.t ≡ u.t)
    texture = halves_same v.s v.t u.s u.t r.s t.s d.0

-- a triangle and the words behind it
triangle_front : (t u : Triangle) (xs ys : List ℕ) → IsTriangle t → IsTriangle u → triangle_words t ++ xs ≡ triangle_words u ++ ys → (t ≡ u) × (xs ≡ ys)
triangle_front t u xs ys r k e = (λ i. record { a = a.0 i; b = b.0 i; c = c.0 i }, c.1)
  where
    a : (t.a ≡ u.a) × (vertex_words t.b ++ (vertex_words t.c ++ xs) ≡ vertex_words u.b ++ (vertex_words u.c ++ ys))
    a = vertex_front t.a u.a _ _ r.a k.a (cons_same _ _ (vertex_words t.a ++ (vertex_words t.b ++ (vertex_words t.c ++ xs))) (vertex_words u.a ++ (vertex_words u.b ++ (vertex_words u.c ++ ys))) e).1

    b : (t.b ≡ u.b) × (vertex_words t.c ++ xs ≡ vertex_words u.c ++ ys)
    b = vertex_front t.b u.b _ _ r.b k.b a.1

    c : (t.c ≡ u.c) × (xs ≡ ys)
    c = vertex_front t.c u.c xs ys r.c k.c b.1

pub triangles_same : (ts us : List Triangle) → All IsTriangle ts → All IsTriangle us → buffer_words ts ≡ buffer_words us → ts ≡ us
triangles_same [] [] a b e = refl
triangles_same [] (u ∷ us) a b e = absurd (nil_cons e)
triangles_same (t ∷ ts) [] a b e = absurd (nil_cons (sym e))
triangles_same (t ∷ ts) (u ∷ us) a b e =
    let h = triangle_front t u (buffer_words ts) (buffer_words us) (All-head IsTriangle t ts a) (All-head IsTriangle u us b) e in
    let rest = triangles_same ts us (All-tail IsTriangle t ts a) (All-tail IsTriangle u us b) h.1 in
    λ i. h.0 i ∷ rest i

-- words that are two buffers are one
pub buffer_once : (words : List ℕ) (a b : Buffer words) → a.triangles ≡ b.triangles
buffer_once words a b = triangles_same a.triangles b.triangles a.in_range b.in_range (sym a.spells ∙ b.spells)
