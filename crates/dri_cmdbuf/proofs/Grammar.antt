-- A buffer's words are thirteen for each triangle, and each can stand at its place.
use Rattle.std.proofs.Common.{◌≡◌, ℕ, zero, suc, ◌+◌, ◌-◌, ◌*◌, ◌/◌, ◌%◌, ◌<◌, ◌≤◌, List, [], ◌∷◌, ◌++◌, length, map, get_or, take, drop, true, refl, sym, ap, subst, ◌∙◌, inl, inr, arith}
use Rattle.std.specs.List.{range_with_len, All}
use Rattle.std.proofs.lemmas.List.{get_or-append-add, drop_more, append-nil, take_all, length-append}
use Rattle.std.proofs.lemmas.List.FromFn.{map-range_with_len_more, get_or-map-range_with_len, length-map-range_with_len}
use Rattle.std.proofs.lemmas.Bool.{cases_lt, leb-true, le-leb, eqb-true}
use Rattle.std.proofs.lemmas.Nat.{mod-mul-add}
use Rattle.std.proofs.Math.Nat.{add-mod_left, mod-eq_of_lt}
use Rattle.std.proofs.Math.Seq.{take-add}
use Rattle.dri_base.specs.declared.shape.Triangle.{Triangle}
use Rattle.dri_model.specs.CommandWords.{vertex_words, triangle_words, buffer_words, IsVertex, IsTriangle, Buffer}
use Rattle.dri_cmdbuf.specs.Decoding.{is_good, vertex_of, triangle_of, triangles_of, IsWhole}
use Rattle.dri_model.proofs.Values.{halved}
use Rattle.dri_cmdbuf.proofs.Halves.{low_of, coordinate_inside, coloured, colour_inside}

-- so many items of a list, from a place on
abbrev picks : ℕ → ℕ → List ℕ → List ℕ
picks at zero xs = []
picks at (suc n) xs = get_or xs at 0 ∷ picks (at + 1) n xs

picks_are : (n at : ℕ) (xs : List ℕ) → at + n ≤ length xs → take n (drop at xs) ≡ picks at n xs
picks_are zero at xs within = refl
picks_are (suc n) at xs within = ap (take (suc n)) (drop_more xs at 0 (omega arith)) ∙ ap (λ l. get_or xs at 0 ∷ l) (picks_are n (at + 1) xs (omega arith))

-- triangle k lies within the words
pub inside : (n k : ℕ) → k < n / 13 → k * 13 + 13 ≤ n
inside n k below = omega arith

good_at : (words : List ℕ) (k off : ℕ) → IsWhole words → off < 13 → k * 13 + 13 ≤ length words → is_good off (get_or words (k * 13 + off) 0) ≡ true
good_at words k off whole short within = subst (λ p. is_good p (get_or words (k * 13 + off) 0) ≡ true) (mod-mul-add k 13 off short) (whole.good (k * 13 + off) (omega arith))

pub header_at : (words : List ℕ) (k : ℕ) → IsWhole words → k * 13 + 13 ≤ length words → get_or words (k * 13) 0 ≡ 0x54000003
header_at words k whole within =
    let e : k * 13 + 0 ≡ k * 13 = omega arith in
    eqb-true (get_or words (k * 13) 0) 0x54000003 (rw e at (good_at words k 0 whole (omega arith) within))

pub depth_a : (words : List ℕ) (k : ℕ) → IsWhole words → k * 13 + 13 ≤ length words → get_or words (k * 13 + 2) 0 ≤ 65535
depth_a words k whole within = leb-true (get_or words (k * 13 + 2) 0) 65535 (good_at words k 2 whole (omega arith) within)

pub depth_b : (words : List ℕ) (k : ℕ) → IsWhole words → k * 13 + 13 ≤ length words → get_or words (k * 13 + 6) 0 ≤ 65535
depth_b words k whole within = leb-true (get_or words (k * 13 + 6) 0) 65535 (good_at words k 6 whole (omega arith) within)

pub depth_c : (words : List ℕ) (k : ℕ) → IsWhole words → k * 13 + 13 ≤ length words → get_or words (k * 13 + 10) 0 ≤ 65535
depth_c words k whole within = leb-true (get_or words (k * 13 + 10) 0) 65535 (good_at words k 10 whole (omega arith) within)

-- the words of the vertex that is read at a place are the words there
vertex_back : (words : List ℕ) (i : ℕ) → ((j : ℕ) → j < length words → get_or words j 0 < 4294967296) → i + 4 ≤ length words → vertex_words (vertex_of words i) ≡ get_or words i 0 ∷ get_or words (i + 1) 0 ∷ get_or words (i + 2) 0 ∷ get_or words (i + 3) 0 ∷ []
vertex_back words i small within =
    let first : get_or words i 0 < 4294967296 = small i (omega arith) in
    let low = low_of (get_or words i 0 % 65536) (omega arith) in
    let high = low_of (get_or words i 0 / 65536) (omega arith) in
    rw (low, high, halved (get_or words i 0), coloured (get_or words (i + 2) 0), halved (get_or words (i + 3) 0)) refl

vertex_inside : (words : List ℕ) (i : ℕ) → ((j : ℕ) → j < length words → get_or words j 0 < 4294967296) → i + 4 ≤ length words → get_or words (i + 1) 0 ≤ 65535 → IsVertex (vertex_of words i)
vertex_inside words i small within depth =
    let first : get_or words i 0 < 4294967296 = small i (omega arith) in
    let third : get_or words (i + 2) 0 < 4294967296 = small (i + 2) (omega arith) in
    let last : get_or words (i + 3) 0 < 4294967296 = small (i + 3) (omega arith) in
    record {
      place = (coordinate_inside (get_or words i 0 % 65536) (omega arith), coordinate_inside (get_or words i 0 / 65536) (omega arith));
      z = depth;
      colour = colour_inside (get_or words (i + 2) 0) third;
      s = omega arith;
      t = omega arith;
    }

triangle_inside : (words : List ℕ) (k : ℕ) → IsWhole words → k * 13 + 13 ≤ length words → IsTriangle (triangle_of words k)
triangle_inside words k whole within =
    let a : k * 13 + 1 + 1 ≡ k * 13 + 2 = omega arith in
    let b : k * 13 + 5 + 1 ≡ k * 13 + 6 = omega arith in
    let c : k * 13 + 9 + 1 ≡ k * 13 + 10 = omega arith in
    record {
      a = vertex_inside words (k * 13 + 1) whole.small (omega arith) (rw a (depth_a words k whole within));
      b = vertex_inside words (k * 13 + 5) whole.small (omega arith) (rw b (depth_b words k whole within));
      c = vertex_inside words (k * 13 + 9) whole.small (omega arith) (rw c (depth_c words k whole within));
    }

-- thirteen places, counted from each vertex and counted on
same_places : (words : List ℕ) (n : ℕ) → get_or words n 0 ∷ (get_or words (n + 1) 0 ∷ get_or words (n + 1 + 1) 0 ∷ get_or words (n + 1 + 2) 0 ∷ get_or words (n + 1 + 3) 0 ∷ get_or words (n + 5) 0 ∷ get_or words (n + 5 + 1) 0 ∷ get_or words (n + 5 + 2) 0 ∷ get_or words (n + 5 + 3) 0 ∷ get_or words (n + 9) 0 ∷ get_or words (n + 9 + 1) 0 ∷ get_or words (n + 9 + 2) 0 ∷ get_or words (n + 9 + 3) 0 ∷ []) ≡ picks n 13 words
same_places words n =
    let c3 : n + 1 + 2 ≡ n + 1 + 1 + 1 = omega arith in
    let c4 : n + 1 + 3 ≡ n + 1 + 1 + 1 + 1 = omega arith in
    let c5 : n + 5 ≡ n + 1 + 1 + 1 + 1 + 1 = omega arith in
    let c6 : n + 5 + 1 ≡ n + 1 + 1 + 1 + 1 + 1 + 1 = omega arith in
    let c7 : n + 5 + 2 ≡ n + 1 + 1 + 1 + 1 + 1 + 1 + 1 = omega arith in
    let c8 : n + 5 + 3 ≡ n + 1 + 1 + 1 + 1 + 1 + 1 + 1 + 1 = omega arith in
    let c9 : n + 9 ≡ n + 1 + 1 + 1 + 1 + 1 + 1 + 1 + 1 + 1 = omega arith in
    let c10 : n + 9 + 1 ≡ n + 1 + 1 + 1 + 1 + 1 + 1 + 1 + 1 + 1 + 1 = omega arith in
    let c11 : n + 9 + 2 ≡ n + 1 + 1 + 1 + 1 + 1 + 1 + 1 + 1 + 1 + 1 + 1 = omega arith in
    let c12 : n + 9 + 3 ≡ n + 1 + 1 + 1 + 1 + 1 + 1 + 1 + 1 + 1 + 1 + 1 + 1 = omega arith in
    rw (c12, c11, c10, c9, c8, c7, c6, c5, c4, c3) refl

triangle_back : (words : List ℕ) (k : ℕ) → IsWhole words → k * 13 + 13 ≤ length words → triangle_words (triangle_of words k) ≡ take 13 (drop (k * 13) words)
triangle_back words k whole within =
    let a = vertex_back words (k * 13 + 1) whole.small (omega arith) in
    let b = vertex_back words (k * 13 + 5) whole.small (omega arith) in
    let c = vertex_back words (k * 13 + 9) whole.small (omega arith) in
    let header = header_at words k whole within in
    let va = vertex_words (vertex_of words (k * 13 + 1)) in
    let vb = vertex_words (vertex_of words (k * 13 + 5)) in
    let vc = vertex_words (vertex_of words (k * 13 + 9)) in
    let at : ℕ → ℕ = λ n. get_or words n 0 in
    let all : 0x54000003 ∷ (va ++ (vb ++ vc)) ≡ at (k * 13) ∷ (at (k * 13 + 1) ∷ at (k * 13 + 1 + 1) ∷ at (k * 13 + 1 + 2) ∷ at (k * 13 + 1 + 3) ∷ at (k * 13 + 5) ∷ at (k * 13 + 5 + 1) ∷ at (k * 13 + 5 + 2) ∷ at (k * 13 + 5 + 3) ∷ at (k * 13 + 9) ∷ at (k * 13 + 9 + 1) ∷ at (k * 13 + 9 + 2) ∷ at (k * 13 + 9 + 3) ∷ []) =
    ap (λ h. h ∷ (va ++ (vb ++ vc))) (sym header) ∙ ap (λ l. at (k * 13) ∷ (l ++ (vb ++ vc))) a ∙ ap (λ l. at (k * 13) ∷ at (k * 13 + 1) ∷ at (k * 13 + 1 + 1) ∷ at (k * 13 + 1 + 2) ∷ at (k * 13 + 1 + 3) ∷ (l ++ vc)) b
    ∙ ap (λ l. at (k * 13) ∷ at (k * 13 + 1) ∷ at (k * 13 + 1 + 1) ∷ at (k * 13 + 1 + 2) ∷ at (k * 13 + 1 + 3) ∷ at (k * 13 + 5) ∷ at (k * 13 + 5 + 1) ∷ at (k * 13 + 5 + 2) ∷ at (k * 13 + 5 + 3) ∷ l) c in
    all ∙ same_places words (k * 13) ∙ sym (picks_are 13 (k * 13) words within)

buffer-append : (ts us : List Triangle) → buffer_words (ts ++ us) ≡ buffer_words ts ++ buffer_words us
buffer-append [] us = refl
buffer-append (t ∷ ts) us = ap (λ l. triangle_words t ++ l) (buffer-append ts us)

some_triangles : (words : List ℕ) (n : ℕ) → IsWhole words → n * 13 ≤ length words → buffer_words (map (triangle_of words) (range_with_len 0 n)) ≡ take (n * 13) words
some_triangles words zero whole within = refl
some_triangles words (suc n) whole within =
    let more = map-range_with_len_more (triangle_of words) 0 n n (omega arith) in
    let last : take 13 (drop (n * 13) words) ≡ buffer_words (triangle_of words n ∷ []) = sym (triangle_back words n whole (omega arith)) ∙ sym (append-nil (triangle_words (triangle_of words n))) in
    let next : suc n * 13 ≡ n * 13 + 13 = omega arith in
    let count : suc n ≡ n + 1 = omega arith in
    ap (λ m. buffer_words (map (triangle_of words) (range_with_len 0 m))) count ∙ ap buffer_words more ∙ buffer-append (map (triangle_of words) (range_with_len 0 n)) (triangle_of words n ∷ [])
    ∙ ap (λ l. l ++ buffer_words (triangle_of words n ∷ [])) (some_triangles words n whole (omega arith))
    ∙ ap (λ l. take (n * 13) words ++ l) (sym last)
    ∙ sym (take-add (n * 13) 13 words) ∙ ap (λ m. take m words) (sym next)

-- whole words are the words of their triangles
pub whole_spells : (words : List ℕ) → IsWhole words → words ≡ buffer_words (triangles_of words)
whole_spells words whole =
    let count : length words / 13 * 13 ≡ length words = omega (arith, whole.thirteens) in
    sym (take_all (length words / 13 * 13) words (omega (arith, count))) ∙ sym (some_triangles words (length words / 13) whole (omega (arith, count)))

pub whole_inside : (words : List ℕ) → IsWhole words → All IsTriangle (triangles_of words)
whole_inside words whole k d within =
    let below : k < length words / 13 = subst (λ n. k < n) (length-map-range_with_len (triangle_of words) 0 (length words / 13)) within in
    subst IsTriangle (sym (get_or-map-range_with_len (triangle_of words) 0 (length words / 13) k k d below (omega arith))) (triangle_inside words k whole (inside (length words) k below))

pub whole_buffer : (words : List ℕ) → IsWhole words → Buffer words
whole_buffer words whole = record { triangles = triangles_of words; in_range = whole_inside words whole; spells = whole_spells words whole }

-- each word of some triangles can stand at its place
spelled_good : (t : Triangle) (rest : List ℕ) (i : ℕ) → IsTriangle t → i < 13 → is_good i (get_or (triangle_words t ++ rest) i 0) ≡ true
spelled_good t rest zero inside short = refl
spelled_good t rest (suc zero) inside short = refl
spelled_good t rest (suc (suc zero)) inside short = le-leb t.a.z 65535 inside.a.z
spelled_good t rest (suc (suc (suc zero))) inside short = refl
spelled_good t rest (suc (suc (suc (suc zero)))) inside short = refl
spelled_good t rest (suc (suc (suc (suc (suc zero))))) inside short = refl
spelled_good t rest (suc (suc (suc (suc (suc (suc zero)))))) inside short = le-leb t.b.z 65535 inside.b.z
spelled_good t rest (suc (suc (suc (suc (suc (suc (suc zero))))))) inside short = refl
spelled_good t rest (suc (suc (suc (suc (suc (suc (suc (suc zero)))))))) inside short = refl
spelled_good t rest (suc (suc (suc (suc (suc (suc (suc (suc (suc zero))))))))) inside short = refl
spelled_good t rest (suc (suc (suc (suc (suc (suc (suc (suc (suc (suc zero)))))))))) inside short = le-leb t.c.z 65535 inside.c.z
spelled_good t rest (suc (suc (suc (suc (suc (suc (suc (suc (suc (suc (suc zero))))))))))) inside short = refl
spelled_good t rest (suc (suc (suc (suc (suc (suc (suc (suc (suc (suc (suc (suc zero)))))))))))) inside short = refl
spelled_good t rest (suc (suc (suc (suc (suc (suc (suc (suc (suc (suc (suc (suc (suc i))))))))))))) inside short = absurd (omega (arith, short))

later : (t : Triangle) (rest : List ℕ) (j : ℕ) → get_or (triangle_words t ++ rest) (13 + j) 0 ≡ get_or rest j 0
later t rest j = get_or-append-add (triangle_words t) rest j 0

pub buffer_good : (ts : List Triangle) → All IsTriangle ts → (i : ℕ) → i < length (buffer_words ts) → is_good (i % 13) (get_or (buffer_words ts) i 0) ≡ true
buffer_good [] all i within = absurd (omega (arith, within))
buffer_good (t ∷ ts) all i within = elim (cases_lt i 13) as (λ _. is_good (i % 13) (get_or (triangle_words t ++ buffer_words ts) i 0) ≡ true) [
  | inl first ↦
      let place : i % 13 ≡ i = mod-eq_of_lt first in
      rw place (spelled_good t (buffer_words ts) i (all 0 t (omega arith)) first)
  | inr after ↦
      let j : ℕ = i - 13 in
      let place : i ≡ 13 + j = omega arith in
      let turn : (13 + j) % 13 ≡ j % 13 = add-mod_left 13 j in
      let long : length (triangle_words t ++ buffer_words ts) ≡ 13 + length (buffer_words ts) = length-append (triangle_words t) (buffer_words ts) in
      rw (place, turn, later t (buffer_words ts) j) (buffer_good ts (λ k d l. all (suc k) d (omega (arith, l))) j (omega (arith, within, long)))
]

pub buffer_thirteens : (ts : List Triangle) → length (buffer_words ts) % 13 ≡ 0
buffer_thirteens [] = refl
buffer_thirteens (t ∷ ts) = rw (length-append (triangle_words t) (buffer_words ts)) (add-mod_left 13 (length (buffer_words ts)) ∙ buffer_thirteens ts)
