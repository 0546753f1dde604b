-- Printed lines and words, split again.
use Rattle.std.proofs.Common.{◌≡◌, ◌≤◌, ℕ, Bool, true, false, cond, List, [], ◌∷◌, ◌++◌, map, ◌&&◌, nat_lt, refl, sym, ap, ◌∙◌, append_assoc, eq-eqb, arith}
use Rattle.std.specs.List.{list_all, onto_first, flat_map}
use Rattle.std.proofs.lemmas.Bool.{ne_eqb, ltb-true, lt-ltb, false≢true, and_parts}
use Rattle.std.proofs.lemmas.List.{append-nil}
use Rattle.dri_words.specs.Parts.{parts_at}
use Rattle.dri_words.specs.Lines.{words_bytes, line_bytes}

-- bytes above a floor, and a byte that isn't: the part ends there
pub split_part : (k c : ℕ) (w rest : List ℕ) → c ≤ k → list_all (λ b. nat_lt k b) w ≡ true → parts_at c (w ++ c ∷ rest) ≡ w ∷ parts_at c rest
split_part k c [] rest low above = ap (λ t. cond t ([] ∷ parts_at c rest) (onto_first c (parts_at c rest))) (eq-eqb c c refl)
split_part k c (b ∷ bs) rest low above =
    let here = and_parts (nat_lt k b) (list_all (λ x. nat_lt k x) bs) above in
    let over = ltb-true k b here.0 in
    ap (λ t. cond t ([] ∷ parts_at c (bs ++ c ∷ rest)) (onto_first b (parts_at c (bs ++ c ∷ rest)))) (ne_eqb b c (λ e. omega (arith, over, low, e)))
    ∙ ap (onto_first b) (split_part k c bs rest low here.1)

-- bytes above a floor alone: one part
pub split_last : (k c : ℕ) (w : List ℕ) → c ≤ k → list_all (λ b. nat_lt k b) w ≡ true → parts_at c w ≡ w ∷ []
split_last k c [] low above = refl
split_last k c (b ∷ bs) low above =
    let here = and_parts (nat_lt k b) (list_all (λ x. nat_lt k x) bs) above in
    let over = ltb-true k b here.0 in
    ap (λ t. cond t ([] ∷ parts_at c bs) (onto_first b (parts_at c bs))) (ne_eqb b c (λ e. omega (arith, over, low, e)))
    ∙ ap (onto_first b) (split_last k c bs low here.1)

-- a word: no space, and nothing below it
abbrev pub is_word : List ℕ → Bool
is_word w = list_all (λ b. nat_lt 32 b) w

-- words, each behind a space
abbrev pub gaps : List (List ℕ) → List ℕ
gaps [] = []
gaps (w ∷ ws) = 32 ∷ (w ++ gaps ws)

-- the words of a line, split at its spaces
pub split_words : (w : List ℕ) (ws : List (List ℕ)) → list_all is_word (w ∷ ws) ≡ true → parts_at 32 (w ++ gaps ws) ≡ w ∷ ws
split_words w [] all = ap (parts_at 32) (append-nil w) ∙ split_last 32 32 w (omega arith) (and_parts (is_word w) (list_all is_word []) all).0
split_words w (v ∷ vs) all =
    let here = and_parts (is_word w) (list_all is_word (v ∷ vs)) all in
    split_part 32 32 w (v ++ gaps vs) (omega arith) here.0 ∙ ap (λ t. w ∷ t) (split_words v vs here.1)

-- a line's bytes: its words, and a newline
pub line_is : (w : List ℕ) (ws : List (List ℕ)) (more : List ℕ) → line_bytes (w ∷ ws) ++ more ≡ (w ++ gaps ws) ++ 10 ∷ more
line_is w ws more = append_assoc w (words_bytes ws) more ∙ ap (λ t. w ++ t) (rest ws) ∙ sym (append_assoc w (gaps ws) (10 ∷ more)) where
  rest : (vs : List (List ℕ)) → words_bytes vs ++ more ≡ gaps vs ++ 10 ∷ more
  rest [] = refl
  rest (v ∷ vs) = ap (λ t. 32 ∷ t) (append_assoc v (words_bytes vs) more ∙ ap (λ t. v ++ t) (rest vs) ∙ sym (append_assoc v (gaps vs) (10 ∷ more)))

all_append : (xs ys : List ℕ) → list_all (λ b. nat_lt 31 b) xs ≡ true → list_all (λ b. nat_lt 31 b) ys ≡ true → list_all (λ b. nat_lt 31 b) (xs ++ ys) ≡ true
all_append [] ys first second = second
all_append (x ∷ xs) ys first second =
    let here = and_parts (nat_lt 31 x) (list_all (λ b. nat_lt 31 b) xs) first in
    ap (λ t. t && list_all (λ b. nat_lt 31 b) (xs ++ ys)) here.0 ∙ all_append xs ys here.1 second

lower : (w : List ℕ) → is_word w ≡ true → list_all (λ b. nat_lt 31 b) w ≡ true
lower [] word = refl
lower (b ∷ bs) word =
    let here = and_parts (nat_lt 32 b) (is_word bs) word in
    let over = ltb-true 32 b here.0 in
    ap (λ t. t && list_all (λ x. nat_lt 31 x) bs) (lt-ltb 31 b (omega (arith, over))) ∙ lower bs here.1

gaps_clear : (ws : List (List ℕ)) → list_all is_word ws ≡ true → list_all (λ b. nat_lt 31 b) (gaps ws) ≡ true
gaps_clear [] all = refl
gaps_clear (w ∷ ws) all = let here = and_parts (is_word w) (list_all is_word ws) all in all_append w (gaps ws) (lower w here.0) (gaps_clear ws here.1)

-- a line that is printed: at least one word, each a word
abbrev pub is_printed : List (List ℕ) → Bool
is_printed [] = false
is_printed (w ∷ ws) = list_all is_word (w ∷ ws)

-- the bytes of a line before its newline
abbrev pub spaced : List (List ℕ) → List ℕ
spaced [] = []
spaced (w ∷ ws) = w ++ gaps ws

-- the lines of a text, split at its newlines
pub split_lines : (ls : List (List (List ℕ))) → list_all is_printed ls ≡ true → parts_at 10 (flat_map line_bytes ls) ≡ map spaced ls ++ [] ∷ []
split_lines [] all = refl
split_lines ([] ∷ ls) all = absurd (false≢true all)
split_lines ((w ∷ ws) ∷ ls) all =
    let here = and_parts (list_all is_word (w ∷ ws)) (list_all is_printed ls) all in
    let each = and_parts (is_word w) (list_all is_word ws) here.0 in
    ap (parts_at 10) (line_is w ws (flat_map line_bytes ls))
    ∙ split_part 31 10 (w ++ gaps ws) (flat_map line_bytes ls) (omega arith) (all_append w (gaps ws) (lower w each.0) (gaps_clear ws each.1))
    ∙ ap (λ t. (w ++ gaps ws) ∷ t) (split_lines ls here.1)
