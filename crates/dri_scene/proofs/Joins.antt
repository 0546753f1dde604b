-- Texts that grow piece by piece.
use Rattle.std.proofs.Common.{◌≡◌, ◌+◌, ◌<◌, ℕ, List, take, length, [], ◌∷◌, ◌++◌, map, codes, Result, Ok, Err, OnOk, refl, sym, ap, ◌∙◌, append_assoc}
use Rattle.std.specs.List.{flat_map}
use Rattle.std.proofs.Math.ListN.{get_or}
use Rattle.std.proofs.lemmas.List.{append-nil, take_more}
use Rattle.std.proofs.lemmas.Grind.{flat_map-append}
use Rattle.dri_base.specs.declared.scene.Scene.{Scene}
use Rattle.dri_base.specs.declared.scene.ClientScript.{ClientScript}
use Rattle.dri_scene.specs.declared.words.Word.{Word}
use Rattle.dri_scene.specs.Texts.{Adds, block_lines, end_words, head_lines, lines_behind_windows, client_lines, change_words, item_words, window_words, scene_lines, scene_text, spaced, spelled}
use Rattle.dri_words.specs.Lines.{line_bytes, words_bytes}

-- a piece, and then another
pub joined : {t u v a b : List ℕ} → Adds t a u → Adds u b v → Adds t (a ++ b) v
joined {t} {u} {v} {a} {b} first then = record { is = then.is ∙ ap (λ x. x ++ b) first.is ∙ append_assoc t a b }

-- no piece
pub added_none : (t : List ℕ) → Adds t [] t
added_none t = record { is = sym (append-nil t) }

-- a piece behind nothing
pub from_none : {t a u : List ℕ} → Adds t a u → t ≡ [] → u ≡ a
from_none {t} {a} {u} adds none = adds.is ∙ ap (λ x. x ++ a) none

-- the same piece, said otherwise
pub adds_same : {t a b u : List ℕ} → Adds t a u → a ≡ b → Adds t b u
adds_same {t} {a} {b} {u} adds same = record { is = adds.is ∙ ap (λ x. t ++ x) same }

-- a piece that was told with the next one behind it
pub carried : {t u v a b : List ℕ} → Adds t b (u ++ a) → Adds u a v → Adds t b v
carried first then = record { is = then.is ∙ first.is }

-- a piece behind a text
pub behind : (t a : List ℕ) → Adds t a (t ++ a)
behind t a = record { is = refl }

-- words, and those behind them
pub spaced_words : (ws : List Word) (more : List (List ℕ)) → flat_map spaced ws ++ words_bytes more ≡ words_bytes (map spelled ws ++ more)
spaced_words [] more = refl
spaced_words (w ∷ ws) more = append_assoc (spaced w) (flat_map spaced ws) (words_bytes more) ∙ ap (λ t. spaced w ++ t) (spaced_words ws more)

-- words that were put, with those behind them
pub put_before : {t u v : List ℕ} (ws : List Word) (more : List (List ℕ)) → Adds t (flat_map spaced ws) u → Adds u (words_bytes more) v → Adds t (words_bytes (map spelled ws ++ more)) v
put_before ws more put rest = adds_same (joined put rest) (spaced_words ws more)

-- what follows where a call went well
pub on_ok : {A E : Type 0} {P Q : Type 0} (r : Result A E) → (P → Q) → OnOk r P → OnOk r Q
on_ok (Ok x) f p = f p
on_ok (Err e) f p = tt

-- the lines of a list's items, and the lines behind them
pub mapped_lines : {X : Type 0} (f : X → List (List ℕ)) (xs : List X) (rest : List (List (List ℕ))) → flat_map line_bytes (map f xs ++ rest) ≡ flat_map (λ x. line_bytes (f x)) xs ++ flat_map line_bytes rest
mapped_lines f [] rest = refl
mapped_lines f (x ∷ xs) rest = ap (λ t. line_bytes (f x) ++ t) (mapped_lines f xs rest) ∙ sym (append_assoc (line_bytes (f x)) (flat_map (λ y. line_bytes (f y)) xs) (flat_map line_bytes rest))

-- the lines of the clients' blocks
pub client_pieces : (cs : List ClientScript) → flat_map line_bytes (flat_map client_lines cs) ≡ flat_map (λ c. flat_map line_bytes (client_lines c)) cs
client_pieces [] = refl
client_pieces (c ∷ cs) = flat_map-append line_bytes (client_lines c) (flat_map client_lines cs) ∙ ap (λ t. flat_map line_bytes (client_lines c) ++ t) (client_pieces cs)

-- a block with something in it
pub block_pieces : {X : Type 0} (name : List ℕ) (f : X → List (List ℕ)) (xs : List X) → (xs ≡ [] → ⊥) → line_bytes (name ∷ []) ++ (flat_map (λ x. line_bytes (f x)) xs ++ (line_bytes end_words ++ [])) ≡ flat_map line_bytes (block_lines name (map f xs))
block_pieces name f [] some = absurd (some refl)
block_pieces name f (x ∷ xs) some = ap (λ t. line_bytes (name ∷ []) ++ t) (sym (mapped_lines f (x ∷ xs) (end_words ∷ [])))

-- the text of a scene, section by section
pub scene_pieces : (s : Scene) →
    flat_map line_bytes (head_lines s) ++ (flat_map (λ w. line_bytes (window_words w)) s.windows ++ (flat_map (λ c. flat_map line_bytes (client_lines c)) s.clients
    ++ (flat_map line_bytes (block_lines (codes "server") (map change_words s.changes)) ++ (flat_map line_bytes (block_lines (codes "turns") (map item_words s.turns)) ++ codes "done\n"))))
    ≡ scene_text s
unfolding scene_text scene_lines
scene_pieces s =
    let done = (codes "done" ∷ []) ∷ [] in
    let turns = block_lines (codes "turns") (map item_words s.turns) in
    let server = block_lines (codes "server") (map change_words s.changes) in
    let clients = flat_map client_lines s.clients in
    let last = flat_map-append line_bytes turns done in
    let behind_clients = flat_map-append line_bytes server (turns ++ done) ∙ ap (λ (t : List ℕ). flat_map line_bytes server ++ t) last in
    let behind_windows = flat_map-append line_bytes clients (server ++ (turns ++ done)) ∙ ap (λ (t : List ℕ). flat_map line_bytes clients ++ t) behind_clients ∙ ap (λ (t : List ℕ). t ++ (flat_map line_bytes server ++ (flat_map line_bytes turns ++ codes "done\n"))) (client_pieces s.clients) in
    let behind_head = mapped_lines window_words s.windows (lines_behind_windows s) ∙ ap (λ (t : List ℕ). flat_map (λ w. line_bytes (window_words w)) s.windows ++ t) behind_windows in
    sym (flat_map-append line_bytes (head_lines s) (map window_words s.windows ++ lines_behind_windows s) ∙ ap (λ (t : List ℕ). flat_map line_bytes (head_lines s) ++ t) behind_head)

-- the pieces of the elements so far, and the next one's
pub next_piece : {X : Type 0} (f : X → List ℕ) (xs : List X) (i : ℕ) (d : X) {t u v : List ℕ} → i < length xs → Adds t (flat_map f (take i xs)) u → Adds u (f (get_or xs i d)) v → Adds t (flat_map f (take (i + 1) xs)) v
next_piece f xs i d less before piece =
    let last : flat_map f (get_or xs i d ∷ []) ≡ f (get_or xs i d) = append-nil (f (get_or xs i d)) in
    adds_same (joined before piece) (sym (ap (flat_map f) (take_more xs i d less) ∙ flat_map-append f (take i xs) (get_or xs i d ∷ []) ∙ ap (λ y. flat_map f (take i xs) ++ y) last))
