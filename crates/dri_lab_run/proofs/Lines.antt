-- Lines of words that are put piece by piece.
use Rattle.std.proofs.Common.{◌≡◌, ◌<◌, ◌+◌, ℕ, List, [], ◌∷◌, ◌++◌, length, map, take, refl, sym, ap, ◌∙◌, append_assoc}
use Rattle.std.specs.Fmt.{decimal}
use Rattle.std.proofs.Math.ListN.{get_or}
use Rattle.std.proofs.lemmas.List.{append-nil, map_push, take_more}
use Rattle.std.specs.List.{flat_map}
use Rattle.dri_scene.proofs.Joins.{adds_same, joined}
use Rattle.dri_scene.specs.Texts.{Adds, spaced, spelled}
use Rattle.dri_scene.specs.declared.words.Word.{Word}
use Rattle.dri_scene.specs.declared.words.Word.TheVariants as words
use Rattle.dri_words.specs.Lines.{words_bytes}
use Rattle.dri_lab_run.specs.Spaces.{behind_spaces}

-- words, and those behind them
spaces_append : (ws more : List (List ℕ)) → behind_spaces (ws ++ more) ≡ behind_spaces ws ++ behind_spaces more
spaces_append [] more = refl
spaces_append (w ∷ ws) more = ap (λ t. 32 ∷ (w ++ t)) (spaces_append ws more) ∙ sym (append_assoc (32 ∷ w) (behind_spaces ws) (behind_spaces more))

-- words, and the newline
spaces_ended : (ws : List (List ℕ)) → words_bytes ws ≡ behind_spaces ws ++ 10 ∷ []
spaces_ended [] = refl
spaces_ended (w ∷ ws) = ap (λ t. 32 ∷ (w ++ t)) (spaces_ended ws) ∙ sym (append_assoc (32 ∷ w) (behind_spaces ws) (10 ∷ []))

-- the words of values
spaces_spelled : (ws : List Word) → flat_map spaced ws ≡ behind_spaces (map spelled ws)
spaces_spelled [] = refl
spaces_spelled (w ∷ ws) = ap (λ t. spaced w ++ t) (spaces_spelled ws)

-- one word was put
pub put_word : {t u : List ℕ} (word : List ℕ) → Adds t (32 ∷ word) u → Adds t (behind_spaces (word ∷ [])) u
put_word word adds = adds_same adds (ap (λ w. 32 ∷ w) (sym (append-nil word)))

-- values were put
pub put_values : {t u : List ℕ} (ws : List Word) → Adds t (flat_map spaced ws) u → Adds t (behind_spaces (map spelled ws)) u
put_values ws adds = adds_same adds (spaces_spelled ws)

-- words were put, and then others
pub put_more : {t u v : List ℕ} (ws more : List (List ℕ)) → Adds t (behind_spaces ws) u → Adds u (behind_spaces more) v → Adds t (behind_spaces (ws ++ more)) v
put_more ws more first then = adds_same (joined first then) (sym (spaces_append ws more))

-- words were put, and then the newline
pub put_end : {t u v : List ℕ} (ws : List (List ℕ)) → Adds t (behind_spaces ws) u → Adds u (10 ∷ []) v → Adds t (words_bytes ws) v
put_end ws first then = adds_same (joined first then) (sym (spaces_ended ws))

-- a word and numbers were put, and then one number more
pub put_number : {t u v : List ℕ} (word : List ℕ) (numbers : List ℕ) (i d : ℕ) → i < length numbers → Adds t (behind_spaces (word ∷ map decimal (take i numbers))) u → Adds u (flat_map spaced (words.Number (get_or numbers i d) ∷ [])) v →
    Adds t (behind_spaces (word ∷ map decimal (take (i + 1) numbers))) v
put_number word numbers i d less first then =
    adds_same (put_more (word ∷ map decimal (take i numbers)) (decimal (get_or numbers i d) ∷ []) first (put_values (words.Number (get_or numbers i d) ∷ []) then))
    (ap (λ ns. behind_spaces (word ∷ ns)) (sym (ap (map decimal) (take_more numbers i d less) ∙ map_push decimal (take i numbers) (get_or numbers i d))))
