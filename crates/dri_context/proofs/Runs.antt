-- Readers after lists of words.
use Rattle.std.proofs.Common.{◌≡◌, ℕ, ◌+◌, ◌<◌, List, [], ◌∷◌, ◌++◌, length, get_or, take, Option, Some, None, Bool, true, false, if◌then◌else◌, ◌==◌, refl, sym, ap, ◌∙◌, inl, inr, ◌⊎◌}
use Rattle.std.proofs.lemmas.List.{take_more}
use Rattle.std.proofs.lemmas.Bool.{cases_Bool, cond-true, cond-false}
use Rattle.std.proofs.lemmas.Option.{same_Some, none-some}
use Rattle.dri_context.specs.Reading.{Reader, after, run, fits, word_taken, header_read}

pub run-append : (o : Option Reader) (xs ys : List ℕ) → run o (xs ++ ys) ≡ run (run o xs) ys
run-append None xs ys = sym (stuck xs ys)
  where
    none : (ys : List ℕ) → run None ys ≡ None
    none [] = refl
    none (y ∷ ys) = refl

    stuck : (xs ys : List ℕ) → run (run None xs) ys ≡ run None (xs ++ ys)
    stuck xs ys = refl
run-append (Some r) [] ys = refl
run-append (Some r) (x ∷ xs) ys = run-append (after r x) xs ys

pub run_nil : (o : Option Reader) → run o [] ≡ o
run_nil None = refl
run_nil (Some r) = refl

pub run_more : (o : Option Reader) (words : List ℕ) (i : ℕ) (r : Reader) → i < length words → run o (take i words) ≡ Some r → run o (take (i + 1) words) ≡ after r (get_or words i 0)
run_more o words i r within so_far =
    ap (run o) (take_more words i 0 within) ∙ run-append o (take i words) (get_or words i 0 ∷ []) ∙ ap (λ p. run p (get_or words i 0 ∷ [])) so_far ∙ run_nil (after r (get_or words i 0))

-- a reader within a group goes on by a word that fits, or ends there
pub word_step : (r e : Reader) (ws : List ℕ) → (r.at == 0) ≡ false → run (Some r) ws ≡ Some e → (r ≡ e) ⊎ ((v : ℕ) × (rest : List ℕ) × (ws ≡ v ∷ rest) × (fits r.group r.at r.first v ≡ true) × (run (Some (word_taken r v)) rest ≡ Some e))
word_step r e [] within ran = inl (same_Some r e ran)
word_step r e (v ∷ rest) within ran =
    let fit : Bool = fits r.group r.at r.first v in
    let next : Option Reader = if fit then Some (word_taken r v) else None in
    let inside : run next rest ≡ Some e = sym (ap (λ o. run o rest) (cond-false (r.at == 0) (header_read r v) next within)) ∙ ran in
    elim (cases_Bool fit) as (λ _. (r ≡ e) ⊎ ((w : ℕ) × (more : List ℕ) × (v ∷ rest ≡ w ∷ more) × (fits r.group r.at r.first w ≡ true) × (run (Some (word_taken r w)) more ≡ Some e))) [
      | inl told ↦ inr (v, rest, refl, told, sym (ap (λ o. run o rest) (cond-true fit (Some (word_taken r v)) None told)) ∙ inside)
      | inr other ↦ absurd (none-some e (sym (ap (λ o. run o rest) (cond-false fit (Some (word_taken r v)) None other)) ∙ inside))
    ]
