-- The frames that are cut, one script after the other.
use Rattle.std.proofs.Common.{◌≡◌, ◌≢◌, ◌<◌, ◌+◌, ◌∙◌, ℕ, zero, suc, List, [], ◌∷◌, Bool, true, false, Some, get_or, refl, sym, ap, arith, inl, inr}
use Rattle.std.proofs.Math.ListN.{set}
use Rattle.std.specs.Prelude.{◌⊎◌, slice_get}
use Rattle.std.proofs.lemmas.Bool.{cases_eq}
use Rattle.std.proofs.lemmas.Option.{get_or_from_slice_get}
use Rattle.dri_base.specs.declared.scene.ClientScript.{ClientScript}
use Rattle.dri_journal.specs.Tallies.{standing_in}
use Rattle.dri_journal.specs.declared.tally.Standing.{Standing}
use Rattle.dri_journal.proofs.Keeping.{some_one}
use Rattle.dri_core.proofs.Lists.{written}
use Rattle.dri_meaning.specs.Reports as Reports
use Rattle.dri_meaning.specs.Reports.{cut_by}

-- the frame of each of the first n scripts is cut where its window is
abbrev pub AreCutBefore : (ℕ → Bool) → List ClientScript → ℕ → List Standing → List Standing → Type 0
AreCutBefore cuts clients n old new = (i : ℕ) (p : ClientScript) (x y : Standing) → i < n → slice_get clients i ≡ Some p → slice_get old i ≡ Some x → slice_get new i ≡ Some y → standing_in y ≡ cut_by (cuts p.window) (standing_in x)

-- a write leaves the other elements
pub set_other : {A : Type 0} (xs : List A) (i k : ℕ) (x : A) → k ≢ i → slice_get (set xs i x) k ≡ slice_get xs k
set_other [] i k x ne = refl
set_other (y ∷ ys) zero zero x ne = absurd (ne refl)
set_other (y ∷ ys) zero (suc k) x ne = refl
set_other (y ∷ ys) (suc i) zero x ne = refl
set_other (y ∷ ys) (suc i) (suc k) x ne = set_other ys i k x (λ e. ne (ap suc e))

uncut : (x : Reports.Standing) → x ≡ cut_by false x
uncut x = refl

-- one script more
module _ (cuts : ℕ → Bool) (clients : List ClientScript) (n : ℕ) (d : ClientScript) (old now : List Standing) (before : AreCutBefore cuts clients n old now) (same : slice_get now n ≡ slice_get old n) where
  is_script : (i : ℕ) (p : ClientScript) → i ≡ n → slice_get clients i ≡ Some p → get_or clients n d ≡ p
  is_script i p e at = get_or_from_slice_get clients n p d (ap (slice_get clients) (sym e) ∙ at)

  is_now : (i : ℕ) (x : Standing) → i ≡ n → slice_get old i ≡ Some x → slice_get now n ≡ Some x
  is_now i x e at = same ∙ ap (slice_get old) (sym e) ∙ at

  -- whose frame isn't cut
  pub keep_more : cuts (get_or clients n d).window ≡ false → AreCutBefore cuts clients (n + 1) old now
  keep_more uncuts i p x y below at_p at_x at_y = by_place (cases_eq i n)
    where
      by_place : (i ≡ n) ⊎ (i ≡ n → ⊥) → standing_in y ≡ cut_by (cuts p.window) (standing_in x)
      by_place (inl e) =
          let alike : x ≡ y = some_one (sym (is_now i x e at_x) ∙ ap (slice_get now) (sym e) ∙ at_y) in
          let test : cuts p.window ≡ false = ap (λ (q : ClientScript). cuts q.window) (sym (is_script i p e at_p)) ∙ uncuts in
          ap standing_in (sym alike) ∙ uncut (standing_in x) ∙ ap (λ b. cut_by b (standing_in x)) (sym test)
      by_place (inr ne) = before i p x y (omega (arith, below, ne)) at_p at_x at_y

  -- whose frame is cut
  pub cut_more : (was value : Standing) → cuts (get_or clients n d).window ≡ true → was ≡ get_or now n was → standing_in value ≡ cut_by true (standing_in was) → AreCutBefore cuts clients (n + 1) old (set now n value)
  cut_more was value does read is i p x y below at_p at_x at_y = by_place (cases_eq i n)
    where
      by_place : (i ≡ n) ⊎ (i ≡ n → ⊥) → standing_in y ≡ cut_by (cuts p.window) (standing_in x)
      by_place (inl e) =
          let alike : y ≡ value = written now n value y (ap (slice_get (set now n value)) (sym e) ∙ at_y) in
          let old_is : was ≡ x = read ∙ get_or_from_slice_get now n x was (is_now i x e at_x) in
          let test : cuts p.window ≡ true = ap (λ (q : ClientScript). cuts q.window) (sym (is_script i p e at_p)) ∙ does in
          ap standing_in alike ∙ is ∙ (λ k. cut_by (sym test k) (standing_in (old_is k)))
      by_place (inr ne) = before i p x y (omega (arith, below, ne)) at_p at_x (sym (set_other now n i value ne) ∙ at_y)
