-- Each journal is a hold-run, or has one first bad entry.
use Rattle.std.proofs.Common.{◌≡◌, ◌+◌, ℕ, suc, List, [], ◌∷◌, ◌++◌, Bool, true, false, length, refl, sym, ap, ◌∙◌, inl, inr, subst, append_assoc, rules, arith, ◌<◌, take, drop, get_or, length-take-le}
use Rattle.std.specs.Prelude.{◌⊎◌, if◌then◌else◌}
use Rattle.std.proofs.Math.Seq.{split_at}
use Rattle.std.proofs.lemmas.Bool.{true≢false, false_from_ne_true}
use Rattle.dri_base.specs.declared.journal.Entry.{Entry}
use Rattle.dri_base.specs.declared.scene.Scene.{Scene}
use Rattle.dri_core.specs.Decide.{is_legal_entry}
use Rattle.dri_core.specs.EntryTable.{LegalEntry, after_entry}
use Rattle.dri_core.specs.FirstBad.{IsFirstBad}
use Rattle.dri_core.specs.Runs.{HoldRun, LegalEntries, after, after_entries}
use Rattle.dri_core.specs.Worlds.{World, opening}
use Rattle.dri_core.proofs.Decide.{is_legal, legal_is}
use Rattle.dri_core.proofs.Laws.{HoldRun-push, LegalEntries-append}

-- one of the two
judged_from : (s : Scene) (past rest : List Entry) → HoldRun s past → HoldRun s (past ++ rest) ⊎ ((n : ℕ) × IsFirstBad s (past ++ rest) n)
judged_from s past [] run = inl (subst (HoldRun s) (search rules) run)
judged_from s past (e ∷ es) run = by_test (is_legal_entry s (after s past) e) refl (λ more. judged_from s (past ++ e ∷ []) es more)
  where
    joined : (past ++ e ∷ []) ++ es ≡ past ++ e ∷ es
    joined = append_assoc past (e ∷ []) es

    by_test : (b : Bool) → is_legal_entry s (after s past) e ≡ b → (HoldRun s (past ++ e ∷ []) → HoldRun s ((past ++ e ∷ []) ++ es) ⊎ ((n : ℕ) × IsFirstBad s ((past ++ e ∷ []) ++ es) n)) →
        HoldRun s (past ++ e ∷ es) ⊎ ((n : ℕ) × IsFirstBad s (past ++ e ∷ es) n)
    by_test true t on = subst (λ j. HoldRun s j ⊎ ((n : ℕ) × IsFirstBad s j n)) joined (on (HoldRun-push s past e run (legal_is s (after s past) e t)))
    by_test false t on = inr (length past + 1, record { past = past; entry = e; rest = es; split = refl; number = refl; run = run; refused = λ legal. true≢false (sym (is_legal s (after s past) e legal) ∙ t) })

pub judged : (s : Scene) (journal : List Entry) → HoldRun s journal ⊎ ((n : ℕ) × IsFirstBad s journal n)
judged s journal = judged_from s [] journal tt

-- not both
pub bad_is_no_run : (s : Scene) (journal : List Entry) (n : ℕ) → HoldRun s journal → IsFirstBad s journal n → ⊥
bad_is_no_run s journal n run bad = bad.refused (LegalEntries-append s (opening s) bad.past (bad.entry ∷ bad.rest) (rw bad.split at run)).1.0

-- how many entries are legal before the first that isn't
legal_ahead : Scene → World → List Entry → ℕ
legal_ahead s w [] = 0
legal_ahead s w (e ∷ es) = if is_legal_entry s w e then suc (legal_ahead s (after_entry s w e) es) else 0

ahead_is : (s : Scene) (w : World) (past : List Entry) (e : Entry) (rest : List Entry) → LegalEntries s w past → (LegalEntry s (after_entries s w past) e → ⊥) → legal_ahead s w (past ++ e ∷ rest) ≡ length past
unfolding legal_ahead
ahead_is s w [] e rest all refused = let no : is_legal_entry s w e ≡ false = false_from_ne_true _ (λ t. refused (legal_is s w e t)) in rw no refl
ahead_is s w (x ∷ xs) e rest all refused = rw (is_legal s w x all.0) (ap suc (ahead_is s (after_entry s w x) xs e rest all.1 refused) ∙ search rules)

-- no two
pub one_first_bad : (s : Scene) (journal : List Entry) (m n : ℕ) → IsFirstBad s journal m → IsFirstBad s journal n → m ≡ n
one_first_bad s journal m n a b = a.number ∙ ap (λ k. k + 1) (sym (counted m a) ∙ counted n b) ∙ sym b.number
  where
    counted : (k : ℕ) (bad : IsFirstBad s journal k) → legal_ahead s (opening s) journal ≡ length bad.past
    counted k bad = ap (legal_ahead s (opening s)) bad.split ∙ ahead_is s (opening s) bad.past bad.entry bad.rest bad.run bad.refused

-- for a walk that comes to it, as `HoldRun-more` is for one that goes on
pub first_bad_at : (s : Scene) (xs : List Entry) (i : ℕ) (d : Entry) → i < length xs → HoldRun s (take i xs) → (LegalEntry s (after s (take i xs)) (get_or xs i d) → ⊥) → IsFirstBad s xs (i + 1)
first_bad_at s xs i d lt run refused = record {
  past = take i xs;
  entry = get_or xs i d;
  rest = drop (suc i) xs;
  split = split_at xs i d lt;
  number = ap (λ k. k + 1) (sym (length-take-le i xs (omega (arith, lt))));
  run = run;
  refused = refused;
}
