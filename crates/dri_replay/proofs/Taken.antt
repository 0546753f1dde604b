-- The entries of a journal, taken one after the other, and the first that isn't legal.
use Rattle.std.proofs.Common.{◌≡◌, ◌<◌, ◌≤◌, ◌+◌, ℕ, zero, suc, List, [], ◌∷◌, ◌++◌, length, take, get_or, refl, ◌∙◌, sym, ap, subst, arith}
use Rattle.std.proofs.lemmas.List.{take_all}
use Rattle.dri_base.specs.Limits.{word_end}
use Rattle.dri_base.specs.declared.journal.Entry.{Entry}
use Rattle.dri_base.specs.declared.scene.Scene.{Scene}
use Rattle.dri_core.proofs.FirstBad.{first_bad_at}
use Rattle.dri_core.proofs.Laws.{HoldRun-more}
use Rattle.dri_core.specs.EntryTable.{LegalEntry}
use Rattle.dri_core.specs.FirstBad.{IsFirstBad}
use Rattle.dri_core.specs.Runs.{HoldRun, after}
use Rattle.dri_journal.specs.Replays.{MayTake, ReplayState, Took}

take_more : (xs : List Entry) (n : ℕ) (d : Entry) → n < length xs → take n xs ++ get_or xs n d ∷ [] ≡ take (suc n) xs
take_more [] n d lt = absurd (omega (arith, lt))
take_more (x ∷ xs) zero d lt = refl
take_more (x ∷ xs) (suc n) d lt = ap (λ ys. x ∷ ys) (take_more xs n d (omega (arith, lt)))

-- so many entries were taken
pub record AreTaken (s : Scene) (xs : List Entry) (n : ℕ) (v : ReplayState) : Type 0 where
  pub scene : v.scene ≡ s
  pub entries : v.entries ≡ take n xs
  pub run : HoldRun s (take n xs)

legal_at : (s : Scene) (xs : List Entry) (n : ℕ) (v : ReplayState) (e : Entry) → AreTaken s xs n v → MayTake v e → LegalEntry s (after s (take n xs)) e
legal_at s xs n v e are may = subst (λ t. LegalEntry t (after t (take n xs)) e) are.scene (subst (λ ys. LegalEntry v.scene (after v.scene ys) e) are.entries may)

legal_of : (s : Scene) (xs : List Entry) (n : ℕ) (v : ReplayState) (e : Entry) → AreTaken s xs n v → LegalEntry s (after s (take n xs)) e → MayTake v e
legal_of s xs n v e are legal = subst (λ ys. LegalEntry v.scene (after v.scene ys) e) (sym are.entries) (subst (λ t. LegalEntry t (after t (take n xs)) e) (sym are.scene) legal)

-- before the first
pub none_taken : (s : Scene) (xs : List Entry) (v : ReplayState) → v ≡ record { scene = s; entries = [] } → AreTaken s xs 0 v
none_taken s xs v e = record { scene = ap (λ (u : ReplayState). u.scene) e; entries = ap (λ (u : ReplayState). u.entries) e; run = tt }

-- one more
pub one_taken : (s : Scene) (xs : List Entry) (n : ℕ) (old new : ReplayState) (d : Entry) → n < length xs → AreTaken s xs n old → MayTake old (get_or xs n d) → Took old new (get_or xs n d) → AreTaken s xs (n + 1) new
one_taken s xs n old new d lt are may took = record {
  scene = took.scene ∙ are.scene;
  entries = took.entries ∙ ap (λ ys. ys ++ get_or xs n d ∷ []) are.entries ∙ take_more xs n d lt ∙ ap (λ k. take k xs) (next n);
  run = HoldRun-more s xs n d lt are.run (legal_at s xs n old (get_or xs n d) are may);
}
  where
    next : (k : ℕ) → suc k ≡ k + 1
    next k = omega arith

-- there are fewer than can be counted
pub few_taken : (s : Scene) (xs : List Entry) (n : ℕ) (v : ReplayState) → AreTaken s xs n v → n < length xs → length xs < word_end → length v.entries + 1 < word_end
few_taken s xs n v are lt few = omega (arith, ap (λ (ys : List Entry). length ys) are.entries, short n xs, lt, few)
  where
    short : (k : ℕ) (ys : List Entry) → length (take k ys) ≤ k
    short zero ys = omega arith
    short (suc k) [] = omega arith
    short (suc k) (y ∷ ys) = omega (arith, short k ys)

-- the first entry that was refused
pub first_refused : (s : Scene) (xs : List Entry) (n : ℕ) (old : ReplayState) (d : Entry) → n < length xs → AreTaken s xs n old → (MayTake old (get_or xs n d) → ⊥) → IsFirstBad s xs (n + 1)
first_refused s xs n old d lt are refused = first_bad_at s xs n d lt are.run (λ legal. refused (legal_of s xs n old (get_or xs n d) are legal))

-- and all
pub all_taken : (s : Scene) (xs : List Entry) (n : ℕ) (v : ReplayState) → length xs ≤ n → AreTaken s xs n v → v ≡ record { scene = s; entries = xs }
all_taken s xs n v le are = λ i. record { scene = are.scene i; entries = (are.entries ∙ take_all n xs le) i }
