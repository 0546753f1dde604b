-- What a report means.
use Rattle.std.proofs.Common.{◌≡◌, ◌∙◌, ◌≤◌, ◌<◌, ◌+◌, ℕ, zero, suc, List, [], ◌∷◌, length, take, get_or, Err, refl, sym, ap, subst, arith}
use Rattle.dri_base.specs.Ranges.{InRange}
use Rattle.dri_base.specs.declared.journal.Entry.{Entry}
use Rattle.dri_base.specs.declared.scene.Scene.{Scene}
use Rattle.dri_base.proofs.RangeLemmas.{well_formed}
use Rattle.dri_base.specs.declared.journal.Entry.TheVariants as Entry_is
use Rattle.dri_core.proofs.FirstBad.{first_bad_at}
use Rattle.dri_core.specs.EntryTable.{LegalEntry}
use Rattle.dri_core.specs.FirstBad.{IsFirstBad}
use Rattle.dri_core.specs.Runs.{HoldRun, after}
use Rattle.dri_journal.specs.Replays.{ReplayState, Steps}
use Rattle.dri_journal.specs.declared.refusal.Refusal.{Refusal}
use Rattle.dri_journal.specs.declared.refusal.StepFault.{StepFault}
use Rattle.dri_journal.specs.declared.refusal.StepFault.TheVariants as faults
use Rattle.dri_core.specs.Frames.{Counts, FrameRan, FrameStood}
use Rattle.dri_journal.specs.Checks.{IsReport, Tells}
use Rattle.dri_journal.specs.declared.answer.Report.{Report}
use Rattle.dri_meaning.proofs.RanFrames.{frames_counted}
use Rattle.dri_meaning.proofs.StoodFrames.{stood_counted}
use Rattle.dri_meaning.proofs.Wholes.{is_whole_at, whole_is}

pub tells_of : (s : Scene) (j : List Entry) (r : Report) → InRange s → IsReport s j r → Tells s j r
tells_of s j r good is = record {
  frames = subst (Counts (FrameRan s j)) (sym is.frames) (frames_counted s j is.run);
  stood = subst (Counts (FrameStood s j)) (sym is.stood) (stood_counted s j is.run);
  whole = (λ e. whole_is s j (well_formed s good) is.run (sym is.whole ∙ e), λ w. is.whole ∙ is_whole_at s j w);
}

take_whole : (xs : List Entry) (n : ℕ) → length xs ≤ n → take n xs ≡ xs
take_whole [] zero le = refl
take_whole [] (suc n) le = refl
take_whole (x ∷ xs) zero le = absurd (omega (arith, le))
take_whole (x ∷ xs) (suc n) le = ap (λ ys. x ∷ ys) (take_whole xs n (omega (arith, le)))

-- the report of all entries
pub reported : (s t : Scene) (xs es : List Entry) (n : ℕ) (r : Report) → InRange s → t ≡ s → es ≡ take n xs → length xs ≤ n → IsReport t es r → Tells s xs r
reported s t xs es n r good scene entries le is = tells_of s xs r good (subst (λ k. IsReport k xs r) scene (subst (λ ys. IsReport t ys r) (entries ∙ take_whole xs n le) is))

-- the first entry that was refused
pub first_refused : (s : Scene) (old new : ReplayState) (xs : List Entry) (n : ℕ) (fault : StepFault) (refusal : Refusal) → n < length xs → old.scene ≡ s → old.entries ≡ take n xs → HoldRun s (take n xs) →
    fault ≡ faults.Refused refusal → Steps old new (get_or xs n (Entry_is.Light 0)) (Err fault) → IsFirstBad s xs (n + 1)
first_refused s old new xs n fault refusal lt scene entries run is steps = first_bad_at s xs n (Entry_is.Light 0) lt run refused
  where
    told : Steps old new (get_or xs n (Entry_is.Light 0)) (Err (faults.Refused refusal))
    told = subst (λ f. Steps old new (get_or xs n (Entry_is.Light 0)) (Err f)) is steps

    refused : LegalEntry s (after s (take n xs)) (get_or xs n (Entry_is.Light 0)) → ⊥
    refused legal = told.0 (subst (λ t. LegalEntry t (after t old.entries) (get_or xs n (Entry_is.Light 0))) (sym scene) (subst (λ ys. LegalEntry s (after s ys) (get_or xs n (Entry_is.Light 0))) (sym entries) legal))
