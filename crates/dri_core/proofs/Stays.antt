-- What later entries of a journal leave as it is, and when a journal is whole.
use Rattle.std.proofs.Common.{◌≡◌, ◌≢◌, ◌⊎◌, ℕ, suc, List, [], ◌∷◌, ◌++◌, length, Bool, true, false, Option, Some, None, refl, sym, ap, ◌∙◌, subst, arith, inl, inr}
use Rattle.std.specs.Prelude.{◌==◌, Contains}
use Rattle.std.specs.List.{All}
use Rattle.std.proofs.lemmas.Bool.{true≢false}
use Rattle.std.proofs.lemmas.Bool.Decides.{nat_tests}
use Rattle.dri_base.specs.declared.journal.Entry.{Entry}
use Rattle.dri_base.specs.declared.journal.Entry.TheVariants.{Change, Run, Gone}
use Rattle.dri_base.specs.declared.scene.ClientScript.{ClientScript}
use Rattle.dri_base.specs.declared.scene.Scene.{Scene}
use Rattle.dri_base.specs.Ranges.{InRange, client_numbers}
use Rattle.dri_base.specs.Scenes.{script_in}
use Rattle.dri_base.proofs.RangeLemmas.{well_formed}
use Rattle.dri_core.specs.EntryTable.{LegalEntry, after_entry}
use Rattle.dri_core.specs.Phases as Phase_is
use Rattle.dri_core.specs.Phases.{Phase, is_done, is_holding}
use Rattle.dri_core.specs.Runs.{after, after_entries, client_of, HoldRun, LegalEntries, Whole, plain}
use Rattle.dri_core.specs.Worlds.{World, opening}
use Rattle.dri_core.proofs.Laws.{after_entries-append, LegalEntries-append}
use Rattle.dri_core.proofs.Lively.{lively_after}

-- The number of changes made: the server's entries alone change it.

made_step : (s : Scene) (w : World) (e : Entry) → client_of e ≢ 0 → (after_entry s w e).made ≡ w.made
made_step s w (Change i) ne = absurd (ne refl)
made_step s w (Gone c) ne = refl
made_step s w _ ne = refl

made_along : (s : Scene) (w : World) (es : List Entry) → All (λ e. client_of e ≢ 0) es → (after_entries s w es).made ≡ w.made
made_along s w [] others = refl
made_along s w (e ∷ es) others = made_along s (after_entry s w e) es (λ k d lt. others (suc k) d (omega arith)) ∙ made_step s w e (others 0 e (omega arith))

pub made_stays : (s : Scene) (seen later : List Entry) → All (λ e. client_of e ≢ 0) later → (after s (seen ++ later)).made ≡ (after s seen).made
made_stays s seen later others = ap (λ (w : World). w.made) (after_entries-append s (opening s) seen later) ∙ made_along s (after s seen) later others

-- A client that is done: no entry of its own is legal, but none takes that from it.

done_step : (s : Scene) (w : World) (e : Entry) (c : ℕ) → LegalEntry s w e → is_done (w.client c).phase ≡ true → is_done ((after_entry s w e).client c).phase ≡ true
done_step s w (Change i) c legal done = done
done_step s w (Run d i) c legal done = grind (arith, nat_tests)
done_step s w (Gone d) c legal done = grind (arith, nat_tests)
done_step s w _ c legal done = grind (arith, nat_tests)

done_along : (s : Scene) (w : World) (es : List Entry) (c : ℕ) → LegalEntries s w es → is_done (w.client c).phase ≡ true → is_done ((after_entries s w es).client c).phase ≡ true
done_along s w [] c run done = done
done_along s w (e ∷ es) c run done = done_along s (after_entry s w e) es c run.1 (done_step s w e c run.0 done)

pub done_stays : (s : Scene) (seen later : List Entry) (c : ℕ) → HoldRun s (seen ++ later) → is_done ((after s seen).client c).phase ≡ true → is_done ((after s (seen ++ later)).client c).phase ≡ true
done_stays s seen later c run done =
    ap (λ (w : World). is_done (w.client c).phase) (after_entries-append s (opening s) seen later) ∙ done_along s (after s seen) later c (LegalEntries-append s (opening s) seen later run).1 done

-- All changes made: no other is legal.

all_made_step : (s : Scene) (w : World) (e : Entry) → LegalEntry s w e → w.made ≡ length s.changes → (after_entry s w e).made ≡ length s.changes
all_made_step s w (Change i) legal all = let next = legal.1 in let few = legal.2 in absurd (omega arith)
all_made_step s w (Run d i) legal all = all
all_made_step s w (Gone d) legal all = all
all_made_step s w _ legal all = all

all_made_along : (s : Scene) (w : World) (es : List Entry) → LegalEntries s w es → w.made ≡ length s.changes → (after_entries s w es).made ≡ length s.changes
all_made_along s w [] run all = all
all_made_along s w (e ∷ es) run all = all_made_along s (after_entry s w e) es run.1 (all_made_step s w e run.0 all)

pub all_made_stays : (s : Scene) (seen later : List Entry) → HoldRun s (seen ++ later) → (after s seen).made ≡ length s.changes → (after s (seen ++ later)).made ≡ length s.changes
all_made_stays s seen later run all =
    ap (λ (w : World). w.made) (after_entries-append s (opening s) seen later) ∙ all_made_along s (after s seen) later (LegalEntries-append s (opening s) seen later run).1 all

-- A whole journal: who holds isn't done, and who has no commands is.

done_rests : (p : Phase) → is_done p ≡ true → is_holding p ≡ true → ⊥
done_rests Phase_is.Out done holds = true≢false (sym done)
done_rests Phase_is.Asking done holds = true≢false (sym done)
done_rests Phase_is.Ended done holds = true≢false (sym holds)
done_rests Phase_is.Dead done holds = true≢false (sym holds)
done_rests Phase_is.Old done holds = true≢false (sym done)
done_rests Phase_is.In done holds = true≢false (sym done)
done_rests Phase_is.Over done holds = true≢false (sym done)
done_rests Phase_is.Ask done holds = true≢false (sym done)

-- a number is that of a client of the scene, or has no commands
has_or_idle : (ps : List ClientScript) (c : ℕ) → Contains (client_numbers ps) c ⊎ ((script_in ps c).commands ≡ [])
has_or_idle [] c = inr refl
has_or_idle (p ∷ ps) c = by_number (p.number == c) refl (has_or_idle ps c)
  where
    by_number : (b : Bool) → (p.number == c) ≡ b → Contains (client_numbers ps) c ⊎ ((script_in ps c).commands ≡ []) → Contains (client_numbers (p ∷ ps)) c ⊎ ((script_in (p ∷ ps) c).commands ≡ [])
    by_number true e on = let same : p.number ≡ c = grind (arith, nat_tests) in inl (0, omega arith, same)
    by_number false e (inl has) = inl (suc has.0, (let below = has.1 in omega arith), has.2)
    by_number false e (inr none) = inr (rw e none)

pub whole_by_parts : (s : Scene) (journal : List Entry) → InRange s → HoldRun s journal → ((c : ℕ) → Contains (client_numbers s.clients) c → is_done ((after s journal).client c).phase ≡ true) → (after s journal).made ≡ length s.changes → Whole s journal
whole_by_parts s journal good run each made = record { unheld = by_holder (after s journal).holder refl; asking = asks; done = done; made = made }
  where
    done : (c : ℕ) → is_done ((after s journal).client c).phase ≡ true
    done c = elim (has_or_idle s.clients c) [
      | inl has ↦ each c has
      | inr none ↦ ap is_done ((lively_after s journal (well_formed s good) run).empty c none)
    ]

    by_holder : (h : Option ℕ) → (after s journal).holder ≡ h → (after s journal).holder ≡ None
    by_holder None is = is
    by_holder (Some c) is = absurd (done_rests _ (done c) ((lively_after s journal (well_formed s good) run).held c is))

    asks : (c : ℕ) → ((after s journal).client c).phase ≡ Phase_is.Asking → ⊥
    asks c is = true≢false (sym (subst (λ p. is_done p ≡ true) is (done c)))

-- A scene without its schedule.

pub plain_in_range : (s : Scene) → InRange s → InRange (plain s)
plain_in_range s good = record {
  card = record { wide = good.card.wide; high = good.card.high; regions = good.card.regions; sized = good.card.sized };
  windowed = good.windowed;
  scripted = good.scripted;
  few = good.few;
  changed = good.changed;
  scheduled = record { few = omega arith; each = λ k d below. absurd (omega arith); once = λ i j d below beside. absurd (omega arith) };
}
