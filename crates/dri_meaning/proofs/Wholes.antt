-- A journal is whole exactly where the check says so.
use Rattle.std.proofs.Common.{◌≡◌, ℕ, List, [], ◌∷◌, length, Bool, true, false, Option, Some, None, arith, refl, sym, ap, ◌∙◌}
use Rattle.std.specs.Prelude.{◌==◌, ◌&&◌, is_none}
use Rattle.std.specs.List.{list_all}
use Rattle.std.proofs.lemmas.Bool.{true≢false, and_parts}
use Rattle.std.proofs.lemmas.Bool.Decides.{nat_tests}
use Rattle.dri_base.specs.declared.command.Command.{Command}
use Rattle.dri_base.specs.declared.journal.Entry.{Entry}
use Rattle.dri_base.specs.declared.scene.ClientScript.{ClientScript}
use Rattle.dri_base.specs.declared.scene.Scene.{Scene}
use Rattle.dri_base.specs.Scenes.{script_in, commands_of}
use Rattle.dri_base.proofs.RangeLemmas.{IsWellFormed}
use Rattle.dri_core.specs.Phases.{is_done}
use Rattle.dri_meaning.specs.Reports.{is_whole}
use Rattle.dri_core.specs.Runs.{after, HoldRun, Whole}
use Rattle.dri_core.specs.Worlds.{World}
use Rattle.dri_core.proofs.Lively.{Lively, lively_after}

-- what holds of each client in the list holds of each that has commands
done_in : (w : World) (ps : List ClientScript) (c : ℕ) → list_all (λ p. is_done (w.client p.number).phase) ps ≡ true → ((script_in ps c).commands ≡ [] → ⊥) → is_done (w.client c).phase ≡ true
done_in w [] c all some = absurd (some refl)
done_in w (p ∷ ps) c all some = by_number (p.number == c) refl (done_in w ps c)
  where
    parts : (is_done (w.client p.number).phase ≡ true) × (list_all (λ p. is_done (w.client p.number).phase) ps ≡ true)
    parts = and_parts _ _ all

    same : (p.number == c) ≡ true → p.number ≡ c
    same e = grind (arith, nat_tests)

    by_number : (b : Bool) → (p.number == c) ≡ b → (list_all (λ p. is_done (w.client p.number).phase) ps ≡ true → ((script_in ps c).commands ≡ [] → ⊥) → is_done (w.client c).phase ≡ true) → is_done (w.client c).phase ≡ true
    by_number true e on = ap (λ d. is_done (w.client d).phase) (sym (same e)) ∙ parts.0
    by_number false e on = on parts.1 (λ none. some (rw e none))

all_done : (w : World) (ps : List ClientScript) → ((c : ℕ) → is_done (w.client c).phase ≡ true) → list_all (λ p. is_done (w.client p.number).phase) ps ≡ true
all_done w [] done = refl
all_done w (p ∷ ps) done = rw (done p.number) (all_done w ps done)

no_holder : (o : Option ℕ) → is_none o ≡ true → o ≡ None
no_holder None e = refl
no_holder (Some c) e = absurd (true≢false (sym e))

-- a client without commands is done
done_without : (s : Scene) (w : World) (c : ℕ) → Lively s w → list_all (λ p. is_done (w.client p.number).phase) s.clients ≡ true → (cs : List Command) → commands_of s c ≡ cs → is_done (w.client c).phase ≡ true
done_without s w c lively all [] is = ap is_done (lively.empty c is)
done_without s w c lively all (x ∷ xs) is = done_in w s.clients c all (λ none. absurd (cons_none (sym is ∙ none)))
  where
    cons_none : x ∷ xs ≡ [] → ⊥
    cons_none e = grind arith

pub whole_is : (s : Scene) (journal : List Entry) → IsWellFormed s → HoldRun s journal → is_whole s journal ≡ true → Whole s journal
whole_is s journal good run e = record {
  unheld = no_holder (after s journal).holder parts.0;
  asking = λ c p. true≢false (sym (done c) ∙ rw p refl);
  done = done;
  made = made_all rest.1;
}
  where
    parts : (is_none (after s journal).holder ≡ true) × ((list_all (λ p. is_done ((after s journal).client p.number).phase) s.clients && ((after s journal).made == length s.changes)) ≡ true)
    parts = and_parts _ _ e

    rest : (list_all (λ p. is_done ((after s journal).client p.number).phase) s.clients ≡ true) × (((after s journal).made == length s.changes) ≡ true)
    rest = and_parts _ _ parts.1

    done : (c : ℕ) → is_done ((after s journal).client c).phase ≡ true
    done c = done_without s (after s journal) c (lively_after s journal good run) rest.0 (commands_of s c) refl

    made_all : ((after s journal).made == length s.changes) ≡ true → (after s journal).made ≡ length s.changes
    made_all h = grind (arith, nat_tests)

pub is_whole_at : (s : Scene) (journal : List Entry) → Whole s journal → is_whole s journal ≡ true
is_whole_at s journal whole = rw (whole.unheld, all_done (after s journal) s.clients whole.done) all_made
  where
    all_made : ((after s journal).made == length s.changes) ≡ true
    all_made = grind (arith, nat_tests, whole.made)
