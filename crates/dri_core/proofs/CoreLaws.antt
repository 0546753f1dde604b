-- The headline over the core's own runs, by their journals.
use Rattle.std.proofs.Common.{◌≡◌, ◌≢◌, ℕ, List, [], ◌∷◌, ◌++◌, true, Option, Some, None, arith, refl, sym, ap, ◌∙◌, subst}
use Rattle.dri_base.specs.declared.journal.Entry.{Entry}
use Rattle.dri_base.specs.declared.journal.Entry.TheVariants as Entry_is
use Rattle.dri_base.specs.declared.journal.Event.{Event}
use Rattle.dri_base.specs.declared.journal.Event.TheVariants.{Light, Kernel, Queue, Mark, Run, Stop, Gone}
use Rattle.dri_base.specs.declared.scene.Scene.{Scene}
use Rattle.dri_base.proofs.RangeLemmas.{IsWellFormed}
use Rattle.dri_base.specs.Scenes.{window_of, command_at}
use Rattle.dri_core.specs.Worlds.{World, clips_in}
use Rattle.dri_core.specs.EntryTable.{after_entry}
use Rattle.dri_core.specs.Runs.{after, after_entries, SameOutside}
use Rattle.dri_core.specs.Frames.{Shows, Stands, NoSwap, OwnAt}
use Rattle.dri_core.specs.Solo.{is_swap}
use Rattle.dri_core.specs.Cores.{Core, opening_core, journal_of, entry_of, with_entry}
use Rattle.dri_core.specs.EventTable.{after_event, world_after}
use Rattle.dri_core.specs.CoreRuns.{after_events, IsRun}
use Rattle.dri_core.specs.CoreRuns.{world_of, ConfinedRun, OwnRun, StandsIn, entry_keeps, NoSwapIn, SoloLeftRun}
use Rattle.dri_core.proofs.Laws.{confined_run}
use Rattle.dri_core.proofs.Stood.{solo_left}
use Rattle.dri_core.proofs.Draws.{own_run}
use Rattle.dri_core.proofs.Cores.{journal_is_hold_run, journal_after, journal_world}

with_append : (o : Option Entry) (xs ys : List Entry) → with_entry o (xs ++ ys) ≡ with_entry o xs ++ ys
with_append None xs ys = refl
with_append (Some e) xs ys = refl

-- the journal of events after events
pub journal-append : (past rest : List Event) → journal_of (past ++ rest) ≡ journal_of past ++ journal_of rest
journal-append [] rest = refl
journal-append (e ∷ es) rest = ap (with_entry (entry_of e)) (journal-append es rest) ∙ with_append (entry_of e) (journal_of es) (journal_of rest)

pub confined_core : (s : Scene) (events : List Event) → IsWellFormed s → IsRun s events → ConfinedRun s events
confined_core s events good run past rest c i e =
    subst (λ w. SameOutside (clips_in s (world_of s past) c) (world_of s past) w) after_last
    (subst (λ w. SameOutside (clips_in s w c) w (after s (journal_of past ++ Entry_is.Run c i ∷ []))) (journal_after s past) law)
  where
    law : SameOutside (clips_in s (after s (journal_of past)) c) (after s (journal_of past)) (after s (journal_of past ++ Entry_is.Run c i ∷ []))
    law = confined_run s (journal_of events) good (journal_is_hold_run s events good run) (journal_of past) (journal_of rest) c i (ap journal_of e ∙ journal-append past (Run c i ∷ rest))

    after_last : after s (journal_of past ++ Entry_is.Run c i ∷ []) ≡ world_of s (past ++ Run c i ∷ [])
    after_last = ap (after s) (sym (journal-append past (Run c i ∷ []))) ∙ journal_after s (past ++ Run c i ∷ [])

pub own_core : (s : Scene) (events : List Event) → IsWellFormed s → IsRun s events → OwnRun s events
own_core s events good run past rest c i e =
    subst (λ w. OwnAt s w c i) (journal_after s past)
    (own_run s (journal_of events) good (journal_is_hold_run s events good run) (journal_of past) (journal_of rest) c i (ap journal_of e ∙ journal-append past (Run c i ∷ rest)))

with_stands : (s : Scene) (n : ℕ) (w : World) (o : Option Entry) (es : List Entry) → entry_keeps s w o n ≡ true → Stands s n (world_after s w o) es → Stands s n w (with_entry o es)
with_stands s n w None es same more = more
with_stands s n w (Some e) es same more = (same, more)

stands_journal : (s : Scene) (n : ℕ) (k : Core) (es : List Event) → StandsIn s n k es → Stands s n k.world (journal_of es)
stands_journal s n k [] stands = tt
stands_journal s n k (e ∷ es) stands = with_stands s n k.world (entry_of e) (journal_of es) stands.0 (stands_journal s n (after_event s k e) es stands.1)

noswap_event : (s : Scene) (c : ℕ) (e : Event) (es : List Entry) → ((i : ℕ) → is_swap (command_at s c i) ≡ true → e ≢ Run c i) → NoSwap s c es → NoSwap s c (with_entry (entry_of e) es)
noswap_event s c (Run d i) es differs more = (λ j swaps same. differs j swaps (run_same d i j same), more)
  where
    run_same : (d i j : ℕ) → Entry_is.Run d i ≡ Entry_is.Run c j → Run d i ≡ Run c j
    run_same d i j same = cc
noswap_event s c (Light d) es differs more = (λ j swaps same. grind arith, more)
noswap_event s c (Kernel d found) es differs more = (λ j swaps same. grind arith, more)
noswap_event s c (Queue a) es differs more = more
noswap_event s c (Mark a) es differs more = more
noswap_event s c (Stop d) es differs more = more
noswap_event s c (Gone d) es differs more = (λ j swaps same. grind arith, more)
noswap_event s c _ es differs more = (λ j swaps same. grind arith, more)

noswap_journal : (s : Scene) (c : ℕ) (es : List Event) → NoSwapIn s c es → NoSwap s c (journal_of es)
noswap_journal s c [] none = tt
noswap_journal s c (e ∷ es) none = noswap_event s c e (journal_of es) none.0 (noswap_journal s c es none.1)

pub solo_left_core : (s : Scene) (events : List Event) → IsWellFormed s → IsRun s events → SoloLeftRun s events
solo_left_core s events good run c k first last past middle later rest frame e stands_middle stands_later none =
    subst (λ w. Shows s c k w) (ap (λ w. after_entries s (after_entry s w (Entry_is.Run c last)) (journal_of later)) (ap (λ w. after_entries s (after_entry s w (Entry_is.Run c first)) (journal_of middle)) (journal_after s past) ∙ journal_world s cleared middle) ∙ journal_world s swapped later) law
  where
    cleared : Core
    cleared = after_event s (after_events s (opening_core s) past) (Run c first)

    swapped : Core
    swapped = after_event s (after_events s cleared middle) (Run c last)

    split : journal_of events ≡ journal_of past ++ Entry_is.Run c first ∷ (journal_of middle ++ Entry_is.Run c last ∷ (journal_of later ++ journal_of rest))
    split = ap journal_of e ∙ journal-append past (Run c first ∷ (middle ++ Run c last ∷ (later ++ rest)))
        ∙ ap (λ js. journal_of past ++ Entry_is.Run c first ∷ js) (journal-append middle (Run c last ∷ (later ++ rest)) ∙ ap (λ js. journal_of middle ++ Entry_is.Run c last ∷ js) (journal-append later rest))

    stood : Stands s (window_of s c) (after_entry s (after s (journal_of past)) (Entry_is.Run c first)) (journal_of middle)
    stood = subst (λ w. Stands s (window_of s c) (after_entry s w (Entry_is.Run c first)) (journal_of middle)) (sym (journal_after s past)) (stands_journal s (window_of s c) cleared middle stands_middle)

    drawing : World
    drawing = after_entries s (after_entry s (after s (journal_of past)) (Entry_is.Run c first)) (journal_of middle)

    drawing_is : drawing ≡ (after_events s cleared middle).world
    drawing_is = ap (λ w. after_entries s (after_entry s w (Entry_is.Run c first)) (journal_of middle)) (journal_after s past) ∙ journal_world s cleared middle

    stayed : Stands s (window_of s c) (after_entry s drawing (Entry_is.Run c last)) (journal_of later)
    stayed = subst (λ w. Stands s (window_of s c) (after_entry s w (Entry_is.Run c last)) (journal_of later)) (sym drawing_is) (stands_journal s (window_of s c) swapped later stands_later)

    law : Shows s c k (after_entries s (after_entry s drawing (Entry_is.Run c last)) (journal_of later))
    law = solo_left s (journal_of events) good (journal_is_hold_run s events good run) c k first last (journal_of past) (journal_of middle) (journal_of later) (journal_of rest) frame split stood stayed (noswap_journal s c later none)
