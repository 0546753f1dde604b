-- What a turn brings is legal.
use Rattle.std.proofs.Common.{◌≡◌, ◌<◌, ◌≤◌, ◌+◌, ℕ, suc, List, [], ◌∷◌, Bool, true, false, Option, Some, None, arith, refl, sym, ◌∙◌, inl, inr, subst}
use Rattle.std.specs.Prelude.{◌==◌, not, ◌&&◌, ◌⊎◌, if◌then◌else◌}
use Rattle.std.proofs.lemmas.Bool.{true≢false, cond-false}
use Rattle.std.proofs.lemmas.Bool.Decides.{nat_tests}
use Rattle.dri_base.specs.declared.journal.Event.{Event}
use Rattle.dri_base.specs.declared.journal.Event.TheVariants.{Kernel, Info, Gone, LeaveKernel, LeaveLight}
use Rattle.dri_core.specs.Phases.{Phase}
use Rattle.dri_core.specs.Phases as Phase_is
use Rattle.dri_base.specs.declared.command.Command.{Command}
use Rattle.dri_base.specs.declared.command.Command.TheVariants as Command_is
use Rattle.dri_base.specs.declared.scene.Scene.{Scene}
use Rattle.dri_base.proofs.RangeLemmas.{IsWellFormed}
use Rattle.dri_base.specs.Scenes.{command_at, regions_needed}
use Rattle.dri_model.specs.Groups.{is_empty}
use Rattle.dri_model.specs.Heaps as Heaps
use Rattle.dri_model.specs.Heaps.{Heap, lowest_place, classes_for, is_place_for}
use Rattle.dri_model.proofs.Rooms.{place_found}
use Rattle.dri_core.proofs.Sound.{Sound, sound_opened}
use Rattle.dri_core.proofs.Cores.{Tied, legal_of, tied_step, tied_start, invariant_on}
use Rattle.dri_core.specs.EntryTable.{is_start_for}
use Rattle.dri_core.specs.Privates.{Private, is_triangle, is_ready, room_in, textured_with}
use Rattle.dri_core.specs.Phases.{is_holding, is_done}
use Rattle.dri_core.specs.Cores.{Core, opening_core, entry_of, IsNext, IsFirst, is_next, is_queued, can_take, Wants}
use Rattle.dri_core.specs.CoreRuns.{after_events, LegalEvents, IsRun}
use Rattle.dri_core.specs.EventTable.{LegalEvent, after_event}
use Rattle.dri_core.specs.Phases.{wants_in}
use Rattle.dri_core.specs.Turns.{start_for, turn_of, phase_turn, acting_turn, triangle_turn, emit_turn, or_waiting, waiting}
use Rattle.dri_core.specs.Cores.{is_first}
use Rattle.dri_core.proofs.Queues.{Queued, queued_step}

-- and the other way round: what a turn brings is possible
pub is_next_of : (a : ℕ) (q : List ℕ) → is_next a q ≡ true → IsNext a q
is_next_of a [] e = tt
is_next_of a (b ∷ bs) e = grind (arith, nat_tests)

pub is_first_of : (a : ℕ) (q : List ℕ) → is_first a q ≡ true → IsFirst a q
is_first_of a [] e = absurd (true≢false (sym e))
is_first_of a (b ∷ bs) e = grind (arith, nat_tests)

pub some_is : {a b : Event} → Some a ≡ Some b → a ≡ b
some_is e = cc

pub none_is : {a : Event} → None ≡ Some a → ⊥
none_is e = grind arith

pub wait_is_legal : (s : Scene) (k : Core) (a : ℕ) (e : Event) → Wants s k a → can_take k a ≡ false → waiting k a ≡ Some e → LegalEvent s k e
wait_is_legal s k a e wants stays h = by_queued (is_queued a k.queue) refl (is_first a k.queue) refl k.word.held refl k.word.contended refl
  where
    by_queued : (b : Bool) → is_queued a k.queue ≡ b → (f : Bool) → is_first a k.queue ≡ f → (held : Bool) → k.word.held ≡ held → (m : Bool) → k.word.contended ≡ m → LegalEvent s k e
    by_queued false q f ef held eh m em = subst (LegalEvent s k) (some_is (rw q at h)) (wants, q, stays)
    by_queued true q true ef true eh false em = subst (LegalEvent s k) (some_is (rw (q, ef, eh, em) at h)) (is_first_of a k.queue ef, eh, em)
    by_queued true q true ef true eh true em = absurd (none_is (rw (q, ef, eh, em) at h))
    by_queued true q true ef false eh m em = absurd (none_is (rw (q, ef, eh) at h))
    by_queued true q false ef held eh m em = absurd (none_is (rw (q, ef) at h))

pub or_is_legal : (s : Scene) (k : Core) (a : ℕ) (go e : Event) → (k.word.held ≡ false → IsNext a k.queue → LegalEvent s k go) → Wants s k a → (is_next a k.queue ≡ false → k.word.held ≡ false → can_take k a ≡ false) → or_waiting k a go ≡ Some e → LegalEvent s k e
or_is_legal s k a go e can wants stays h = by_word k.word.held refl (is_next a k.queue) refl
  where
    skipped : (not k.word.held && is_next a k.queue) ≡ false → waiting k a ≡ Some e
    skipped no_go = sym (cond-false (not k.word.held && is_next a k.queue) (Some go) (waiting k a) no_go) ∙ h

    by_word : (held : Bool) → k.word.held ≡ held → (n : Bool) → is_next a k.queue ≡ n → LegalEvent s k e
    by_word false eh true en = subst (LegalEvent s k) (some_is (rw (eh, en) at h)) (can eh (is_next_of a k.queue en))
    by_word false eh false en = wait_is_legal s k a e wants (stays en eh) (skipped (rw (eh, en) refl))
    by_word true eh n en = wait_is_legal s k a e wants (rw eh refl) (skipped (rw eh refl))

-- where there is room, or by the heap's rule, a place is found
pub start_found : (room : Option Heaps.Spot) (n : ℕ) (h : Heap) (count : ℕ) → 0 < n → count ≤ n → is_start_for room n h count (start_for room n h count) ≡ true
start_found None n h count l le = place_found n h count l le
start_found (Some room) n h count l le = grind (arith, nat_tests)

pub acting_is_legal : (s : Scene) (k : Core) (c : ℕ) (e : Event) → IsWellFormed s → (k.world.client c).phase ≡ Phase_is.In → (command : Option Command) → command_at s c (k.world.client c).place ≡ command → acting_turn s k.world c command ≡ Some e → LegalEvent s k e
acting_is_legal s k c e good phase (Some Command_is.Die) is h = subst (LegalEvent s k) (some_is h) (inl (rw phase refl, inr (phase, is)))
acting_is_legal s k c e good phase (Some (Command_is.Triangle t)) is h = by_texture (textured_with (k.world.client c).state) refl h
  where
    p : Private
    p = k.world.client c

    at : ((k.world.client c).phase ≡ Phase_is.In) × (is_triangle (command_at s c (k.world.client c).place) ≡ true)
    at = (phase, rw is refl)

    by_dirt : (b : Bool) → is_empty p.dirty ≡ b → is_ready p ≡ true → emit_turn p c ≡ Some e → LegalEvent s k e
    by_dirt true d ready g = subst (LegalEvent s k) (some_is (rw d at g)) (phase, refl, rw is (rw (d, ready) refl))
    by_dirt false d ready g = subst (LegalEvent s k) (some_is (rw d at g)) (at, ready, refl, d)

    by_place : (u : ℕ) → textured_with p.state ≡ Some u → (o : Option Heaps.Spot) → p.placed u ≡ o → triangle_turn s k.world c (Some u) ≡ Some e → LegalEvent s k e
    by_place u st None pl g = subst (LegalEvent s k) (some_is (rw pl at g)) (at, st, pl, refl, start_found (room_in s c p u) s.regions k.world.heap (regions_needed s c u) good.roomy (good.heap c u))
    by_place u st (Some r) pl g = by_dirt (is_empty p.dirty) refl (rw (st, pl) refl) (rw pl at g)

    by_texture : (o : Option ℕ) → textured_with p.state ≡ o → triangle_turn s k.world c o ≡ Some e → LegalEvent s k e
    by_texture None st g = by_dirt (is_empty p.dirty) refl (rw st refl) g
    by_texture (Some u) st g = by_place u st (p.placed u) refl g
acting_is_legal s k c e good phase (Some (Command_is.Set setting)) is h = subst (LegalEvent s k) (some_is h) (phase, refl, rw is refl)
acting_is_legal s k c e good phase (Some (Command_is.Clear colour depth)) is h = subst (LegalEvent s k) (some_is h) (phase, refl, rw is refl)
acting_is_legal s k c e good phase (Some Command_is.Swap) is h = subst (LegalEvent s k) (some_is h) (phase, refl, rw is refl)
acting_is_legal s k c e good phase (Some Command_is.Yield) is h = subst (LegalEvent s k) (some_is h) (phase, refl, rw is refl)
acting_is_legal s k c e good phase None is h = absurd (none_is h)

leave_is_legal : (s : Scene) (k : Core) (c : ℕ) (e : Event) → ((k.world.client c).phase ≡ Phase_is.Over) ⊎ ((k.world.client c).phase ≡ Phase_is.Ask) →
    (if k.word.contended then Some (LeaveKernel c) else Some (LeaveLight c)) ≡ Some e → LegalEvent s k e
leave_is_legal s k c e phase h = by_mark k.word.contended refl
  where
    by_mark : (b : Bool) → k.word.contended ≡ b → LegalEvent s k e
    by_mark true m = subst (LegalEvent s k) (some_is (rw m at h)) (phase, m)
    by_mark false m = subst (LegalEvent s k) (some_is (rw m at h)) (phase, m)

pub phase_turn_is_legal : (s : Scene) (k : Core) (c : ℕ) (e : Event) → IsWellFormed s → k.dying (suc c) ≡ false → (p : Phase) → (k.world.client (suc c)).phase ≡ p → phase_turn s k (suc c) p ≡ Some e → LegalEvent s k e
phase_turn_is_legal s k c e good live Phase_is.Out phase h = by_name (not k.word.held && (k.word.context == suc c + 1)) refl
  where
    by_name : (b : Bool) → (not k.word.held && (k.word.context == suc c + 1)) ≡ b → LegalEvent s k e
    by_name true n = subst (LegalEvent s k) (some_is (rw n at h)) (live, phase, grind (arith, nat_tests), grind (arith, nat_tests))
    by_name false n = or_is_legal s k (suc c) (Kernel (suc c) k.word.context) e
        (λ free next. (live, phase, free, refl, grind (arith, nat_tests), next)) (inr (rw phase refl)) (λ en eh. rw (eh, en, live, phase) (grind (arith, nat_tests))) (rw n at h)
phase_turn_is_legal s k c e good live Phase_is.Old phase h = subst (LegalEvent s k) (some_is h) phase
phase_turn_is_legal s k c e good live Phase_is.In phase h = acting_is_legal s k (suc c) e good phase (command_at s (suc c) (k.world.client (suc c)).place) refl h
phase_turn_is_legal s k c e good live Phase_is.Over phase h = leave_is_legal s k (suc c) e (inl phase) h
phase_turn_is_legal s k c e good live Phase_is.Ask phase h = leave_is_legal s k (suc c) e (inr phase) h
phase_turn_is_legal s k c e good live Phase_is.Asking phase h =
    or_is_legal s k (suc c) (Info (suc c)) e (λ free next. (live, phase, free, next)) (inr (rw phase refl)) (λ en eh. rw (eh, en, live, phase) refl) h
phase_turn_is_legal s k c e good live Phase_is.Ended phase h = absurd (none_is h)
phase_turn_is_legal s k c e good live Phase_is.Dead phase h = absurd (none_is h)

-- what a turn brings is possible
pub turn_is_legal : (s : Scene) (k : Core) (c : ℕ) (e : Event) → IsWellFormed s → turn_of s k (suc c) ≡ Some e → LegalEvent s k e
turn_is_legal s k c e good h = by_stop (k.dying (suc c)) refl
  where
    by_stop : (b : Bool) → k.dying (suc c) ≡ b → LegalEvent s k e
    by_stop true st = or_is_legal s k (suc c) (Gone (suc c)) e (λ free next. inr (st, free, next)) (inl st) (λ en eh. rw (eh, en, st) refl) (rw st at h)
    by_stop false st = phase_turn_is_legal s k c e good st (k.world.client (suc c)).phase refl (rw st at h)

-- all that is known of a core along its runs
pub record Known (s : Scene) (k : Core) : Type 0 where
  pub sound : Sound s k.world
  pub tied : Tied s k
  pub queued : Queued s k

pub known_start : (s : Scene) → IsWellFormed s → Known s (opening_core s)
known_start s good = record {
  sound = sound_opened s good;
  tied = tied_start s;
  queued = record { server = λ h. absurd (true≢false (sym h)); wants = λ c l h. absurd (true≢false (sym h)); named = λ c a b d e. refl; alive = λ c st. absurd (true≢false (sym st)); nobody = rw good.numbered refl };
}

pub known_step : (s : Scene) (k : Core) (e : Event) → IsWellFormed s → Known s k → LegalEvent s k e → Known s (after_event s k e)
known_step s k e good known possible = record {
  sound = invariant_on s k.world (entry_of e) good known.sound (legal_of s k e known.sound known.tied possible);
  tied = tied_step s k e known.sound known.tied possible;
  queued = queued_step s k e (λ d st. (known.tied.dying d st).1) (λ d h. (known.tied.held d (known.sound.main.holding d h)).0) known.queued possible;
}

pub known_along : (s : Scene) (k : Core) (es : List Event) → IsWellFormed s → Known s k → LegalEvents s k es → Known s (after_events s k es)
known_along s k [] good known all = known
known_along s k (e ∷ es) good known all = known_along s (after_event s k e) es good (known_step s k e good known all.0) all.1

pub known_after : (s : Scene) (events : List Event) → IsWellFormed s → IsRun s events → Known s (after_events s (opening_core s) events)
known_after s events good run = known_along s (opening_core s) events good (known_start s good) run
