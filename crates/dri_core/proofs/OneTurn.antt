-- Turns and legal events, and what a mark shuts out.
use Rattle.std.proofs.Common.{◌≡◌, ◌+◌, length, ℕ, zero, suc, List, [], ◌∷◌, ◌++◌, Bool, true, false, Some, arith, refl, sym, ap, ◌∙◌, inl, inr, subst}
use Rattle.std.specs.Prelude.{◌⊎◌, not, ◌&&◌, ◌||◌, nat_lt}
use Rattle.std.proofs.lemmas.Bool.{true≢false}
use Rattle.std.proofs.lemmas.Bool.Decides.{nat_tests}
use Rattle.dri_base.specs.declared.journal.Event.{Event}
use Rattle.dri_base.specs.declared.journal.Event.TheVariants.{Light, Kernel, Queue, Mark, Stale, Emit, Place, Run, LeaveLight, LeaveKernel, Info, Change, Stop, Gone}
use Rattle.dri_core.specs.Phases.{Phase}
use Rattle.dri_core.specs.Phases as Phase_is
use Rattle.dri_base.specs.declared.scene.Scene.{Scene}
use Rattle.dri_base.proofs.RangeLemmas.{IsWellFormed}
use Rattle.dri_core.specs.Phases.{is_holding, is_done}
use Rattle.dri_core.specs.Cores.{Core, opening_core}
use Rattle.dri_core.specs.CoreRuns.{after_events, LegalEvents, IsRun}
use Rattle.dri_core.specs.EventTable.{LegalEvent, after_event}
use Rattle.dri_core.specs.Phases.{wants_in}
use Rattle.dri_core.specs.Turns.{turn, turn_of, server_turn}
use Rattle.dri_core.specs.TurnLaws.{DiesByTurn, OneEvent, TurnsAreLegal, is_take, NoTake, NoLightAfterMark}
use Rattle.dri_core.proofs.Queues.{Queued}
use Rattle.dri_core.proofs.EventTurns.{light_turn, kernel_turn, stale_turn, in_turn, emit_is_turn, place_is_turn, run_turn, leave_light_turn, info_turn, queue_turn, first_queued, first_is, mark_turn, leave_kernel_turn, change_turn, dying_turn}
use Rattle.dri_core.proofs.TurnEvents.{none_is, or_is_legal, turn_is_legal, Known, known_start, known_step, known_along}

-- a client's event, since no client has number 0
pub as_turn : (s : Scene) (k : Core) (c : ℕ) (e : Event) → (c ≡ 0 → ⊥) → turn_of s k c ≡ Some e → turn s k c ≡ Some e
as_turn s k zero e ne h = absurd (ne refl)
as_turn s k (suc c) e ne h = h

-- client 0 is in no phase but Ended
pub not_nobody : (s : Scene) (k : Core) (c : ℕ) (p : Phase) → Queued s k → (k.world.client c).phase ≡ p → (Phase_is.Ended ≡ p → ⊥) → c ≡ 0 → ⊥
not_nobody s k c p q is ne e = ne (sym q.nobody ∙ rw e at is)

pub queue_server : (s : Scene) (k : Core) → Queued s k → LegalEvent s k (Queue 0) → server_turn s k ≡ Some (Queue 0)
queue_server s k q possible = grind (arith, nat_tests, q.nobody)

pub mark_server : (s : Scene) (k : Core) → Queued s k → LegalEvent s k (Mark 0) → server_turn s k ≡ Some (Mark 0)
mark_server s k q possible = grind (arith, nat_tests, q.server (first_queued 0 k.queue possible.0), first_queued 0 k.queue possible.0, first_is 0 k.queue possible.0)

pub leaving : (s : Scene) (k : Core) (c : ℕ) → Queued s k → ((k.world.client c).phase ≡ Phase_is.Over) ⊎ ((k.world.client c).phase ≡ Phase_is.Ask) → c ≡ 0 → ⊥
leaving s k c q (inl p) = not_nobody s k c Phase_is.Over q p (λ x. grind arith)
leaving s k c q (inr p) = not_nobody s k c Phase_is.Ask q p (λ x. grind arith)

pub gone_turn : (s : Scene) (k : Core) (c : ℕ) → Known s k → LegalEvent s k (Gone c) → DiesByTurn s k c → turn_of s k c ≡ Some (Gone c)
gone_turn s k c known (inr dying) dies = dying_turn s k c dying.0 dying.1 dying.2
gone_turn s k c known (inl held) (inl dying) = absurd (true≢false (sym held.0 ∙ known.queued.alive c dying))
gone_turn s k c known (inl held) (inr dies) = in_turn s k c known.queued dies.0 ∙ rw dies.1 refl

pub gone_client : (s : Scene) (k : Core) (c : ℕ) → Known s k → DiesByTurn s k c → c ≡ 0 → ⊥
gone_client s k c known (inl dying) e = true≢false (sym (ap is_done known.queued.nobody) ∙ subst (λ n. is_done (k.world.client n).phase ≡ false) e (known.tied.dying c dying).1)
gone_client s k c known (inr dies) e = not_nobody s k c Phase_is.In known.queued dies.0 (λ x. grind arith) e

pub one_event : (s : Scene) (k : Core) → IsWellFormed s → Known s k → OneEvent s k
one_event s k good known (Light c) possible by = as_turn s k c (Light c) (not_nobody s k c Phase_is.Out known.queued possible.1 (λ x. grind arith)) (light_turn s k c possible)
one_event s k good known (Kernel c found) possible by = as_turn s k c (Kernel c found) (not_nobody s k c Phase_is.Out known.queued possible.1 (λ x. grind arith)) (kernel_turn s k c found possible)
one_event s k good known (Queue zero) possible by = queue_server s k known.queued possible
one_event s k good known (Queue (suc c)) possible by = queue_turn s k c known.queued possible
one_event s k good known (Mark zero) possible by = mark_server s k known.queued possible
one_event s k good known (Mark (suc c)) possible by = mark_turn s k c known.queued possible
one_event s k good known (Stale c) possible by = as_turn s k c (Stale c) (not_nobody s k c Phase_is.Old known.queued possible (λ x. grind arith)) (stale_turn s k c known.queued possible)
one_event s k good known (Emit c groups) possible by = as_turn s k c (Emit c groups) (not_nobody s k c Phase_is.In known.queued possible.0.0 (λ x. grind arith)) (emit_is_turn s k c groups known.queued possible)
one_event s k good known (Place c t first count) possible by = as_turn s k c (Place c t first count) (not_nobody s k c Phase_is.In known.queued possible.0.0 (λ x. grind arith)) (place_is_turn s k c t first count known.queued possible)
one_event s k good known (Run c i) possible by = as_turn s k c (Run c i) (not_nobody s k c Phase_is.In known.queued possible.0 (λ x. grind arith)) (run_turn s k c i known.queued possible)
one_event s k good known (LeaveLight c) possible by = as_turn s k c (LeaveLight c) (leaving s k c known.queued possible.0) (leave_light_turn s k c known.queued possible)
one_event s k good known (LeaveKernel c) possible by = as_turn s k c (LeaveKernel c) (leaving s k c known.queued possible.0) (leave_kernel_turn s k c known.queued possible)
one_event s k good known (Info c) possible by = as_turn s k c (Info c) (not_nobody s k c Phase_is.Asking known.queued possible.1 (λ x. grind arith)) (info_turn s k c known.queued possible)
one_event s k good known (Change i) possible by = change_turn s k i possible
one_event s k good known (Stop c) possible by = absurd by
one_event s k good known (Gone c) possible by = as_turn s k c (Gone c) (gone_client s k c known by) (gone_turn s k c known possible by)

-- what the server's turn brings is possible
pub server_is_legal : (s : Scene) (k : Core) (e : Event) → Queued s k → server_turn s k ≡ Some e → LegalEvent s k e
server_is_legal s k e q h = by_left (nat_lt k.world.made (length s.changes)) refl
  where
    by_left : (b : Bool) → nat_lt k.world.made (length s.changes) ≡ b → LegalEvent s k e
    by_left false l = absurd (none_is (rw l at h))
    by_left true l = or_is_legal s k 0 (Change (k.world.made + 1)) e (λ free next. (free, refl, grind (arith, nat_tests), next)) (grind (arith, nat_tests)) (λ en eh. rw (eh, en, q.nobody) (by_stop (k.dying 0))) (rw l at h)
      where
        by_stop : (b : Bool) → (true && (false || (not b && false))) ≡ false
        by_stop true = refl
        by_stop false = refl

pub turns_are_legal : (s : Scene) (k : Core) → IsWellFormed s → Known s k → TurnsAreLegal s k
turns_are_legal s k good known zero e h = server_is_legal s k e known.queued h
turns_are_legal s k good known (suc c) e h = turn_is_legal s k c e good h

-- a marked word: once it is free nobody's context is in it
pub record Marked (k : Core) : Type 0 where
  pub held : k.word.held ≡ true → k.word.contended ≡ true
  pub free : k.word.held ≡ false → k.word.context ≡ 0

taken : {held : Bool} → (held ≡ true) ⊎ (true ≡ false) → held ≡ false → ⊥
taken (inl h) f = true≢false (sym h ∙ f)
taken (inr n) f = true≢false n

pub marked_step : (s : Scene) (k : Core) (e : Event) → Known s k → Marked k → LegalEvent s k e → (k.word.held ≡ true) ⊎ (is_take e ≡ false) → Marked (after_event s k e)
marked_step s k (Light c) known m possible by = absurd (taken by possible.2)
marked_step s k (Kernel c found) known m possible by = absurd (taken by possible.2)
marked_step s k (Info c) known m possible by = absurd (taken by possible.2)
marked_step s k (Change i) known m possible by = absurd (taken by possible.0)
marked_step s k (Queue a) known m possible by = record { held = m.held; free = m.free }
marked_step s k (Mark a) known m possible by = record { held = λ h. refl; free = m.free }
marked_step s k (Stale c) known m possible by = record { held = m.held; free = m.free }
marked_step s k (Emit c groups) known m possible by = record { held = m.held; free = m.free }
marked_step s k (Place c t first count) known m possible by = record { held = m.held; free = m.free }
marked_step s k (Run c i) known m possible by = record { held = m.held; free = m.free }
marked_step s k (LeaveLight c) known m possible by = absurd (true≢false (sym (m.held (holding possible.0)) ∙ possible.1))
  where
    holding : ((k.world.client c).phase ≡ Phase_is.Over) ⊎ ((k.world.client c).phase ≡ Phase_is.Ask) → k.word.held ≡ true
    holding (inl p) = (known.tied.held c (known.sound.main.holding c (rw p refl))).0
    holding (inr p) = (known.tied.held c (known.sound.main.holding c (rw p refl))).0
marked_step s k (LeaveKernel c) known m possible by = record { held = λ h. absurd (true≢false (sym h)); free = λ f. refl }
marked_step s k (Stop c) known m possible by = record { held = m.held; free = m.free }
marked_step s k (Gone c) known m possible by = record { held = λ h. absurd (true≢false (sym h)); free = λ f. refl }

pub marked_along : (s : Scene) (k : Core) (es : List Event) → IsWellFormed s → Known s k → Marked k → LegalEvents s k es → NoTake s k es → Marked (after_events s k es)
marked_along s k [] good known m all none = m
marked_along s k (e ∷ es) good known m all none = marked_along s (after_event s k e) es good (known_step s k e good known all.0) (marked_step s k e known m all.0 none.0) all.1 none.1

pub LegalEvents-append : (s : Scene) (k : Core) (past rest : List Event) → LegalEvents s k (past ++ rest) → LegalEvents s k past × LegalEvents s (after_events s k past) rest
LegalEvents-append s k [] rest all = (tt, all)
LegalEvents-append s k (e ∷ past) rest all = let h = LegalEvents-append s (after_event s k e) past rest all.1 in ((all.0, h.0), h.1)

pub no_light_after_mark : (s : Scene) (events : List Event) → IsWellFormed s → IsRun s events → NoLightAfterMark s events
no_light_after_mark s events good run past more a c e none light = no_context (m.free light.2) light.3
  where
    parts : LegalEvents s (opening_core s) past × LegalEvents s (after_events s (opening_core s) past) (Mark a ∷ more)
    parts = LegalEvents-append s (opening_core s) past (Mark a ∷ more) (rw e at run)

    k : Core
    k = after_events s (opening_core s) past

    known : Known s k
    known = known_along s (opening_core s) past good (known_start s good) parts.0

    m : Marked (after_events s (after_event s k (Mark a)) more)
    m = marked_along s (after_event s k (Mark a)) more good (known_step s k (Mark a) good known parts.1.0) (record { held = λ h. refl; free = λ f. absurd (true≢false (sym parts.1.0.1 ∙ f)) }) parts.1.1 none

    no_context : {w : ℕ} → w ≡ 0 → w ≡ c + 1 → ⊥
    no_context a b = omega arith
