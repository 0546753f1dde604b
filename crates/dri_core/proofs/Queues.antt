-- What the queue keeps.
use Rattle.std.proofs.Common.{◌≡◌, ◌≢◌, ◌<◌, ◌≤◌, ◌+◌, length, ℕ, zero, suc, List, [], ◌∷◌, ◌++◌, true, false, arith, refl, sym, ◌∙◌, inl, inr, subst}
use Rattle.std.specs.Prelude.{◌⊎◌}
use Rattle.std.proofs.lemmas.Bool.{true≢false, false_from_ne_true}
use Rattle.std.proofs.lemmas.Bool.Decides.{nat_tests}
use Rattle.dri_base.specs.declared.journal.Event.{Event}
use Rattle.dri_base.specs.declared.journal.Event.TheVariants.{Light, Kernel, Queue, Mark, Stale, Emit, Place, Run, LeaveLight, LeaveKernel, Info, Change, Stop, Gone}
use Rattle.dri_core.specs.Phases.{Phase}
use Rattle.dri_core.specs.Phases as Phase_is
use Rattle.dri_base.specs.declared.scene.Scene.{Scene}
use Rattle.dri_core.proofs.Parts.{put_keeps}
use Rattle.dri_core.specs.Phases.{is_holding, is_done}
use Rattle.dri_core.specs.Effects.{run_by}
use Rattle.dri_core.specs.Cores.{Core, IsNext, is_next, is_queued, Wants}
use Rattle.dri_core.specs.EventTable.{LegalEvent, leaves, after_event}
use Rattle.dri_core.specs.Phases.{wants_in}

pub next_is : (a : ℕ) (q : List ℕ) → IsNext a q → is_next a q ≡ true
next_is a [] n = refl
next_is a (b ∷ bs) n = grind (arith, nat_tests)

-- what a queue keeps: who is in it wants a hold, and who is out in it isn't named by the word
pub record Queued (s : Scene) (k : Core) : Type 0 where
  pub server : is_queued 0 k.queue ≡ true → suc k.world.made ≤ length s.changes
  pub wants : (c : ℕ) → 0 < c → is_queued c k.queue ≡ true → (k.dying c ≡ true) ⊎ (wants_in (k.world.client c).phase ≡ true)
  pub named : (c : ℕ) → k.dying c ≡ false → (k.world.client c).phase ≡ Phase_is.Out → k.word.held ≡ false → k.word.context ≡ c + 1 → is_queued c k.queue ≡ false
  pub alive : (c : ℕ) → k.dying c ≡ true → is_holding (k.world.client c).phase ≡ false
  pub nobody : (k.world.client 0).phase ≡ Phase_is.Ended

pub left_queued : (c a : ℕ) (q : List ℕ) → is_queued c (leaves a q) ≡ true → (is_queued c q ≡ true) × (c ≢ a)
left_queued c a [] e = absurd (true≢false (sym e))
left_queued c a (b ∷ bs) e = grind (arith, nat_tests, left_queued c a bs)

pub joined_queued : (c a : ℕ) (q : List ℕ) → is_queued c (q ++ a ∷ []) ≡ true → (is_queued c q ≡ true) ⊎ (a ≡ c)
joined_queued c a [] e = grind (arith, nat_tests)
joined_queued c a (b ∷ bs) e = grind (arith, nat_tests, joined_queued c a bs)

pub not_left : (c a : ℕ) (q : List ℕ) → is_queued c q ≡ false → is_queued c (leaves a q) ≡ false
not_left c a [] e = refl
not_left c a (b ∷ bs) e = grind (arith, nat_tests, not_left c a bs)

-- each event keeps it
pub queued_step : (s : Scene) (k : Core) (e : Event) → ((d : ℕ) → k.dying d ≡ true → is_done (k.world.client d).phase ≡ false) → ((d : ℕ) → is_holding (k.world.client d).phase ≡ true → k.word.held ≡ true) → Queued s k → LegalEvent s k e → Queued s (after_event s k e)
queued_step s k (Light c) live holds q possible = record { server = q.server; wants = grind (arith, nat_tests, q.named c); named = grind arith; alive = grind (arith, nat_tests, q.alive); nobody = grind (arith, nat_tests) }
queued_step s k (Kernel c found) live holds q possible = record { server = λ h. q.server (left_queued 0 c k.queue h).0; wants = λ d l h. grind (arith, nat_tests, left_queued d c k.queue h, q.wants d); named = grind arith; alive = grind (arith, nat_tests, q.alive); nobody = grind (arith, nat_tests) }
queued_step s k (Queue a) live holds q possible = record { server = λ h. served (joined_queued 0 a k.queue h); wants = λ d l h. joined_wants d l (joined_queued d a k.queue h); named = λ d r o h e. false_from_ne_true _ (λ i. joined_named d r o h e (joined_queued d a k.queue i)); alive = q.alive; nobody = q.nobody }
  where
    served : (is_queued 0 k.queue ≡ true) ⊎ (a ≡ 0) → suc k.world.made ≤ length s.changes
    served (inl i) = q.server i
    served (inr e) = subst (λ b. Wants s k b) e possible.0

    asks : (d : ℕ) → 0 < d → a ≡ d → (k.dying d ≡ true) ⊎ (wants_in (k.world.client d).phase ≡ true)
    asks zero l e = absurd (omega arith)
    asks (suc d) l e = subst (λ b. Wants s k b) e possible.0

    joined_wants : (d : ℕ) → 0 < d → (is_queued d k.queue ≡ true) ⊎ (a ≡ d) → (k.dying d ≡ true) ⊎ (wants_in (k.world.client d).phase ≡ true)
    joined_wants d l (inl i) = q.wants d l i
    joined_wants d l (inr e) = asks d l e

    joined_named : (d : ℕ) → k.dying d ≡ false → (k.world.client d).phase ≡ Phase_is.Out → k.word.held ≡ false → k.word.context ≡ d + 1 → (is_queued d k.queue ≡ true) ⊎ (a ≡ d) → ⊥
    joined_named d r o h e (inl i) = true≢false (sym i ∙ q.named d r o h e)
    joined_named d r o h e (inr same) = grind (arith, nat_tests, possible.2)
queued_step s k (Mark a) live holds q possible = record { server = q.server; wants = q.wants; named = q.named; alive = q.alive; nobody = q.nobody }
queued_step s k (Stale c) live holds q possible = record { server = q.server; wants = λ d l h. grind (arith, nat_tests, q.wants d l h, q.alive d); named = λ d. grind (arith, nat_tests, q.named d); alive = λ d. grind (arith, nat_tests, q.alive d); nobody = grind (arith, nat_tests) }
queued_step s k (Emit c groups) live holds q possible = record { server = q.server; wants = λ d l h. grind (arith, nat_tests, q.wants d l h, q.alive d); named = λ d. grind (arith, nat_tests, q.named d); alive = λ d. grind (arith, nat_tests, q.alive d); nobody = grind (arith, nat_tests) }
queued_step s k (Place c t first count) live holds q possible = record { server = q.server; wants = λ d l h. grind (arith, nat_tests, q.wants d l h, q.alive d); named = λ d. grind (arith, nat_tests, q.named d); alive = λ d. grind (arith, nat_tests, q.alive d); nobody = grind (arith, nat_tests) }
queued_step s k (Run c i) live holds q possible = record {
  server = q.server;
  wants = λ d. put_keeps (λ e p. 0 < e → is_queued e k.queue ≡ true → (k.dying e ≡ true) ⊎ (wants_in p.phase ≡ true)) k.world.client c (run_by s k.world c i) d (λ l h. absurd (not_in (q.wants c l h))) (q.wants d);
  named = λ d st o free. absurd (not_held free);
  alive = λ d. put_keeps (λ e p. k.dying e ≡ true → is_holding p.phase ≡ false) k.world.client c (run_by s k.world c i) d (λ st. absurd (stops st)) (q.alive d);
  nobody = put_keeps (λ e p. e ≡ 0 → p.phase ≡ Phase_is.Ended) k.world.client c (run_by s k.world c i) 0 (λ e. absurd (not_zero e)) (λ e. q.nobody) refl;
}
  where
    stops : k.dying c ≡ true → ⊥
    stops st = true≢false (rw possible.0 at (q.alive c st))

    not_in : (k.dying c ≡ true) ⊎ (wants_in (k.world.client c).phase ≡ true) → ⊥
    not_in (inl st) = stops st
    not_in (inr w) = true≢false (sym (rw possible.0 at w))

    not_zero : c ≡ 0 → ⊥
    not_zero e = grind (arith, q.nobody, possible.0)

    not_held : k.word.held ≡ false → ⊥
    not_held free = held_one (holds c (rw possible.0 refl))
      where
        held_one : k.word.held ≡ true → ⊥
        held_one h = true≢false (sym h ∙ free)
queued_step s k (LeaveLight c) live holds q possible = record { server = q.server; wants = λ d l h. grind (arith, nat_tests, q.wants d l h, q.alive d); named = λ d. grind (arith, nat_tests, q.wants d, q.alive d); alive = λ d. grind (arith, nat_tests, q.alive d); nobody = grind (arith, nat_tests) }
queued_step s k (LeaveKernel c) live holds q possible = record { server = q.server; wants = λ d l h. grind (arith, nat_tests, q.wants d l h, q.alive d); named = λ d. grind arith; alive = λ d. grind (arith, nat_tests, q.alive d); nobody = grind (arith, nat_tests) }
queued_step s k (Info c) live holds q possible = record { server = λ h. q.server (left_queued 0 c k.queue h).0; wants = λ d l h. grind (arith, nat_tests, left_queued d c k.queue h, q.wants d); named = λ d. grind (arith, nat_tests); alive = λ d. grind (arith, nat_tests, q.alive d); nobody = grind (arith, nat_tests) }
queued_step s k (Change i) live holds q possible = record { server = λ h. absurd ((left_queued 0 0 k.queue h).1 refl); wants = λ d l h. grind (arith, left_queued d 0 k.queue h, q.wants d l); named = λ d r o h e. absurd (zero_out d o (omega arith)); alive = q.alive; nobody = q.nobody }
  where
    zero_out : (d : ℕ) → (k.world.client d).phase ≡ Phase_is.Out → d ≡ 0 → ⊥
    zero_out d o e = grind (arith, q.nobody)
queued_step s k (Stop c) live holds q possible = record { server = λ h. q.server (left_queued 0 c k.queue h).0; wants = λ d l h. grind (arith, nat_tests, left_queued d c k.queue h, q.wants d l); named = λ d. grind (arith, nat_tests, q.named d, not_left d c k.queue); alive = λ d. grind (arith, nat_tests, q.alive d); nobody = q.nobody }
queued_step s k (Gone c) live holds q possible = record { server = λ h. q.server (left_queued 0 c k.queue h).0; wants = λ d l h. grind (arith, nat_tests, left_queued d c k.queue h, q.wants d l); named = λ d r o h e. absurd (omega arith); alive = λ d. grind (arith, nat_tests, q.alive d); nobody = grind (arith, nat_tests, live c, q.nobody) }
