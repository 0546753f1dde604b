-- Each event but a stop leaves less to do.
use Rattle.std.proofs.Common.{◌≡◌, ◌<◌, ◌≤◌, ◌+◌, ◌*◌, ◌-◌, ℕ, zero, suc, [], ◌∷◌, ◌++◌, length, Bool, true, false, arith, refl, ap, ◌∙◌, inl, inr}
use Rattle.std.specs.Prelude.{◌==◌, ◌⊎◌, not, ◌&&◌, ◌||◌, nat_lt, pred}
use Rattle.std.proofs.lemmas.Bool.{cases_eq}
use Rattle.std.proofs.lemmas.Bool.Decides.{nat_tests}
use Rattle.std.proofs.lemmas.List.{length-map}
use Rattle.dri_base.specs.declared.journal.Event.{Event}
use Rattle.dri_base.specs.declared.journal.Event.TheVariants.{Light, Kernel, Queue, Mark, Stale, Emit, Place, Run, LeaveLight, LeaveKernel, Info, Change, Stop, Gone}
use Rattle.dri_base.specs.declared.scene.Scene.{Scene}
use Rattle.dri_core.specs.Cores.{Core, is_queued}
use Rattle.dri_core.specs.Effects.{run_by, placed_by, taken_in, told, after_leave, is_last}
use Rattle.dri_core.specs.Privates.{is_ready}
use Rattle.dri_model.specs.Groups.{is_empty, no_groups}
use Rattle.dri_core.specs.EventTable.{LegalEvent, after_event}
use Rattle.dri_core.specs.Measures.{one_if, part_left, is_stale, has_to_wait, client_left, clients_left, server_left, work_left}
use Rattle.dri_core.specs.Phases.{Phase, Out, Old, In, Over, Ask, Asking, Dead, is_done, wants_in, phase_after}
use Rattle.dri_base.specs.Ranges.{client_numbers}
use Rattle.dri_base.specs.Scenes.{commands_of, window_of, command_at}
use Rattle.dri_core.specs.Worlds.{put}
use Rattle.dri_core.proofs.Aged.{Aged}
use Rattle.dri_core.proofs.Lively.{Lively}
use Rattle.dri_core.proofs.Cores.{holding_live, wanting_live}
use Rattle.dri_core.proofs.Endings.{has_command}
use Rattle.dri_core.proofs.Parts.{put_here, put_there}
use Rattle.dri_core.proofs.TurnEvents.{Known}
use Rattle.dri_core.proofs.WorkParts.{one_bound, sum_rises, sum_stays, sum_falls, listed, leaves_others, joins_others, joined, light_part, kernel_part, stale_part, ran_left, ran_part, leave_part, info_part, emit_part, place_part, queue_part, stamp_part, gone_part, same_left, one_less, enough, enough_here, enough_still}

module _ (s : Scene) (k : Core) (known : Known s k) (lively : Lively s k.world) (aged : Aged s k.world) where
  -- a client in a phase that isn't done is in the list
  pub there : (c : ℕ) (p : Phase) → (k.world.client c).phase ≡ p → is_done p ≡ false → is_queued c (client_numbers s.clients) ≡ true
  there c p is live = listed s.clients c (has_command s k.world c lively (ap is_done is ∙ live))

  pub light_less : (c : ℕ) → LegalEvent s k (Light c) → work_left s (after_event s k (Light c)) < work_left s k
  light_less c legal = enough_here s k (after_event s k (Light c)) refl refl (omega (arith, less))
    where
      here : put k.world.client c (record (k.world.client c) { phase = In }) c ≡ (record (k.world.client c) { phase = In })
      here = put_here k.world.client c (record (k.world.client c) { phase = In })

      less : clients_left s (after_event s k (Light c)) + 3 ≤ clients_left s k
      less = one_less s k (after_event s k (Light c)) c 3 (there c Out legal.1 refl)
          (λ d ne. same_left s k (after_event s k (Light c)) (length s.clients) d (put_there k.world.client c (record (k.world.client c) { phase = In }) d ne) refl refl refl)
          (rw here (light_part (length s.clients) _ (k.world.client c).phase _ _ _ _ _ legal.1))

  pub kernel_less : (c found : ℕ) → LegalEvent s k (Kernel c found) → work_left s (after_event s k (Kernel c found)) < work_left s k
  kernel_less c found legal = enough s k (after_event s k (Kernel c found)) refl less
    where
      here : put k.world.client c (taken_in s k.world c) c ≡ (taken_in s k.world c)
      here = put_here k.world.client c (taken_in s k.world c)

      less : clients_left s (after_event s k (Kernel c found)) + 3 ≤ clients_left s k
      less = one_less s k (after_event s k (Kernel c found)) c 3 (there c Out legal.1 refl)
          (λ d ne. same_left s k (after_event s k (Kernel c found)) (length s.clients) d (put_there k.world.client c (taken_in s k.world c) d ne) refl refl (leaves_others d c k.queue ne))
          (rw here (kernel_part (length s.clients) _ (k.world.client c).phase _ _ _ _ _ _ _ ((k.world.client c).stamp == k.world.stamps (window_of s c)) legal.1))

  pub stale_less : (c : ℕ) → LegalEvent s k (Stale c) → work_left s (after_event s k (Stale c)) < work_left s k
  stale_less c legal = enough_still s k (after_event s k (Stale c)) refl refl refl less
    where
      here : put k.world.client c (record (k.world.client c) { phase = Ask }) c ≡ (record (k.world.client c) { phase = Ask })
      here = put_here k.world.client c (record (k.world.client c) { phase = Ask })

      less : clients_left s (after_event s k (Stale c)) + 1 ≤ clients_left s k
      less = one_less s k (after_event s k (Stale c)) c 1 (there c Old legal refl)
          (λ d ne. same_left s k (after_event s k (Stale c)) (length s.clients) d (put_there k.world.client c (record (k.world.client c) { phase = Ask }) d ne) refl refl refl)
          (rw here (stale_part (length s.clients) _ (k.world.client c).phase _ _ _ _ _ legal))

  pub emit_less : (c groups : ℕ) → LegalEvent s k (Emit c groups) → work_left s (after_event s k (Emit c groups)) < work_left s k
  emit_less c groups legal = enough_still s k (after_event s k (Emit c groups)) refl refl refl less
    where
      here : put k.world.client c (record (k.world.client c) { dirty = no_groups }) c ≡ (record (k.world.client c) { dirty = no_groups })
      here = put_here k.world.client c (record (k.world.client c) { dirty = no_groups })

      less : clients_left s (after_event s k (Emit c groups)) + 1 ≤ clients_left s k
      less = one_less s k (after_event s k (Emit c groups)) c 1 (there c In legal.0.0 refl)
          (λ d ne. same_left s k (after_event s k (Emit c groups)) (length s.clients) d (put_there k.world.client c (record (k.world.client c) { dirty = no_groups }) d ne) refl refl refl)
          (rw here (emit_part (length s.clients) _ (k.world.client c).phase _ _ (is_empty (k.world.client c).dirty) _ legal.3))

  pub place_less : (c t first count : ℕ) → LegalEvent s k (Place c t first count) → work_left s (after_event s k (Place c t first count)) < work_left s k
  place_less c t first count legal = enough_still s k (after_event s k (Place c t first count)) refl refl refl less
    where
      here : put k.world.client c (placed_by s k.world c t first count) c ≡ (placed_by s k.world c t first count)
      here = put_here k.world.client c (placed_by s k.world c t first count)

      missing : is_ready (k.world.client c) ≡ false
      missing = rw (legal.1, legal.2) refl

      same : (t == t) ≡ true
      same = grind (arith, nat_tests)

      placed : is_ready (placed_by s k.world c t first count) ≡ true
      placed = rw legal.1 (rw same refl)

      less : clients_left s (after_event s k (Place c t first count)) + 1 ≤ clients_left s k
      less = one_less s k (after_event s k (Place c t first count)) c 1 (there c In legal.0.0 refl)
          (λ d ne. same_left s k (after_event s k (Place c t first count)) (length s.clients) d (put_there k.world.client c (placed_by s k.world c t first count) d ne) refl refl refl)
          (rw here (place_part (length s.clients) _ (k.world.client c).phase _ (is_ready (k.world.client c)) (is_ready (placed_by s k.world c t first count)) _ _ _ missing placed))

  pub run_less : (c i : ℕ) → LegalEvent s k (Run c i) → work_left s (after_event s k (Run c i)) < work_left s k
  run_less c i legal = enough_still s k (after_event s k (Run c i)) refl refl refl less
    where
      here : put k.world.client c (run_by s k.world c i) c ≡ (run_by s k.world c i)
      here = put_here k.world.client c (run_by s k.world c i)

      fewer : (length (commands_of s c) + 1 - (i + 1)) + 1 ≤ length (commands_of s c) + 1 - (k.world.client c).place
      fewer = omega (arith, legal.1, lively.more c (rw legal.0 refl))

      less : clients_left s (after_event s k (Run c i)) + 1 ≤ clients_left s k
      less = one_less s k (after_event s k (Run c i)) c 1 (there c In legal.0 refl)
          (λ d ne. same_left s k (after_event s k (Run c i)) (length s.clients) d (put_there k.world.client c (run_by s k.world c i) d ne) refl refl refl)
          (rw here (ran_part (length s.clients) _ _ (k.world.client c).phase (phase_after (command_at s c i) (is_last s c i)) _ _ _ _ _ _ _ legal.0 (ran_left (command_at s c i) (is_last s c i)) fewer))

  pub leaving : (c : ℕ) → ((k.world.client c).phase ≡ Over) ⊎ ((k.world.client c).phase ≡ Ask) → is_queued c (client_numbers s.clients) ≡ true
  leaving c (inl over) = there c Over over refl
  leaving c (inr ask) = there c Ask ask refl

  pub leave_light_less : (c : ℕ) → LegalEvent s k (LeaveLight c) → work_left s (after_event s k (LeaveLight c)) < work_left s k
  leave_light_less c legal = enough_here s k (after_event s k (LeaveLight c)) refl refl less
    where
      here : put k.world.client c (record (k.world.client c) { phase = after_leave s c (k.world.client c) }) c ≡ (record (k.world.client c) { phase = after_leave s c (k.world.client c) })
      here = put_here k.world.client c (record (k.world.client c) { phase = after_leave s c (k.world.client c) })

      less : clients_left s (after_event s k (LeaveLight c)) + 2 ≤ clients_left s k
      less = one_less s k (after_event s k (LeaveLight c)) c 2 (leaving c legal.0)
          (λ d ne. same_left s k (after_event s k (LeaveLight c)) (length s.clients) d (put_there k.world.client c (record (k.world.client c) { phase = after_leave s c (k.world.client c) }) d ne) refl refl refl)
          (rw here (leave_part (length s.clients) _ (k.world.client c).phase _ _ _ _ _ (is_last s c (pred (k.world.client c).place)) legal.0))

  pub leave_kernel_less : (c : ℕ) → LegalEvent s k (LeaveKernel c) → work_left s (after_event s k (LeaveKernel c)) < work_left s k
  leave_kernel_less c legal = enough_here s k (after_event s k (LeaveKernel c)) refl refl less
    where
      here : put k.world.client c (record (k.world.client c) { phase = after_leave s c (k.world.client c) }) c ≡ (record (k.world.client c) { phase = after_leave s c (k.world.client c) })
      here = put_here k.world.client c (record (k.world.client c) { phase = after_leave s c (k.world.client c) })

      less : clients_left s (after_event s k (LeaveKernel c)) + 2 ≤ clients_left s k
      less = one_less s k (after_event s k (LeaveKernel c)) c 2 (leaving c legal.0)
          (λ d ne. same_left s k (after_event s k (LeaveKernel c)) (length s.clients) d (put_there k.world.client c (record (k.world.client c) { phase = after_leave s c (k.world.client c) }) d ne) refl refl refl)
          (rw here (leave_part (length s.clients) _ (k.world.client c).phase _ _ _ _ _ (is_last s c (pred (k.world.client c).place)) legal.0))

  pub info_less : (c : ℕ) → LegalEvent s k (Info c) → work_left s (after_event s k (Info c)) < work_left s k
  info_less c legal = enough s k (after_event s k (Info c)) refl less
    where
      here : put k.world.client c (told s k.world c) c ≡ (told s k.world c)
      here = put_here k.world.client c (told s k.world c)

      old : is_stale s k.world c ≡ true
      old = grind (arith, nat_tests, aged c (rw legal.1 refl))

      young : not (k.world.stamps (window_of s c) == k.world.stamps (window_of s c)) ≡ false
      young = grind (arith, nat_tests)

      less : clients_left s (after_event s k (Info c)) + 3 ≤ clients_left s k
      less = one_less s k (after_event s k (Info c)) c 3 (there c Asking legal.1 refl)
          (λ d ne. same_left s k (after_event s k (Info c)) (length s.clients) d (put_there k.world.client c (told s k.world c) d ne) refl refl (leaves_others d c k.queue ne))
          (rw here (info_part (length s.clients) _ (k.world.client c).phase _ _ _ _ _ _ legal.1 old young))

  -- who joins the queue needs to wait no more
  pub queue_parts : (a d : ℕ) → client_left s (after_event s k (Queue a)) (length s.clients) d ≤ client_left s k (length s.clients) d
  queue_parts a d = by_client (cases_eq d a)
    where
      waits_less : (n l : ℕ) (p : Phase) (st ur uc b q r : Bool) → r ≡ true → part_left n l p st ur uc (b && not r) ≤ part_left n l p st ur uc (b && not q)
      waits_less n l p st ur uc true q r e = rw e (omega arith)
      waits_less n l p st ur uc false q r e = omega arith

      by_client : (d ≡ a) ⊎ (d ≡ a → ⊥) → client_left s (after_event s k (Queue a)) (length s.clients) d ≤ client_left s k (length s.clients) d
      by_client (inl same) = waits_less (length s.clients) _ _ _ _ _ _ _ _ (rw same (joined a k.queue))
      by_client (inr ne) = omega (arith, same_left s k (after_event s k (Queue a)) (length s.clients) d refl refl refl (joins_others d a k.queue ne))

  pub queue_less : (a : ℕ) → LegalEvent s k (Queue a) → work_left s (after_event s k (Queue a)) < work_left s k
  queue_less zero legal = omega (arith, sums, server)
    where
      sums : clients_left s (after_event s k (Queue 0)) ≤ clients_left s k
      sums = sum_stays (client_left s k (length s.clients)) (client_left s (after_event s k (Queue 0)) (length s.clients)) (client_numbers s.clients) (queue_parts 0)

      left : nat_lt k.world.made (length s.changes) ≡ true
      left = grind (arith, nat_tests, legal.0)

      server : server_left s (after_event s k (Queue 0)) + 1 ≤ server_left s k
      server = rw (left, joined 0 k.queue, legal.1) (omega arith)
  queue_less (suc c) legal = omega (arith, sums, server)
    where
      live : (k.dying (suc c) ≡ true) ⊎ (wants_in (k.world.client (suc c)).phase ≡ true) → is_done (k.world.client (suc c)).phase ≡ false
      live (inl dying) = (known.tied.dying (suc c) dying).1
      live (inr wants) = wanting_live (k.world.client (suc c)).phase wants

      wants : (k.dying (suc c) ≡ true) ⊎ (wants_in (k.world.client (suc c)).phase ≡ true) → (k.dying (suc c) || wants_in (k.world.client (suc c)).phase) ≡ true
      wants (inl dying) = rw dying refl
      wants (inr w) = rw w (by_life (k.dying (suc c)))
        where
          by_life : (b : Bool) → (b || true) ≡ true
          by_life true = refl
          by_life false = refl

      waits : has_to_wait k (suc c) ≡ true
      waits = rw (wants legal.0, legal.1) refl

      no_more : (b : Bool) → (b && not (is_queued (suc c) (k.queue ++ suc c ∷ []))) ≡ false
      no_more true = rw (joined (suc c) k.queue) refl
      no_more false = refl

      sums : clients_left s (after_event s k (Queue (suc c))) + 1 ≤ clients_left s k
      sums = one_less s k (after_event s k (Queue (suc c))) (suc c) 1 (there (suc c) (k.world.client (suc c)).phase refl (live legal.0))
          (λ d ne. same_left s k (after_event s k (Queue (suc c))) (length s.clients) d refl refl refl (joins_others d (suc c) k.queue ne))
          (queue_part (length s.clients) _ (k.world.client (suc c)).phase _ _ _ _ _ waits (no_more _))

      server : server_left s (after_event s k (Queue (suc c))) ≡ server_left s k
      server = rw (joins_others 0 (suc c) k.queue (λ e. omega arith)) refl

  pub mark_less : (a : ℕ) → LegalEvent s k (Mark a) → work_left s (after_event s k (Mark a)) < work_left s k
  mark_less a legal = rw legal.2 (omega arith)

  -- new stamps
  pub stamped_parts : (m : Core) (c d : ℕ) → m.world.client d ≡ k.world.client d → client_left s m (length s.clients) d ≤ client_left s k (length s.clients) d + 17
  stamped_parts m c d same = rw same (stamp_part (length s.clients) _ _ _ _ _ _ _ _)

  pub numbers : length (client_numbers s.clients) ≡ length s.clients
  numbers = length-map s.clients (λ p. p.number)

  pub change_less : (i : ℕ) → LegalEvent s k (Change i) → work_left s (after_event s k (Change i)) < work_left s k
  change_less i legal = rw one_less_left (weigh (length s.clients) (length s.changes - (k.world.made + 1)) _ _ _ _ (not (after_event s k (Change i)).word.contended) _ (rw numbers at sums))
    where
      sums : clients_left s (after_event s k (Change i)) ≤ clients_left s k + 17 * length (client_numbers s.clients)
      sums = sum_rises (client_left s k (length s.clients)) (client_left s (after_event s k (Change i)) (length s.clients)) (client_numbers s.clients) 17 (λ d. stamped_parts (after_event s k (Change i)) 0 d refl)

      one_less_left : length s.changes - k.world.made ≡ suc (length s.changes - (k.world.made + 1))
      one_less_left = omega (arith, legal.1, legal.2)

      weigh : (n rest new old : ℕ) (a b c d : Bool) → new ≤ old + 17 * n → new + ((17 * n + 4) * rest + one_if a) + one_if c < old + ((17 * n + 4) * suc rest + one_if b) + one_if d
      weigh n rest new old a b c d le = omega (arith, le, one_bound a, one_bound c)

  pub gone_less : (c : ℕ) → LegalEvent s k (Gone c) → work_left s (after_event s k (Gone c)) < work_left s k
  gone_less c legal = enough s k (after_event s k (Gone c)) refl (omega (arith, sums, numbers))
    where
      live : LegalEvent s k (Gone c) → is_done (k.world.client c).phase ≡ false
      live (inl held) = holding_live (k.world.client c).phase held.0
      live (inr dying) = (known.tied.dying c dying.0).1

      here : put k.world.client c (record (k.world.client c) { phase = Dead }) c ≡ record (k.world.client c) { phase = Dead }
      here = put_here k.world.client c (record (k.world.client c) { phase = Dead })

      own : client_left s (after_event s k (Gone c)) (length s.clients) c + (17 * length s.clients + 3) ≤ client_left s k (length s.clients) c + 17
      own = rw here (gone_part (length s.clients) _ (k.world.client c).phase _ _ _ _ _ _ (live legal))

      parts : (d : ℕ) → (d ≡ c) ⊎ (d ≡ c → ⊥) → client_left s (after_event s k (Gone c)) (length s.clients) d ≤ client_left s k (length s.clients) d + 17
      parts d (inl same) = rw same (omega (arith, own))
      parts d (inr ne) = stamped_parts (after_event s k (Gone c)) c d (put_there k.world.client c (record (k.world.client c) { phase = Dead }) d ne)

      sums : clients_left s (after_event s k (Gone c)) + (17 * length s.clients + 3) ≤ clients_left s k + 17 * length (client_numbers s.clients)
      sums = sum_falls (client_left s k (length s.clients)) (client_left s (after_event s k (Gone c)) (length s.clients)) (client_numbers s.clients) c (17 * length s.clients + 3) 17
          (there c (k.world.client c).phase refl (live legal)) (λ d. parts d (cases_eq d c)) own

  -- every event but a stop
  pub less : (e : Event) → LegalEvent s k e → ((c : ℕ) → e ≡ Stop c → ⊥) → work_left s (after_event s k e) < work_left s k
  less (Light c) legal no_stop = light_less c legal
  less (Kernel c found) legal no_stop = kernel_less c found legal
  less (Queue a) legal no_stop = queue_less a legal
  less (Mark a) legal no_stop = mark_less a legal
  less (Stale c) legal no_stop = stale_less c legal
  less (Emit c groups) legal no_stop = emit_less c groups legal
  less (Place c t first count) legal no_stop = place_less c t first count legal
  less (Run c i) legal no_stop = run_less c i legal
  less (LeaveLight c) legal no_stop = leave_light_less c legal
  less (LeaveKernel c) legal no_stop = leave_kernel_less c legal
  less (Info c) legal no_stop = info_less c legal
  less (Change i) legal no_stop = change_less i legal
  less (Stop c) legal no_stop = absurd (no_stop c refl)
  less (Gone c) legal no_stop = gone_less c legal
