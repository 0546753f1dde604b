-- A legal event is its actor's turn.
use Rattle.std.proofs.Common.{◌≡◌, ℕ, suc, List, [], ◌∷◌, true, false, Option, Some, None, arith, refl, sym, ap, ◌∙◌, inl, inr, subst, rules}
use Rattle.std.specs.Prelude.{◌==◌, ◌⊎◌, is_none, is_some}
use Rattle.std.proofs.lemmas.Bool.{true≢false, false_from_ne_true, and_parts, eqb-true}
use Rattle.std.proofs.lemmas.Bool.Decides.{nat_tests}
use Rattle.dri_base.specs.declared.journal.Event.TheVariants.{Light, Kernel, Queue, Mark, Stale, Emit, Place, Run, LeaveLight, LeaveKernel, Info, Change, Gone}
use Rattle.dri_core.specs.Phases.{Phase}
use Rattle.dri_core.specs.Phases as Phase_is
use Rattle.dri_base.specs.declared.command.Command.{Command}
use Rattle.dri_base.specs.declared.command.Command.TheVariants as Command_is
use Rattle.dri_base.specs.declared.scene.Scene.{Scene}
use Rattle.dri_base.specs.Scenes.{command_at}
use Rattle.dri_model.specs.Groups.{is_empty}
use Rattle.dri_model.specs.Heaps as Heaps
use Rattle.dri_model.specs.Heaps.{Heap, lowest_place, classes_for, is_place_for}
use Rattle.dri_core.specs.EntryTable.{is_start_for}
use Rattle.dri_core.specs.Worlds.{World}
use Rattle.dri_core.specs.Privates.{is_triangle, can_run, can_draw, is_ready, is_ready_for, room_in, textured_with}
use Rattle.dri_core.specs.Phases.{is_holding, is_done}
use Rattle.dri_core.specs.Cores.{Core, IsNext, IsFirst, is_queued}
use Rattle.dri_core.specs.EventTable.{LegalEvent}
use Rattle.dri_core.specs.Phases.{wants_in}
use Rattle.dri_core.specs.Turns.{start_for, turn_of, acting_turn, triangle_turn, emit_turn, server_turn}
use Rattle.dri_core.specs.Cores.{is_first}
use Rattle.dri_core.proofs.Queues.{next_is, Queued}

pub light_turn : (s : Scene) (k : Core) (c : ℕ) → LegalEvent s k (Light c) → turn_of s k c ≡ Some (Light c)
light_turn s k c possible = grind (arith, nat_tests)

pub kernel_turn : (s : Scene) (k : Core) (c found : ℕ) → LegalEvent s k (Kernel c found) → turn_of s k c ≡ Some (Kernel c found)
kernel_turn s k c found possible = grind (arith, nat_tests, next_is c k.queue possible.5)

pub stale_turn : (s : Scene) (k : Core) (c : ℕ) → Queued s k → LegalEvent s k (Stale c) → turn_of s k c ≡ Some (Stale c)
stale_turn s k c queued possible = grind (arith, nat_tests, queued.alive c)

-- a client that holds isn't stopped
pub live_of : (s : Scene) (k : Core) (c : ℕ) → Queued s k → is_holding (k.world.client c).phase ≡ true → k.dying c ≡ false
live_of s k c q holds = false_from_ne_true _ (λ st. true≢false (sym holds ∙ q.alive c st))

pub in_turn : (s : Scene) (k : Core) (c : ℕ) → Queued s k → (k.world.client c).phase ≡ Phase_is.In → turn_of s k c ≡ acting_turn s k.world c (command_at s c (k.world.client c).place)
in_turn s k c q phase = let live = live_of s k c q (rw phase refl) in rw (live, phase) refl

pub at_triangle : (s : Scene) (w : World) (c : ℕ) (command : Option Command) → is_triangle command ≡ true → acting_turn s w c command ≡ triangle_turn s w c (textured_with (w.client c).state)
at_triangle s w c (Some (Command_is.Triangle t)) is = refl
at_triangle s w c _ is = absurd (true≢false (sym is))

pub some_there : (o : Option Heaps.Spot) → is_some o ≡ true → is_none o ≡ false
some_there None e = absurd (true≢false (sym e))
some_there (Some r) e = refl

pub ready_turn : (s : Scene) (w : World) (c : ℕ) (o : Option ℕ) → is_ready_for (w.client c).placed o ≡ true → triangle_turn s w c o ≡ emit_turn (w.client c) c
ready_turn s w c None ready = refl
ready_turn s w c (Some t) ready = rw (some_there ((w.client c).placed t) ready) refl

pub emit_is_turn : (s : Scene) (k : Core) (c groups : ℕ) → Queued s k → LegalEvent s k (Emit c groups) → turn_of s k c ≡ Some (Emit c groups)
emit_is_turn s k c groups q possible =
    in_turn s k c q possible.0.0 ∙ at_triangle s k.world c (command_at s c (k.world.client c).place) possible.0.1 ∙ ready_turn s k.world c (textured_with (k.world.client c).state) possible.1 ∙ rw (possible.3, possible.2) refl

pub place_is_turn : (s : Scene) (k : Core) (c t first count : ℕ) → Queued s k → LegalEvent s k (Place c t first count) → turn_of s k c ≡ Some (Place c t first count)
place_is_turn s k c t first count q possible =
    in_turn s k c q possible.0.0 ∙ at_triangle s k.world c (command_at s c (k.world.client c).place) possible.0.1 ∙ ap (triangle_turn s k.world c) possible.1
    ∙ rw possible.2 (ap (λ n. Some (Place c t (start_for (room_in s c (k.world.client c) t) s.regions k.world.heap n) n)) (sym possible.3) ∙ ap (λ f. Some (Place c t f count)) (sym at_lowest))
  where
    at_lowest : first ≡ start_for (room_in s c (k.world.client c) t) s.regions k.world.heap count
    at_lowest = by_room (room_in s c (k.world.client c) t) possible.4
      where
        same : (a b : ℕ) → (a == b) ≡ true → a ≡ b
        same a b e = eqb-true a b e

        by_room : (o : Option Heaps.Spot) → is_start_for o s.regions k.world.heap count first ≡ true → first ≡ start_for o s.regions k.world.heap count
        by_room None e = same _ _ (and_parts (first == lowest_place s.regions k.world.heap count (classes_for s.regions k.world.heap count)) _ e).0
        by_room (Some room) e = same first room.run.first e

pub run_by_command : (s : Scene) (w : World) (c i : ℕ) (command : Option Command) → i ≡ (w.client c).place → can_run (can_draw (w.client c)) command ≡ true → acting_turn s w c command ≡ Some (Run c i)
run_by_command s w c i (Some (Command_is.Triangle t)) e can =
    let h = and_parts (is_empty (w.client c).dirty) (is_ready (w.client c)) can in
    ready_turn s w c (textured_with (w.client c).state) h.1 ∙ rw h.0 (ap (λ n. Some (Run c n)) (sym e))
run_by_command s w c i (Some Command_is.Die) e can = absurd (true≢false (sym can))
run_by_command s w c i None e can = absurd (true≢false (sym can))
run_by_command s w c i _ e can = ap (λ n. Some (Run c n)) (sym e)

pub run_turn : (s : Scene) (k : Core) (c i : ℕ) → Queued s k → LegalEvent s k (Run c i) → turn_of s k c ≡ Some (Run c i)
run_turn s k c i q possible =
    in_turn s k c q possible.0 ∙ run_by_command s k.world c i (command_at s c (k.world.client c).place) possible.1 (subst (λ n. can_run (can_draw (k.world.client c)) (command_at s c n) ≡ true) possible.1 possible.2)

pub leave_light_turn : (s : Scene) (k : Core) (c : ℕ) → Queued s k → LegalEvent s k (LeaveLight c) → turn_of s k c ≡ Some (LeaveLight c)
leave_light_turn s k c queued possible = grind (arith, nat_tests, queued.alive c)

pub info_turn : (s : Scene) (k : Core) (c : ℕ) → Queued s k → LegalEvent s k (Info c) → turn_of s k c ≡ Some (Info c)
info_turn s k c queued possible = grind (arith, nat_tests, next_is c k.queue possible.3)

pub queue_turn : (s : Scene) (k : Core) (c : ℕ) → Queued s k → LegalEvent s k (Queue (suc c)) → turn_of s k (suc c) ≡ Some (Queue (suc c))
queue_turn s k c queued possible = grind (arith, nat_tests)

pub first_queued : (a : ℕ) (q : List ℕ) → IsFirst a q → is_queued a q ≡ true
first_queued a [] first = absurd first
first_queued a (b ∷ bs) first = rw first (search rules)

pub first_is : (a : ℕ) (q : List ℕ) → IsFirst a q → is_first a q ≡ true
first_is a [] first = absurd first
first_is a (b ∷ bs) first = grind (arith, nat_tests)

pub mark_turn : (s : Scene) (k : Core) (c : ℕ) → Queued s k → LegalEvent s k (Mark (suc c)) → turn_of s k (suc c) ≡ Some (Mark (suc c))
mark_turn s k c queued possible = by_wish (queued.wants (suc c) (omega arith) in_queue)
  where
    in_queue : is_queued (suc c) k.queue ≡ true
    in_queue = first_queued (suc c) k.queue possible.0

    at_first : is_first (suc c) k.queue ≡ true
    at_first = first_is (suc c) k.queue possible.0

    by_wish : (k.dying (suc c) ≡ true) ⊎ (wants_in (k.world.client (suc c)).phase ≡ true) → turn_of s k (suc c) ≡ Some (Mark (suc c))
    by_wish (inl dying) = grind (arith, nat_tests)
    by_wish (inr wants) = grind (arith, nat_tests)

pub leave_kernel_turn : (s : Scene) (k : Core) (c : ℕ) → Queued s k → LegalEvent s k (LeaveKernel c) → turn_of s k c ≡ Some (LeaveKernel c)
leave_kernel_turn s k c queued possible = grind (arith, nat_tests, queued.alive c)

pub change_turn : (s : Scene) (k : Core) (i : ℕ) → LegalEvent s k (Change i) → server_turn s k ≡ Some (Change i)
change_turn s k i possible = grind (arith, nat_tests, next_is 0 k.queue possible.3)

pub dying_turn : (s : Scene) (k : Core) (c : ℕ) → k.dying c ≡ true → k.word.held ≡ false → IsNext c k.queue → turn_of s k c ≡ Some (Gone c)
dying_turn s k c dying free next = grind (arith, nat_tests, next_is c k.queue next)
