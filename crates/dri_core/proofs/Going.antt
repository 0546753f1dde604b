-- What is known of a core on its way; no turn brings a stop.
use Rattle.std.proofs.Common.{◌≡◌, ◌+◌, ℕ, zero, suc, List, [], ◌∷◌, Bool, true, false, Option, Some, None, refl, sym, ap, ◌∙◌}
use Rattle.std.specs.Prelude.{◌==◌, ◌&&◌, if◌then◌else◌, not, nat_lt, length}
use Rattle.std.proofs.lemmas.Bool.{true≢false}
use Rattle.dri_base.specs.declared.journal.Event.{Event}
use Rattle.dri_base.specs.declared.journal.Event.TheVariants.{Light, Kernel, Queue, Mark, Emit, Run, LeaveLight, LeaveKernel, Info, Change, Stop, Gone}
use Rattle.dri_base.specs.declared.scene.Scene.{Scene}
use Rattle.dri_core.specs.Cores.{Core, opening_core, is_queued, is_next, is_first}
use Rattle.dri_core.specs.CoreRuns.{after_events, LegalEvents, IsRun}
use Rattle.dri_core.specs.EventTable.{LegalEvent, after_event}
use Rattle.dri_core.specs.Measures.{TurnsLeaveLess}
use Rattle.dri_base.specs.declared.command.Command.{Command}
use Rattle.dri_base.specs.declared.command.Command.TheVariants.{Triangle}
use Rattle.dri_core.specs.Phases.{Phase, Out, Old, In, Over, Ask, Asking, Ended, Dead}
use Rattle.dri_core.specs.Privates.{textured_with}
use Rattle.dri_model.specs.Groups.{is_empty, bits}
use Rattle.dri_model.specs.Heaps as Heaps
use Rattle.dri_core.specs.Worlds.{World}
use Rattle.dri_base.proofs.RangeLemmas.{IsWellFormed}
use Rattle.dri_base.specs.Scenes.{command_at}
use Rattle.dri_core.specs.Turns.{turn, phase_turn, emit_turn, triangle_turn, acting_turn, waiting, or_waiting}
use Rattle.dri_core.proofs.Aged.{Aged, aged_opened, aged_on}
use Rattle.dri_core.proofs.Cores.{legal_of}
use Rattle.dri_core.proofs.Lively.{Lively, lively_opened, lively_on}
use Rattle.dri_core.proofs.Measures.{less}
use Rattle.dri_core.proofs.TurnEvents.{Known, known_start, known_step}
use Rattle.dri_core.proofs.OneTurn.{turns_are_legal}

-- all that is known of a core on its way
pub record Going (s : Scene) (k : Core) : Type 0 where
  pub known : Known s k
  pub lively : Lively s k.world
  pub aged : Aged s k.world

pub going_start : (s : Scene) → IsWellFormed s → Going s (opening_core s)
going_start s good = record { known = known_start s good; lively = lively_opened s; aged = aged_opened s }

pub going_on : (s : Scene) (k : Core) (e : Event) → IsWellFormed s → Going s k → LegalEvent s k e → Going s (after_event s k e)
going_on s k e good going legal = record {
  known = known_step s k e good going.known legal;
  lively = lively_on s k.world _ going.known.sound going.lively (legal_of s k e going.known.sound going.known.tied legal);
  aged = aged_on s k.world _ going.known.sound going.aged (legal_of s k e going.known.sound going.known.tied legal);
}

pub going_along : (s : Scene) (k : Core) (es : List Event) → IsWellFormed s → Going s k → LegalEvents s k es → Going s (after_events s k es)
going_along s k [] good going all = going
going_along s k (e ∷ es) good going all = going_along s (after_event s k e) es good (going_on s k e good going all.0) all.1

pub going_after : (s : Scene) (events : List Event) → IsWellFormed s → IsRun s events → Going s (after_events s (opening_core s) events)
going_after s events good run = going_along s (opening_core s) events good (going_start s good) run

-- no turn brings a stop
abbrev pub is_stop : Option Event → Bool
is_stop None = false
is_stop (Some (Stop c)) = true
is_stop (Some e) = false

pub waits_on : (k : Core) (a : ℕ) → is_stop (waiting k a) ≡ false
waits_on k a = by_tests (is_queued a k.queue) (is_first a k.queue && (k.word.held && not k.word.contended))
  where
    by_tests : (b d : Bool) → is_stop (if b then (if d then Some (Mark a) else None) else Some (Queue a)) ≡ false
    by_tests true true = refl
    by_tests true false = refl
    by_tests false d = refl

pub or_waits_on : (k : Core) (a : ℕ) (e : Event) → is_stop (Some e) ≡ false → is_stop (or_waiting k a e) ≡ false
or_waits_on k a e h = by_test (not k.word.held && is_next a k.queue)
  where
    by_test : (b : Bool) → is_stop (if b then Some e else waiting k a) ≡ false
    by_test true = h
    by_test false = waits_on k a

pub acts_on : (s : Scene) (w : World) (c : ℕ) (command : Option Command) → is_stop (acting_turn s w c command) ≡ false
acts_on s w c (Some (Triangle t)) = by_texture (textured_with (w.client c).state)
  where
    emits : is_stop (emit_turn (w.client c) c) ≡ false
    emits = by_test (is_empty (w.client c).dirty)
      where
        by_test : (b : Bool) → is_stop (if b then Some (Run c (w.client c).place) else Some (Emit c (bits (w.client c).dirty))) ≡ false
        by_test true = refl
        by_test false = refl

    by_texture : (o : Option ℕ) → is_stop (triangle_turn s w c o) ≡ false
    by_texture None = emits
    by_texture (Some u) = by_run ((w.client c).placed u) refl
      where
        by_run : (o : Option Heaps.Spot) → (w.client c).placed u ≡ o → is_stop (triangle_turn s w c (Some u)) ≡ false
        by_run None h = rw h refl
        by_run (Some r) h = rw h emits
acts_on s w c _ = refl

pub leaves_on : (k : Core) (c : ℕ) → is_stop (if k.word.contended then Some (LeaveKernel c) else Some (LeaveLight c)) ≡ false
leaves_on k c = by_mark k.word.contended
  where
    by_mark : (b : Bool) → is_stop (if b then Some (LeaveKernel c) else Some (LeaveLight c)) ≡ false
    by_mark true = refl
    by_mark false = refl

pub goes_on : (s : Scene) (k : Core) (c : ℕ) (p : Phase) → is_stop (phase_turn s k c p) ≡ false
goes_on s k c Out = by_name (not k.word.held && (k.word.context == c + 1))
  where
    by_name : (b : Bool) → is_stop (if b then Some (Light c) else or_waiting k c (Kernel c k.word.context)) ≡ false
    by_name true = refl
    by_name false = or_waits_on k c (Kernel c k.word.context) refl
goes_on s k c Old = refl
goes_on s k c In = acts_on s k.world c (command_at s c (k.world.client c).place)
goes_on s k c Over = leaves_on k c
goes_on s k c Ask = leaves_on k c
goes_on s k c Asking = or_waits_on k c (Info c) refl
goes_on s k c Ended = refl
goes_on s k c Dead = refl

pub turn_on : (s : Scene) (k : Core) (a : ℕ) → is_stop (turn s k a) ≡ false
turn_on s k zero = by_left (nat_lt k.world.made (length s.changes))
  where
    by_left : (b : Bool) → is_stop (if b then or_waiting k 0 (Change (k.world.made + 1)) else None) ≡ false
    by_left true = or_waits_on k 0 (Change (k.world.made + 1)) refl
    by_left false = refl
turn_on s k (suc c) = by_life (k.dying (suc c))
  where
    by_life : (b : Bool) → is_stop (if b then or_waiting k (suc c) (Gone (suc c)) else phase_turn s k (suc c) (k.world.client (suc c)).phase) ≡ false
    by_life true = or_waits_on k (suc c) (Gone (suc c)) refl
    by_life false = goes_on s k (suc c) (k.world.client (suc c)).phase

pub no_stop : (s : Scene) (k : Core) (a : ℕ) (e : Event) → turn s k a ≡ Some e → (c : ℕ) → e ≡ Stop c → ⊥
no_stop s k a e h c same = true≢false (sym (ap is_stop (h ∙ ap Some same)) ∙ turn_on s k a)

-- each turn leaves less to do
pub turn_less : (s : Scene) (k : Core) → IsWellFormed s → Going s k → TurnsLeaveLess s k
turn_less s k good going a e h = less s k going.known going.lively going.aged e (turns_are_legal s k good going.known a e h) (no_stop s k a e h)
