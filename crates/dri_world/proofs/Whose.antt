-- Whose event a turn brings, and what it leaves to the others.
use Rattle.std.proofs.Common.{◌≡◌, ◌≢◌, ◌<◌, ◌+◌, ℕ, zero, suc, [], ◌∷◌, Bool, true, false, Option, Some, None, arith, refl}
use Rattle.std.specs.Prelude.{◌==◌, ◌&&◌, ◌||◌, if◌then◌else◌, not, nat_lt, length}
use Rattle.std.specs.List.{All}
use Rattle.std.proofs.lemmas.Bool.Decides.{nat_tests}
use Rattle.dri_base.specs.Scenes.{command_at}
use Rattle.dri_base.specs.declared.command.Command.{Command}
use Rattle.dri_base.specs.declared.command.Command.TheVariants.{Set, Clear, Triangle, Swap, Yield, Die}
use Rattle.dri_base.specs.declared.journal.Entry.{Entry}
use Rattle.dri_base.specs.declared.journal.Entry.TheVariants as Entry_is
use Rattle.dri_base.specs.declared.journal.Event.{Event}
use Rattle.dri_base.specs.declared.journal.Event.TheVariants.{Light, Kernel, Queue, Mark, Stale, Emit, Place, Run, LeaveLight, LeaveKernel, Info, Change, Stop, Gone}
use Rattle.dri_base.specs.declared.scene.Scene.{Scene}
use Rattle.dri_core.specs.Cores.{Core, entry_of, is_first, is_next, is_queued}
use Rattle.dri_core.specs.EventTable.{dying_after, world_after}
use Rattle.dri_core.specs.Phases.{Phase, Out, Old, In, Over, Ask, Asking, Ended, Dead, is_done, is_holding}
use Rattle.dri_core.specs.Privates.{textured_with}
use Rattle.dri_core.specs.Runs.{client_of}
use Rattle.dri_core.specs.TurnLaws.{actor_of}
use Rattle.dri_core.specs.Turns.{turn, phase_turn, emit_turn, triangle_turn, acting_turn, core_after, server_turn, waiting, or_waiting, kill}
use Rattle.dri_core.specs.Worlds.{World}
use Rattle.dri_core.proofs.Laws.{foreign_entries}
use Rattle.dri_model.specs.Groups.{is_empty, bits}
use Rattle.dri_model.specs.Heaps as Heaps

-- the event, where there is one, is the actor's
abbrev pub IsOf : ℕ → Option Event → Type 0
IsOf a None = Unit {0}
IsOf a (Some e) = actor_of e ≡ a

pub waits_of : (k : Core) (a : ℕ) → IsOf a (waiting k a)
waits_of k a = by_tests (is_queued a k.queue) (is_first a k.queue && (k.word.held && not k.word.contended))
  where
    by_tests : (b d : Bool) → IsOf a (if b then (if d then Some (Mark a) else None) else Some (Queue a))
    by_tests true true = refl
    by_tests true false = tt
    by_tests false d = refl

pub or_waits_of : (k : Core) (a : ℕ) (e : Event) → actor_of e ≡ a → IsOf a (or_waiting k a e)
or_waits_of k a e h = by_test (not k.word.held && is_next a k.queue)
  where
    by_test : (b : Bool) → IsOf a (if b then Some e else waiting k a)
    by_test true = h
    by_test false = waits_of k a

pub acts_of : (s : Scene) (w : World) (c : ℕ) (command : Option Command) → IsOf c (acting_turn s w c command)
acts_of s w c None = tt
acts_of s w c (Some Die) = refl
acts_of s w c (Some (Set setting)) = refl
acts_of s w c (Some (Clear colour depth)) = refl
acts_of s w c (Some Swap) = refl
acts_of s w c (Some Yield) = refl
acts_of s w c (Some (Triangle t)) = by_texture (textured_with (w.client c).state)
  where
    emits : IsOf c (emit_turn (w.client c) c)
    emits = by_test (is_empty (w.client c).dirty)
      where
        by_test : (b : Bool) → IsOf c (if b then Some (Run c (w.client c).place) else Some (Emit c (bits (w.client c).dirty)))
        by_test true = refl
        by_test false = refl

    by_texture : (o : Option ℕ) → IsOf c (triangle_turn s w c o)
    by_texture None = emits
    by_texture (Some u) = by_run ((w.client c).placed u) refl
      where
        by_run : (o : Option Heaps.Spot) → (w.client c).placed u ≡ o → IsOf c (triangle_turn s w c (Some u))
        by_run None h = rw h refl
        by_run (Some r) h = rw h emits

pub leaves_of : (k : Core) (c : ℕ) → IsOf c (if k.word.contended then Some (LeaveKernel c) else Some (LeaveLight c))
leaves_of k c = by_mark k.word.contended
  where
    by_mark : (b : Bool) → IsOf c (if b then Some (LeaveKernel c) else Some (LeaveLight c))
    by_mark true = refl
    by_mark false = refl

pub goes_of : (s : Scene) (k : Core) (c : ℕ) (p : Phase) → IsOf c (phase_turn s k c p)
goes_of s k c Out = by_name (not k.word.held && (k.word.context == c + 1))
  where
    by_name : (b : Bool) → IsOf c (if b then Some (Light c) else or_waiting k c (Kernel c k.word.context))
    by_name true = refl
    by_name false = or_waits_of k c (Kernel c k.word.context) refl
goes_of s k c Old = refl
goes_of s k c In = acts_of s k.world c (command_at s c (k.world.client c).place)
goes_of s k c Over = leaves_of k c
goes_of s k c Ask = leaves_of k c
goes_of s k c Asking = or_waits_of k c (Info c) refl
goes_of s k c Ended = tt
goes_of s k c Dead = tt

-- a turn is its actor's
pub turn_is_of : (s : Scene) (k : Core) (a : ℕ) → IsOf a (turn s k a)
turn_is_of s k zero = by_left (nat_lt k.world.made (length s.changes))
  where
    by_left : (b : Bool) → IsOf 0 (if b then or_waiting k 0 (Change (k.world.made + 1)) else None)
    by_left true = or_waits_of k 0 (Change (k.world.made + 1)) refl
    by_left false = tt
turn_is_of s k (suc c) = by_life (k.dying (suc c))
  where
    by_life : (b : Bool) → IsOf (suc c) (if b then or_waiting k (suc c) (Gone (suc c)) else phase_turn s k (suc c) (k.world.client (suc c)).phase)
    by_life true = or_waits_of k (suc c) (Gone (suc c)) refl
    by_life false = goes_of s k (suc c) (k.world.client (suc c)).phase

-- a kill is its client's
pub kill_is_of : (k : Core) (c : ℕ) → IsOf c (kill k c)
kill_is_of k c = by_tests (is_holding (k.world.client c).phase) (k.dying c) (is_done (k.world.client c).phase)
  where
    by_tests : (b d f : Bool) → IsOf c (if b then Some (Gone c) else (if d || f then None else Some (Stop c)))
    by_tests true d f = refl
    by_tests false true f = tt
    by_tests false false true = tt
    by_tests false false false = refl

one : (e : Entry) (m : ℕ) → client_of e ≢ m → All (λ e. client_of e ≢ m) (e ∷ [])
one e m ne zero d l = ne
one e m ne (suc k) d l = absurd (omega arith)

-- an event leaves the parts of the others as they were
pub others : (s : Scene) (w : World) (e : Event) (m : ℕ) → actor_of e ≢ m → (world_after s w (entry_of e)).client m ≡ w.client m
others s w (Light c) m ne = foreign_entries s w (Entry_is.Light c ∷ []) m (one (Entry_is.Light c) m ne)
others s w (Kernel c found) m ne = foreign_entries s w (Entry_is.Kernel c found ∷ []) m (one (Entry_is.Kernel c found) m ne)
others s w (Queue a) m ne = refl
others s w (Mark a) m ne = refl
others s w (Stale c) m ne = foreign_entries s w (Entry_is.Stale c ∷ []) m (one (Entry_is.Stale c) m ne)
others s w (Emit c groups) m ne = foreign_entries s w (Entry_is.Emit c groups ∷ []) m (one (Entry_is.Emit c groups) m ne)
others s w (Place c t first count) m ne = foreign_entries s w (Entry_is.Place c t first count ∷ []) m (one (Entry_is.Place c t first count) m ne)
others s w (Run c i) m ne = foreign_entries s w (Entry_is.Run c i ∷ []) m (one (Entry_is.Run c i) m ne)
others s w (LeaveLight c) m ne = foreign_entries s w (Entry_is.Leave c ∷ []) m (one (Entry_is.Leave c) m ne)
others s w (LeaveKernel c) m ne = foreign_entries s w (Entry_is.Leave c ∷ []) m (one (Entry_is.Leave c) m ne)
others s w (Info c) m ne = foreign_entries s w (Entry_is.Info c ∷ []) m (one (Entry_is.Info c) m ne)
others s w (Change i) m ne = refl
others s w (Stop c) m ne = refl
others s w (Gone c) m ne = foreign_entries s w (Entry_is.Gone c ∷ []) m (one (Entry_is.Gone c) m ne)

-- and who of them is dying
pub others_dying : (f : ℕ → Bool) (e : Event) (m : ℕ) → actor_of e ≢ m → dying_after f e m ≡ f m
others_dying f (Light c) m ne = refl
others_dying f (Kernel c found) m ne = refl
others_dying f (Queue a) m ne = refl
others_dying f (Mark a) m ne = refl
others_dying f (Stale c) m ne = refl
others_dying f (Emit c groups) m ne = refl
others_dying f (Place c t first count) m ne = refl
others_dying f (Run c i) m ne = refl
others_dying f (LeaveLight c) m ne = refl
others_dying f (LeaveKernel c) m ne = refl
others_dying f (Info c) m ne = refl
others_dying f (Change i) m ne = refl
others_dying f (Stop c) m ne = grind (arith, nat_tests)
others_dying f (Gone c) m ne = grind (arith, nat_tests)

-- whether an actor is dying after an event rests on whether it was
pub dying_at : (f g : ℕ → Bool) (e : Event) (m : ℕ) → f m ≡ g m → dying_after f e m ≡ dying_after g e m
dying_at f g (Light c) m same = same
dying_at f g (Kernel c found) m same = same
dying_at f g (Queue a) m same = same
dying_at f g (Mark a) m same = same
dying_at f g (Stale c) m same = same
dying_at f g (Emit c groups) m same = same
dying_at f g (Place c t first count) m same = same
dying_at f g (Run c i) m same = same
dying_at f g (LeaveLight c) m same = same
dying_at f g (LeaveKernel c) m same = same
dying_at f g (Info c) m same = same
dying_at f g (Change i) m same = same
dying_at f g (Stop c) m same = rw same refl
dying_at f g (Gone c) m same = rw same refl

-- waiting ends nobody's dying
pub waits_live : (s : Scene) (k : Core) (a m : ℕ) (o : Option Event) → o ≡ waiting k a → (core_after s k o).dying m ≡ k.dying m
waits_live s k a m o e = rw e (by_tests (is_queued a k.queue) (is_first a k.queue && (k.word.held && not k.word.contended)))
  where
    by_tests : (b d : Bool) → (core_after s k (if b then (if d then Some (Mark a) else None) else Some (Queue a))).dying m ≡ k.dying m
    by_tests true true = refl
    by_tests true false = refl
    by_tests false d = refl

-- a server that can't take the word makes the event that is its turn by waiting
pub server_waits : (s : Scene) (k : Core) (o : Option Event) → k.world.made < length s.changes → (not k.word.held && is_next 0 k.queue) ≡ false → o ≡ waiting k 0 → o ≡ server_turn s k
server_waits s k o more shut e = let is_more : nat_lt k.world.made (length s.changes) ≡ true = grind (arith, nat_tests) in rw (is_more, shut) e
