-- The table of events: where each is legal, and the core after it.
use Rattle.std.specs.Prelude.{Bool, List, None, Option, Some, [], false, filter, length, not, true, ℕ, ◌&&◌, ◌++◌, ◌+◌, ◌==◌, ◌||◌, ◌∷◌, ◌≡◌, ◌≢◌, ◌≤◌, ◌⊎◌}
use Rattle.dri_base.specs.declared.command.Command.TheVariants.{Die}
use Rattle.dri_base.specs.declared.journal.Entry.{Entry}
use Rattle.dri_base.specs.declared.journal.Event.{Event}
use Rattle.dri_base.specs.declared.journal.Event.TheVariants.{Change, Emit, Gone, Info, Kernel, LeaveKernel, LeaveLight, Light, Mark, Place, Queue, Run, Stale, Stop}
use Rattle.dri_base.specs.declared.scene.Scene.{Scene}
use Rattle.dri_core.specs.Cores.{Core, IsFirst, IsNext, can_take, Wants, Word, entry_of, is_queued, IsNotDying}
use Rattle.dri_core.specs.EntryTable.{LegalEntry, after_entry}
use Rattle.dri_core.specs.Phases.{Ask, Asking, In, Out, Over, is_done, is_holding}
use Rattle.dri_base.specs.Scenes.{command_at, is_named}
use Rattle.dri_core.specs.Worlds.{World}
use Rattle.dri_base.specs.declared.journal.Entry.TheVariants as Entry_is

-- where an event is legal
abbrev pub LegalEvent : Scene → Core → Event → Type 0
LegalEvent s k (Light c) = IsNotDying k c × ((k.world.client c).phase ≡ Out) × (k.word.held ≡ false) × (k.word.context ≡ c + 1)
LegalEvent s k (Kernel c found) =
    IsNotDying k c × ((k.world.client c).phase ≡ Out) × (k.word.held ≡ false) × (k.word.context ≡ found) × (found ≢ c + 1) × IsNext c k.queue
LegalEvent s k (Queue a) =
    Wants s k a × (is_queued a k.queue ≡ false) × (can_take k a ≡ false)
LegalEvent s k (Mark a) = IsFirst a k.queue × (k.word.held ≡ true) × (k.word.contended ≡ false)
LegalEvent s k (Stale c) = LegalEntry s k.world (Entry_is.Stale c)
LegalEvent s k (Emit c groups) = LegalEntry s k.world (Entry_is.Emit c groups)
LegalEvent s k (Place c t first count) = LegalEntry s k.world (Entry_is.Place c t first count)
LegalEvent s k (Run c i) = LegalEntry s k.world (Entry_is.Run c i)
LegalEvent s k (LeaveLight c) = (((k.world.client c).phase ≡ Over) ⊎ ((k.world.client c).phase ≡ Ask)) × (k.word.contended ≡ false)
LegalEvent s k (LeaveKernel c) = (((k.world.client c).phase ≡ Over) ⊎ ((k.world.client c).phase ≡ Ask)) × (k.word.contended ≡ true)
LegalEvent s k (Info c) = IsNotDying k c × ((k.world.client c).phase ≡ Asking) × (k.word.held ≡ false) × IsNext c k.queue
LegalEvent s k (Change i) = (k.word.held ≡ false) × (i ≡ k.world.made + 1) × (i ≤ length s.changes) × IsNext 0 k.queue
LegalEvent s k (Stop c) =
    (is_named s c ≡ true) × IsNotDying k c × (is_holding (k.world.client c).phase ≡ false) × (is_done (k.world.client c).phase ≡ false)
LegalEvent s k (Gone c) =
    ((is_holding (k.world.client c).phase ≡ true) × ((is_named s c ≡ true) ⊎ (((k.world.client c).phase ≡ In) × (command_at s c (k.world.client c).place ≡ Some Die)))) ⊎
    ((k.dying c ≡ true) × (k.word.held ≡ false) × IsNext c k.queue)

-- the word after the event
abbrev pub word_after : Word → Event → Word
word_after w (Light c) = record { held = true; contended = false; context = c + 1 }
word_after w (Kernel c found) = record { held = true; contended = false; context = c + 1 }
word_after w (Mark a) = record w { contended = true }
word_after w (LeaveLight c) = record { held = false; contended = false; context = c + 1 }
word_after w (LeaveKernel c) = record { held = false; contended = false; context = 0 }
word_after w (Info c) = record { held = false; contended = false; context = 1 }
word_after w (Change i) = record { held = false; contended = false; context = 1 }
word_after w (Gone c) = record { held = false; contended = false; context = 0 }
word_after w _ = w

-- the queue without an actor
abbrev pub leaves : ℕ → List ℕ → List ℕ
leaves a queue = filter (λ b. not (b == a)) queue

-- the queue after the event
abbrev pub queue_after : List ℕ → Event → List ℕ
queue_after q (Queue a) = q ++ a ∷ []
queue_after q (Kernel c found) = leaves c q
queue_after q (Info c) = leaves c q
queue_after q (Change i) = leaves 0 q
queue_after q (Stop c) = leaves c q
queue_after q (Gone c) = leaves c q
queue_after q _ = q

-- the dying clients after the event
abbrev pub dying_after : (ℕ → Bool) → Event → ℕ → Bool
dying_after f (Stop c) d = (d == c) || f d
dying_after f (Gone c) d = not (d == c) && f d
dying_after f _ d = f d

-- the world after an entry, where there is one
abbrev pub world_after : Scene → World → Option Entry → World
world_after s w None = w
world_after s w (Some e) = after_entry s w e

-- the core after the event
abbrev pub after_event : Scene → Core → Event → Core
after_event s k e = record {
  world = world_after s k.world (entry_of e);
  word = word_after k.word e;
  queue = queue_after k.queue e;
  dying = dying_after k.dying e;
}
