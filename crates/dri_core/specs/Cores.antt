-- The core: the world of a hold-run, with the lock word, the queue and the clients that are dying.
use Rattle.std.specs.List.{list_any}
use Rattle.std.specs.Prelude.{Bool, List, None, Option, Some, [], false, length, not, suc, true, zero, ℕ, ◌&&◌, ◌+◌, ◌==◌, ◌||◌, ◌∷◌, ◌≡◌, ◌≤◌, ◌⊎◌}
use Rattle.dri_base.specs.declared.journal.Entry.{Entry}
use Rattle.dri_base.specs.declared.journal.Event.{Event}
use Rattle.dri_base.specs.declared.journal.Event.TheVariants.{Change, Emit, Gone, Info, Kernel, LeaveKernel, LeaveLight, Light, Mark, Place, Queue, Run, Stale, Stop}
use Rattle.dri_base.specs.declared.scene.Scene.{Scene}
use Rattle.dri_core.specs.Phases.{is_out, wants_in}
use Rattle.dri_core.specs.Worlds.{World, opening}
use Rattle.dri_base.specs.declared.journal.Entry.TheVariants as Entry_is

-- the lock word: held, contended, and a context
pub record Word : Type 0 where
  pub held : Bool
  pub contended : Bool
  pub context : ℕ

-- the value of a bit, where it is set
abbrev pub bit_of : Bool → ℕ → ℕ
bit_of true value = value
bit_of false value = 0

-- the word as a number: bit 31 held, bit 30 contended, the rest the context
abbrev pub word_number : Word → ℕ
word_number w = bit_of w.held 0x80000000 + (bit_of w.contended 0x40000000 + w.context)

-- the world of the hold-run, with the word, the queue, and the clients that are dying
pub record Core : Type 0 where
  pub world : World
  pub word : Word
  -- the actors that wait, the first first; the server is 0
  pub queue : List ℕ
  pub dying : ℕ → Bool

-- what an event is in the journal
abbrev pub entry_of : Event → Option Entry
entry_of (Light c) = Some (Entry_is.Light c)
entry_of (Kernel c found) = Some (Entry_is.Kernel c found)
entry_of (Queue a) = None
entry_of (Mark a) = None
entry_of (Stale c) = Some (Entry_is.Stale c)
entry_of (Emit c groups) = Some (Entry_is.Emit c groups)
entry_of (Place c t first count) = Some (Entry_is.Place c t first count)
entry_of (Run c i) = Some (Entry_is.Run c i)
entry_of (LeaveLight c) = Some (Entry_is.Leave c)
entry_of (LeaveKernel c) = Some (Entry_is.Leave c)
entry_of (Info c) = Some (Entry_is.Info c)
entry_of (Change i) = Some (Entry_is.Change i)
entry_of (Stop c) = None
entry_of (Gone c) = Some (Entry_is.Gone c)

-- an entry, where there is one, and those after it
abbrev pub with_entry : Option Entry → List Entry → List Entry
with_entry None es = es
with_entry (Some e) es = e ∷ es

-- the journal of a run: its events without marks, queueing and stops
abbrev pub journal_of : List Event → List Entry
journal_of [] = []
journal_of (e ∷ es) = with_entry (entry_of e) (journal_of es)

-- the actor is the first in the queue, or nobody is in it
abbrev pub IsNext : ℕ → List ℕ → Type 0
IsNext a [] = Unit {0}
IsNext a (b ∷ bs) = b ≡ a

-- the actor is the first in the queue
abbrev pub IsFirst : ℕ → List ℕ → Type 0
IsFirst a [] = ⊥
IsFirst a (b ∷ bs) = b ≡ a

-- the client isn't dying
abbrev pub IsNotDying : Core → ℕ → Type 0
IsNotDying k c = k.dying c ≡ false

-- the actor is in the queue
abbrev pub is_queued : ℕ → List ℕ → Bool
is_queued a queue = list_any (λ b. b == a) queue

-- the actor is the first in the queue, or nobody is in it, as a test
abbrev pub is_next : ℕ → List ℕ → Bool
is_next a [] = true
is_next a (b ∷ bs) = b == a

-- the actor wants a hold: the server where a change is left, a client where it is dying, out or asking
abbrev pub Wants : Scene → Core → ℕ → Type 0
Wants s k zero = suc k.world.made ≤ length s.changes
Wants s k (suc c) = (k.dying (suc c) ≡ true) ⊎ (wants_in (k.world.client (suc c)).phase ≡ true)

-- the actor could take the word now: unheld, and nobody before it, or its own light lock
abbrev pub can_take : Core → ℕ → Bool
can_take k a =
    not k.word.held &&
    (is_next a k.queue || (not (k.dying a) && (is_out (k.world.client a).phase && (k.word.context == a + 1))))

-- the opening: word 1, an empty queue, nobody dying
abbrev pub opening_core : Scene → Core
opening_core s = record { world = opening s; word = record { held = false; contended = false; context = 1 }; queue = []; dying = λ c. false }

-- the actor is the first in the queue, as a test
abbrev pub is_first : ℕ → List ℕ → Bool
is_first a [] = false
is_first a (b ∷ bs) = b == a
