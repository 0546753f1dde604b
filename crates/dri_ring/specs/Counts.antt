-- What a journal's entries count of a ring: how many jobs wait, how many were put, and how often it was made idle.
use Rattle.std.specs.Prelude.{ℕ, ◌+◌, ◌-◌, ◌==◌, max, List, fold, if◌then◌else◌}
use Rattle.dri_base.specs.Scenes.{command_at}
use Rattle.dri_base.specs.declared.journal.Entry.{Entry}
use Rattle.dri_base.specs.declared.journal.Entry.TheVariants as Entry_is
use Rattle.dri_base.specs.declared.scene.Scene.{Scene}
use Rattle.dri_replay.specs.Makings.{uses_clips}

-- how many jobs wait; how many were put so far, how often a ring that wasn't empty was made idle, and the most that waited after a put
pub record Counts : Type 0 where
  pub pending : ℕ
  pub puts : ℕ
  pub idles : ℕ
  pub most : ℕ

-- nothing waits, and nothing was counted
abbrev pub nothing_put : Counts
nothing_put = record { pending = 0; puts = 0; idles = 0; most = 0 }

-- how many wait after a put, where there is room for so many: on a full ring one step is made before it
abbrev pub waiting_after : ℕ → ℕ → ℕ
waiting_after room pending = (if pending == room then pending - 1 else pending) + 1

-- after a put
abbrev pub put_once : ℕ → Counts → Counts
put_once room k = record { pending = waiting_after room k.pending; puts = k.puts + 1; idles = k.idles; most = max k.most (waiting_after room k.pending) }

-- once the ring was made idle, which is counted where it wasn't empty
abbrev pub idled : Counts → Counts
idled k = record k { pending = 0; idles = if k.pending == 0 then k.idles else k.idles + 1 }

-- after an entry: the run of a clear, a triangle or a swap puts, and a change of the windows or a death waits until the ring is idle
abbrev pub counts_after : Scene → ℕ → Counts → Entry → Counts
counts_after s room k (Entry_is.Run c i) = if uses_clips (command_at s c i) then put_once room k else k
counts_after s room k (Entry_is.Change i) = idled k
counts_after s room k (Entry_is.Gone c) = idled k
counts_after s room k _ = k

-- what a journal counts, in a ring in which so many may wait
abbrev pub ring_counts : Scene → ℕ → List Entry → Counts
ring_counts s room journal = fold (counts_after s room) nothing_put journal
