-- What is counted, one entry more; how high the counts rise; and which entries wait.
use Rattle.std.proofs.Common.{◌≡◌, ◌≤◌, ◌+◌, ◌==◌, ℕ, List, [], ◌∷◌, ◌++◌, length, Bool, true, false, if◌then◌else◌, Option, Some, None, refl, ◌∙◌, ap, arith}
use Rattle.std.specs.Prelude.{fold}
use Rattle.std.proofs.lemmas.Bool.{true≢false}
use Rattle.std.proofs.lemmas.List.Sums.{fold-append}
use Rattle.dri_base.specs.Scenes.{command_at}
use Rattle.dri_base.specs.declared.command.Command.{Command}
use Rattle.dri_base.specs.declared.command.Command.TheVariants as Command_is
use Rattle.dri_base.specs.declared.journal.Entry.{Entry}
use Rattle.dri_base.specs.declared.journal.Entry.TheVariants as Entry_is
use Rattle.dri_base.specs.declared.scene.Scene.{Scene}
use Rattle.dri_clips.specs.declared.touched.Touched.{Touched}
use Rattle.dri_core.specs.Worlds.{World}
use Rattle.dri_journal.specs.Deeds.{Does, deed_by}
use Rattle.dri_journal.specs.declared.deed.Deed.{Deed}
use Rattle.dri_journal.specs.declared.deed.Deed.TheVariants as Deed_is
use Rattle.dri_replay.specs.Makings.{uses_clips}
use Rattle.dri_ring.specs.Counts.{Counts, counts_after, idled, nothing_put, put_once, ring_counts}
use Rattle.dri_ring.specs.Follows.{FindsIdle, counted_made, waited, waits}
use Rattle.dri_ring.specs.Rings.{Ring}

-- one entry more
pub counts_more : (s : Scene) (room : ℕ) (j : List Entry) (e : Entry) → ring_counts s room (j ++ e ∷ []) ≡ counts_after s room (ring_counts s room j) e
counts_more s room j e = fold-append (counts_after s room) nothing_put j (e ∷ [])

-- what the deed of a command counts
by_command : (room : ℕ) (o : Option Command) (k : Counts) → counted_made room (deed_by o) k ≡ (if uses_clips o then put_once room k else k)
by_command room None k = refl
by_command room (Some (Command_is.Clear colour depth)) k = refl
by_command room (Some (Command_is.Triangle t)) k = refl
by_command room (Some Command_is.Swap) k = refl
by_command room (Some Command_is.Yield) k = refl
by_command room (Some Command_is.Die) k = refl
by_command room (Some (Command_is.Set setting)) k = refl

nothing_counts : (room : ℕ) (deed : Deed) (k : Counts) → deed ≡ Deed_is.Nothing → counted_made room deed k ≡ k
nothing_counts room deed k is = ap (λ d. counted_made room d k) is

-- the deed is a new stack's
abbrev is_touched : Deed → Bool
is_touched (Deed_is.Touched touched) = true
is_touched Deed_is.Nothing = false
is_touched (Deed_is.Clear colour depth) = false
is_touched (Deed_is.Triangle t) = false
is_touched Deed_is.Swap = false

module _ (s : Scene) (w : World) (room : ℕ) where
  -- waiting first, and then the deed, count what the entry counts
  pub counts_lifted : (e : Entry) (deed : Deed) (k : Counts) → Does s w e deed → counted_made room deed (waited e k) ≡ counts_after s room k e
  counts_lifted (Entry_is.Run c i) deed k does = ap (λ d. counted_made room d k) does ∙ by_command room (command_at s c i) k
  counts_lifted (Entry_is.Change i) (Deed_is.Touched touched) k does = refl
  counts_lifted (Entry_is.Change i) Deed_is.Nothing k does = refl
  counts_lifted (Entry_is.Change i) (Deed_is.Clear colour depth) k does = absurd does
  counts_lifted (Entry_is.Change i) (Deed_is.Triangle t) k does = absurd does
  counts_lifted (Entry_is.Change i) Deed_is.Swap k does = absurd does
  counts_lifted (Entry_is.Gone c) (Deed_is.Touched touched) k does = refl
  counts_lifted (Entry_is.Gone c) Deed_is.Nothing k does = refl
  counts_lifted (Entry_is.Gone c) (Deed_is.Clear colour depth) k does = absurd does
  counts_lifted (Entry_is.Gone c) (Deed_is.Triangle t) k does = absurd does
  counts_lifted (Entry_is.Gone c) Deed_is.Swap k does = absurd does
  counts_lifted (Entry_is.Light c) deed k does = nothing_counts room deed k does
  counts_lifted (Entry_is.Kernel c found) deed k does = nothing_counts room deed k does
  counts_lifted (Entry_is.Stale c) deed k does = nothing_counts room deed k does
  counts_lifted (Entry_is.Emit c groups) deed k does = nothing_counts room deed k does
  counts_lifted (Entry_is.Place c t first count) deed k does = nothing_counts room deed k does
  counts_lifted (Entry_is.Leave c) deed k does = nothing_counts room deed k does
  counts_lifted (Entry_is.Info c) deed k does = nothing_counts room deed k does

  not_by_command : (o : Option Command) → is_touched (deed_by o) ≡ false
  not_by_command None = refl
  not_by_command (Some (Command_is.Clear colour depth)) = refl
  not_by_command (Some (Command_is.Triangle t)) = refl
  not_by_command (Some Command_is.Swap) = refl
  not_by_command (Some Command_is.Yield) = refl
  not_by_command (Some Command_is.Die) = refl
  not_by_command (Some (Command_is.Set setting)) = refl

  never : (touched : Touched) → Deed_is.Touched touched ≡ Deed_is.Nothing → ⊥
  never touched is = true≢false (ap is_touched is)

  -- only an entry that waits brings a new stack
  touches_waits : (e : Entry) (touched : Touched) → Does s w e (Deed_is.Touched touched) → waits e ≡ true
  touches_waits (Entry_is.Change i) touched does = refl
  touches_waits (Entry_is.Gone c) touched does = refl
  touches_waits (Entry_is.Run c i) touched does = absurd (true≢false (ap is_touched does ∙ not_by_command (command_at s c i)))
  touches_waits (Entry_is.Light c) touched does = absurd (never touched does)
  touches_waits (Entry_is.Kernel c found) touched does = absurd (never touched does)
  touches_waits (Entry_is.Stale c) touched does = absurd (never touched does)
  touches_waits (Entry_is.Emit c groups) touched does = absurd (never touched does)
  touches_waits (Entry_is.Place c t first count) touched does = absurd (never touched does)
  touches_waits (Entry_is.Leave c) touched does = absurd (never touched does)
  touches_waits (Entry_is.Info c) touched does = absurd (never touched does)

  pub finds_idle : (e : Entry) (deed : Deed) (v : Ring) → Does s w e deed → (waits e ≡ true → v.pending ≡ []) → FindsIdle deed v
  finds_idle e (Deed_is.Touched touched) v does idle = idle (touches_waits e touched does)
  finds_idle e Deed_is.Nothing v does idle = tt
  finds_idle e (Deed_is.Clear colour depth) v does idle = tt
  finds_idle e (Deed_is.Triangle t) v does idle = tt
  finds_idle e Deed_is.Swap v does idle = tt

-- waiting puts nothing
pub waited_puts : (e : Entry) (k : Counts) → (waited e k).puts ≡ k.puts
waited_puts (Entry_is.Run c i) k = refl
waited_puts (Entry_is.Change i) k = refl
waited_puts (Entry_is.Gone c) k = refl
waited_puts (Entry_is.Light c) k = refl
waited_puts (Entry_is.Kernel c found) k = refl
waited_puts (Entry_is.Stale c) k = refl
waited_puts (Entry_is.Emit c groups) k = refl
waited_puts (Entry_is.Place c t first count) k = refl
waited_puts (Entry_is.Leave c) k = refl
waited_puts (Entry_is.Info c) k = refl

-- no count rises by more than the number of entries
record IsFew (k l : Counts) (n : ℕ) : Type 0 where
  pub puts : l.puts ≤ k.puts + n
  pub idles : l.idles ≤ k.idles + n

same_few : (k : Counts) → IsFew k k 1
same_few k = record { puts = omega arith; idles = omega arith }

put_few : (room : ℕ) (k : Counts) (b : Bool) → IsFew k (if b then put_once room k else k) 1
put_few room k true = record { puts = omega arith; idles = omega arith }
put_few room k false = same_few k

idled_few : (k : Counts) → IsFew k (idled k) 1
idled_few k = record { puts = omega arith; idles = by (k.pending == 0) }
  where
    by : (b : Bool) → (if b then k.idles else k.idles + 1) ≤ k.idles + 1
    by true = omega arith
    by false = omega arith

one_few : (s : Scene) (room : ℕ) (k : Counts) (e : Entry) → IsFew k (counts_after s room k e) 1
one_few s room k (Entry_is.Run c i) = put_few room k (uses_clips (command_at s c i))
one_few s room k (Entry_is.Change i) = idled_few k
one_few s room k (Entry_is.Gone c) = idled_few k
one_few s room k (Entry_is.Light c) = same_few k
one_few s room k (Entry_is.Kernel c found) = same_few k
one_few s room k (Entry_is.Stale c) = same_few k
one_few s room k (Entry_is.Emit c groups) = same_few k
one_few s room k (Entry_is.Place c t first count) = same_few k
one_few s room k (Entry_is.Leave c) = same_few k
one_few s room k (Entry_is.Info c) = same_few k

few_from : (s : Scene) (room : ℕ) (k : Counts) (es : List Entry) → IsFew k (fold (counts_after s room) k es) (length es)
few_from s room k [] = record { puts = omega arith; idles = omega arith }
few_from s room k (e ∷ es) =
    let first = one_few s room k e in
    let rest = few_from s room (counts_after s room k e) es in
    record { puts = omega (arith, first.puts, rest.puts); idles = omega (arith, first.idles, rest.idles) }

pub few_counted : (s : Scene) (room : ℕ) (j : List Entry) → ((ring_counts s room j).puts ≤ length j) × ((ring_counts s room j).idles ≤ length j)
few_counted s room j = let few = few_from s room nothing_put j in (omega (arith, few.puts), omega (arith, few.idles))
