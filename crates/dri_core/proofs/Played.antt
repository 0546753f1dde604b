-- A run is what turns and kills of its events' actors make.
use Rattle.std.proofs.Common.{◌≡◌, ℕ, List, [], ◌∷◌, ◌++◌, map, Bool, true, Some, arith, refl, sym, ap, ◌∙◌, inl, inr}
use Rattle.std.specs.Prelude.{◌==◌}
use Rattle.std.proofs.lemmas.Bool.{true≢false}
use Rattle.std.proofs.lemmas.Bool.Decides.{nat_tests}
use Rattle.dri_base.specs.declared.command.Item.{Item}
use Rattle.dri_base.specs.declared.command.Item.TheVariants.{Turn, Kill}
use Rattle.dri_base.specs.declared.journal.Event.{Event}
use Rattle.dri_base.specs.declared.journal.Event.TheVariants.{Light, Kernel, Queue, Mark, Stale, Emit, Place, Run, LeaveLight, LeaveKernel, Info, Change, Stop, Gone}
use Rattle.dri_base.specs.declared.scene.Scene.{Scene}
use Rattle.dri_base.specs.Scenes.{is_named, kills_in}
use Rattle.dri_base.proofs.RangeLemmas.{IsWellFormed}
use Rattle.dri_core.specs.CoreRuns.{IsRun, LegalEvents}
use Rattle.dri_core.specs.Cores.{Core, opening_core}
use Rattle.dri_core.specs.EventTable.{LegalEvent, after_event}
use Rattle.dri_core.specs.Turns.{core_after, item_event, one_event, played}
use Rattle.dri_core.specs.TurnLaws.{ByKill, ByTurn, IsPlayed, IsScheduled, OneKill, actor_in, actor_of}
use Rattle.dri_core.proofs.Going.{going_start}
use Rattle.dri_core.proofs.OneTurn as OneTurn
use Rattle.dri_core.proofs.Rounds.{kills_append, played_legal}
use Rattle.dri_core.proofs.TurnEvents.{Known, known_start, known_step}

-- a kill makes its one legal event
pub one_kill : (s : Scene) (k : Core) → OneKill s k
one_kill s k (Stop c) possible by = rw (possible.2, possible.1, possible.3) refl
one_kill s k (Gone c) possible by = rw by refl
one_kill s k _ possible by = absurd by

-- a turn or a kill that makes the event
record Maker (s : Scene) (k : Core) (e : Event) : Type 0 where
  item : Item
  scheduled : IsScheduled s (item ∷ [])
  makes : item_event s k item ≡ Some e
  actor : actor_in item ≡ actor_of e

by_turn : (s : Scene) (k : Core) (e : Event) → IsWellFormed s → Known s k → LegalEvent s k e → ByTurn s k e → Maker s k e
by_turn s k e good known legal by = record { item = Turn (actor_of e); scheduled = λ c h. absurd (true≢false (sym h)); makes = OneTurn.one_event s k good known e legal by; actor = refl }

by_kill : (s : Scene) (k : Core) (e : Event) → is_named s (actor_of e) ≡ true → LegalEvent s k e → ByKill k e → Maker s k e
by_kill s k e named legal by = record { item = Kill (actor_of e); scheduled = λ c h. named_too c (actor_of e == c) refl h; makes = one_kill s k e legal by; actor = refl }
  where
    named_too : (c : ℕ) (b : Bool) → (actor_of e == c) ≡ b → kills_in (Kill (actor_of e) ∷ []) c ≡ true → is_named s c ≡ true
    named_too c b t h = let same : actor_of e ≡ c = grind (arith, nat_tests) in rw same at named

-- each legal event has one
maker : (s : Scene) (k : Core) (e : Event) → IsWellFormed s → Known s k → LegalEvent s k e → Maker s k e
maker s k (Stop c) good known legal = by_kill s k (Stop c) legal.0 legal tt
maker s k (Gone c) good known (inl (holds, inl named)) = by_kill s k (Gone c) named (inl (holds, inl named)) holds
maker s k (Gone c) good known (inl (holds, inr dies)) = by_turn s k (Gone c) good known (inl (holds, inr dies)) (inr dies)
maker s k (Gone c) good known (inr dying) = by_turn s k (Gone c) good known (inr dying) (inl dying.0)
maker s k (Light c) good known legal = by_turn s k (Light c) good known legal tt
maker s k (Kernel c found) good known legal = by_turn s k (Kernel c found) good known legal tt
maker s k (Queue a) good known legal = by_turn s k (Queue a) good known legal tt
maker s k (Mark a) good known legal = by_turn s k (Mark a) good known legal tt
maker s k (Stale c) good known legal = by_turn s k (Stale c) good known legal tt
maker s k (Emit c groups) good known legal = by_turn s k (Emit c groups) good known legal tt
maker s k (Place c t first count) good known legal = by_turn s k (Place c t first count) good known legal tt
maker s k (Run c i) good known legal = by_turn s k (Run c i) good known legal tt
maker s k (LeaveLight c) good known legal = by_turn s k (LeaveLight c) good known legal tt
maker s k (LeaveKernel c) good known legal = by_turn s k (LeaveKernel c) good known legal tt
maker s k (Info c) good known legal = by_turn s k (Info c) good known legal tt
maker s k (Change i) good known legal = by_turn s k (Change i) good known legal tt

-- the items that make the events from a core on
record Makers (s : Scene) (k : Core) (events : List Event) : Type 0 where
  items : List Item
  scheduled : IsScheduled s items
  made : events ≡ played s k items
  actors : map actor_in items ≡ map actor_of events

makers : (s : Scene) (k : Core) (events : List Event) → IsWellFormed s → Known s k → LegalEvents s k events → Makers s k events
makers s k [] good known all = record { items = []; scheduled = λ c h. absurd (true≢false (sym h)); made = refl; actors = refl }
makers s k (e ∷ es) good known all = on (maker s k e good known all.0) (makers s (after_event s k e) es good (known_step s k e good known all.0) all.1)
  where
    on : Maker s k e → Makers s (after_event s k e) es → Makers s k (e ∷ es)
    on one more = record {
      items = one.item ∷ more.items;
      scheduled = λ c h. elim (kills_append (one.item ∷ []) more.items c h) [ inl x ↦ one.scheduled c x | inr y ↦ more.scheduled c y ];
      made = ap (λ t. e ∷ t) more.made ∙ sym (ap (λ o. one_event o ++ played s (core_after s k o) more.items) one.makes);
      actors = (λ i. one.actor i ∷ more.actors i);
    }

-- every run is played
pub run_is_played : (s : Scene) (events : List Event) → IsWellFormed s → IsRun s events → IsPlayed s events
run_is_played s events good run =
    let found = makers s (opening_core s) events good (known_start s good) run in
    record { items = found.items; scheduled = found.scheduled; made = found.made; actors = found.actors }

-- and what is played is a run
pub played_is_run : (s : Scene) (items : List Item) → IsWellFormed s → IsScheduled s items → IsRun s (played s (opening_core s) items)
played_is_run s items good all = played_legal s (opening_core s) items good (going_start s good) all
