-- Turns and kills make a run.
use Rattle.std.proofs.Common.{◌≡◌, ℕ, zero, suc, List, [], ◌∷◌, ◌++◌, map, Bool, true, false, Option, Some, None, arith, refl, sym, ap, ◌∙◌, inl, inr, subst}
use Rattle.std.specs.Prelude.{◌==◌, ◌⊎◌, ◌||◌}
use Rattle.std.proofs.lemmas.Bool.{true≢false}
use Rattle.std.proofs.Math.Bool.{or-true}
use Rattle.std.proofs.lemmas.Bool.Decides.{nat_tests}
use Rattle.dri_base.specs.declared.command.Item.{Item}
use Rattle.dri_base.specs.declared.command.Item.TheVariants.{Turn, Kill}
use Rattle.dri_base.specs.declared.journal.Event.{Event}
use Rattle.dri_base.specs.declared.journal.Event.TheVariants.{Stop, Gone}
use Rattle.dri_base.specs.declared.scene.ClientScript.{ClientScript}
use Rattle.dri_base.specs.declared.scene.Scene.{Scene}
use Rattle.dri_core.specs.Cores.{Core, opening_core}
use Rattle.dri_core.specs.CoreRuns.{after_events, LegalEvents, IsRun}
use Rattle.dri_core.specs.EventTable.{LegalEvent, after_event}
use Rattle.dri_core.specs.Phases.{is_holding, is_done}
use Rattle.dri_base.proofs.RangeLemmas.{IsWellFormed}
use Rattle.dri_base.specs.Scenes.{kills_in, is_named}
use Rattle.dri_core.specs.TurnLaws.{IsScheduled}
use Rattle.dri_core.specs.Turns.{kill, item_event, one_event, core_after, played, rounds, turns_and_rounds}
use Rattle.dri_core.proofs.OneTurn.{turns_are_legal}
use Rattle.dri_core.proofs.TurnEvents.{none_is, some_is}
use Rattle.dri_core.proofs.Going.{Going, going_start, going_on}

-- a kill that the schedule has is legal
pub kill_legal : (s : Scene) (k : Core) (c : ℕ) (e : Event) → is_named s c ≡ true → kill k c ≡ Some e → LegalEvent s k e
kill_legal s k c e named h = by_hold (is_holding (k.world.client c).phase) refl
  where
    gone : is_holding (k.world.client c).phase ≡ true → LegalEvent s k (Gone c)
    gone holds = inl (holds, inl named)

    stop : is_holding (k.world.client c).phase ≡ false → k.dying c ≡ false → is_done (k.world.client c).phase ≡ false → LegalEvent s k (Stop c)
    stop free live undone = (named, live, free, undone)

    by_life : is_holding (k.world.client c).phase ≡ false → (a b : Bool) → k.dying c ≡ a → is_done (k.world.client c).phase ≡ b → LegalEvent s k e
    by_life free false false live undone = subst (LegalEvent s k) (some_is (rw (free, live, undone) at h)) (stop free live undone)
    by_life free true b live undone = absurd (none_is (rw (free, live) at h))
    by_life free false true live undone = absurd (none_is (rw (free, live, undone) at h))

    by_hold : (b : Bool) → is_holding (k.world.client c).phase ≡ b → LegalEvent s k e
    by_hold true holds = subst (LegalEvent s k) (some_is (rw holds at h)) (gone holds)
    by_hold false free = by_life free (k.dying c) (is_done (k.world.client c).phase) refl refl

pub scheduled_tail : (s : Scene) (item : Item) (items : List Item) → IsScheduled s (item ∷ items) → IsScheduled s items
scheduled_tail s (Turn a) items all c e = all c e
scheduled_tail s (Kill d) items all c e = all c (rw e (or-true (d == c)))

pub item_legal : (s : Scene) (k : Core) (item : Item) (items : List Item) (e : Event) → IsWellFormed s → Going s k → IsScheduled s (item ∷ items) → item_event s k item ≡ Some e → LegalEvent s k e
item_legal s k (Turn a) items e good going all h = turns_are_legal s k good going.known a e h
item_legal s k (Kill c) items e good going all h = kill_legal s k c e (all c (rw same refl)) h
  where
    same : (c == c) ≡ true
    same = grind (arith, nat_tests)

-- what the items bring is legal, one after another
pub played_legal : (s : Scene) (k : Core) (items : List Item) → IsWellFormed s → Going s k → IsScheduled s items → LegalEvents s k (played s k items)
played_legal s k [] good going all = tt
played_legal s k (item ∷ items) good going all = by_event (item_event s k item) refl (λ m on. played_legal s m items good on (scheduled_tail s item items all))
  where
    by_event : (o : Option Event) → item_event s k item ≡ o → ((m : Core) → Going s m → LegalEvents s m (played s m items)) → LegalEvents s k (one_event o ++ played s (core_after s k o) items)
    by_event None h on = on k going
    by_event (Some e) h on = let legal = item_legal s k item items e good going all h in (legal, on (after_event s k e) (going_on s k e good going legal))

-- items after items
pub played_append : (s : Scene) (k : Core) (xs ys : List Item) → played s k (xs ++ ys) ≡ played s k xs ++ played s (after_events s k (played s k xs)) ys
played_append s k [] ys = refl
played_append s k (item ∷ xs) ys = by_event (item_event s k item) (λ m. played_append s m xs ys)
  where
    by_event : (o : Option Event) → ((m : Core) → played s m (xs ++ ys) ≡ played s m xs ++ played s (after_events s m (played s m xs)) ys) →
        one_event o ++ played s (core_after s k o) (xs ++ ys) ≡ (one_event o ++ played s (core_after s k o) xs) ++ played s (after_events s k (one_event o ++ played s (core_after s k o) xs)) ys
    by_event None on = on k
    by_event (Some e) on = ap (λ t. e ∷ t) (on (after_event s k e))

pub after_append : (s : Scene) (k : Core) (xs ys : List Event) → after_events s k (xs ++ ys) ≡ after_events s (after_events s k xs) ys
after_append s k [] ys = refl
after_append s k (e ∷ xs) ys = after_append s (after_event s k e) xs ys

-- the schedule and any number of rounds make a run
pub no_kills : (s : Scene) (n c : ℕ) → kills_in (rounds s n) c ≡ false
no_kills s zero c = refl
no_kills s (suc n) c = in_round s.clients (no_kills s n c)
  where
    in_round : (ps : List ClientScript) → kills_in (rounds s n) c ≡ false → kills_in ((map (λ p. Turn p.number) ps ++ Turn 0 ∷ []) ++ rounds s n) c ≡ false
    in_round [] none = none
    in_round (p ∷ ps) none = in_round ps none

pub kills_append : (xs ys : List Item) (c : ℕ) → kills_in (xs ++ ys) c ≡ true → (kills_in xs c ≡ true) ⊎ (kills_in ys c ≡ true)
kills_append [] ys c e = inr e
kills_append (Turn a ∷ xs) ys c e = kills_append xs ys c e
kills_append (Kill d ∷ xs) ys c e = by_name (d == c) refl (kills_append xs ys c)
  where
    by_name : (b : Bool) → (d == c) ≡ b → (kills_in (xs ++ ys) c ≡ true → (kills_in xs c ≡ true) ⊎ (kills_in ys c ≡ true)) → ((d == c) || kills_in xs c ≡ true) ⊎ (kills_in ys c ≡ true)
    by_name true n on = inl (rw n refl)
    by_name false n on = elim (on (rw n at e)) [ inl x ↦ inl (rw n x) | inr y ↦ inr y ]

pub scheduled : (s : Scene) (n : ℕ) → IsScheduled s (s.turns ++ rounds s n)
scheduled s n c e = elim (kills_append s.turns (rounds s n) c e) [ inl x ↦ x | inr y ↦ absurd (true≢false (sym y ∙ no_kills s n c)) ]

pub turns_are_run : (s : Scene) (n : ℕ) → IsWellFormed s → IsRun s (turns_and_rounds s n)
turns_are_run s n good = played_legal s (opening_core s) (s.turns ++ rounds s n) good (going_start s good) (scheduled s n)
