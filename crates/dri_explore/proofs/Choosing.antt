-- Each legal event comes by one of the choices, and all of these may be taken.
use Rattle.std.proofs.Common.{◌≡◌, ◌∙◌, ℕ, zero, suc, List, [], ◌∷◌, map, Bool, true, false, Some, None, arith, refl, sym, ap, subst, inl, inr}
use Rattle.std.specs.Prelude.{◌==◌, ◌⊎◌, All, Contains}
use Rattle.std.specs.List.{filter}
use Rattle.std.proofs.lemmas.Bool.{true≢false}
use Rattle.std.proofs.lemmas.Bool.Decides.{nat_tests}
use Rattle.std.proofs.lemmas.List.Elements.{All-append, All-filter, All-push, Contains-append_left, Contains-append_right, Contains-push}
use Rattle.std.proofs.lemmas.Option.{slice_get-get_or}
use Rattle.dri_base.specs.Ranges.{InRange, client_numbers}
use Rattle.dri_base.specs.Scenes.{commands_of, is_named, kills_in, script_in}
use Rattle.dri_base.specs.declared.command.Item.{Item}
use Rattle.dri_base.specs.declared.command.Item.TheVariants.{Kill, Turn}
use Rattle.dri_base.specs.declared.journal.Event.{Event}
use Rattle.dri_base.specs.declared.journal.Event.TheVariants.{Gone, Stop}
use Rattle.dri_base.specs.declared.scene.ClientScript.{ClientScript}
use Rattle.dri_base.specs.declared.scene.Scene.{Scene}
use Rattle.dri_base.proofs.RangeLemmas.{well_formed}
use Rattle.dri_core.specs.CoreRuns.{IsRun, after_events}
use Rattle.dri_core.specs.Cores.{Core, journal_of, opening_core}
use Rattle.dri_core.specs.EventTable.{LegalEvent}
use Rattle.dri_core.specs.Phases.{Ended, is_done}
use Rattle.dri_core.specs.TurnLaws.{ByKill, ByTurn, actor_of}
use Rattle.dri_core.specs.Turns.{item_event, phase_turn, round, turn}
use Rattle.dri_core.proofs.Cores.{journal_after, journal_is_hold_run}
use Rattle.dri_core.proofs.Lively.{Lively, lively_after}
use Rattle.dri_core.proofs.RunLaws.{kill_one, one_turn}
use Rattle.dri_core.proofs.TurnEvents.{known_after}
use Rattle.dri_explore.specs.Runs.{choices, is_kill}
use Rattle.dri_world.specs.Courses.{IsActor, MayTake}
use Rattle.dri_world.proofs.Rounding.{may_take}

contains_later : {X : Type 0} (x y : X) (xs : List X) → Contains xs y → Contains (x ∷ xs) y
contains_later x y xs (k, l, e) = (suc k, omega (arith, l), e)

-- a client of the scene, or one with no commands
there_or_idle : (ps : List ClientScript) (c : ℕ) → Contains (client_numbers ps) c ⊎ ((script_in ps c).commands ≡ [])
there_or_idle [] c = inr refl
there_or_idle (p ∷ ps) c = by_number (p.number == c) refl (there_or_idle ps c)
  where
    by_number : (b : Bool) → (p.number == c) ≡ b → Contains (client_numbers ps) c ⊎ ((script_in ps c).commands ≡ []) → Contains (client_numbers (p ∷ ps)) c ⊎ ((script_in (p ∷ ps) c).commands ≡ [])
    by_number true n rest = inl (0, omega arith, grind (arith, nat_tests, n))
    by_number false n (inl there) = inl (contains_later p.number c (client_numbers ps) there)
    by_number false n (inr idle) = inr (rw n idle)

-- what is known of the world that a run leaves
pub lively : (s : Scene) (events : List Event) → InRange s → IsRun s events → Lively s (after_events s (opening_core s) events).world
lively s events good run = subst (Lively s) (journal_after s events) (lively_after s (journal_of events) (well_formed s good) (journal_is_hold_run s events (well_formed s good) run))

-- a client that isn't the scene's has ended
idle_done : (s : Scene) (events : List Event) (c : ℕ) → InRange s → IsRun s events → commands_of s c ≡ [] → ((after_events s (opening_core s) events).world.client c).phase ≡ Ended
idle_done s events c good run idle = (lively s events good run).empty c idle

-- a client that is going on is the scene's
pub live_there : (s : Scene) (events : List Event) (c : ℕ) → InRange s → IsRun s events → is_done ((after_events s (opening_core s) events).world.client c).phase ≡ false → Contains (client_numbers s.clients) c
live_there s events c good run live = by_there (there_or_idle s.clients c)
  where
    by_there : Contains (client_numbers s.clients) c ⊎ (commands_of s c ≡ []) → Contains (client_numbers s.clients) c
    by_there (inl there) = there
    by_there (inr idle) = absurd (true≢false (sym (ap is_done (idle_done s events c good run idle)) ∙ live))

-- a client that is dying is the scene's
pub dying_there : (s : Scene) (events : List Event) (c : ℕ) → InRange s → IsRun s events → (after_events s (opening_core s) events).dying c ≡ true → Contains (client_numbers s.clients) c
dying_there s events c good run dying = live_there s events c good run ((known_after s events (well_formed s good) run).tied.dying c dying).1

none_some : {e : Event} → None ≡ Some e → ⊥
none_some h = grind arith

-- who makes an event by its turn is an actor of the scene
turns_there : (s : Scene) (events : List Event) (a : ℕ) (e : Event) → InRange s → IsRun s events → turn s (after_events s (opening_core s) events) a ≡ Some e → IsActor s a
turns_there s events zero e good run h = inl refl
turns_there s events (suc c) e good run h = by_there (there_or_idle s.clients (suc c))
  where
    k : Core
    k = after_events s (opening_core s) events

    by_dying : commands_of s (suc c) ≡ [] → (b : Bool) → k.dying (suc c) ≡ b → IsActor s (suc c)
    by_dying idle true d = inr (dying_there s events (suc c) good run d)
    by_dying idle false d =
        let ended = idle_done s events (suc c) good run idle in
        absurd (none_some (sym (ap (phase_turn s k (suc c)) ended) ∙ rw d at h))

    by_there : Contains (client_numbers s.clients) (suc c) ⊎ (commands_of s (suc c) ≡ []) → IsActor s (suc c)
    by_there (inl there) = inr there
    by_there (inr idle) = by_dying idle (k.dying (suc c)) refl

-- an event comes by a turn, or by a kill that the schedule has
by_turn_or_kill : (s : Scene) (k : Core) (e : Event) → LegalEvent s k e → ByTurn s k e ⊎ ((is_named s (actor_of e) ≡ true) × ByKill k e)
by_turn_or_kill s k (Stop c) legal = inr (legal.0, tt)
by_turn_or_kill s k (Gone c) (inl (holds, inl named)) = inr (named, holds)
by_turn_or_kill s k (Gone c) (inl (holds, inr dies)) = inl (inr dies)
by_turn_or_kill s k (Gone c) (inr dying) = inl (inl dying.0)
by_turn_or_kill s k _ legal = inl tt

-- an actor's turn and a kill are among the choices
turn_listed : (ps : List ClientScript) (c : ℕ) → Contains (client_numbers ps) c → Contains (map (λ p. Turn p.number) ps) (Turn c)
turn_listed [] c (k, l, e) = absurd (omega (arith, l))
turn_listed (p ∷ ps) c (zero, l, e) = (0, omega arith, ap Turn e)
turn_listed (p ∷ ps) c (suc k, l, e) = contains_later (Turn p.number) (Turn c) (map (λ p. Turn p.number) ps) (turn_listed ps c (k, omega (arith, l), e))

turn_chosen : (s : Scene) (a : ℕ) → IsActor s a → Contains (choices s) (Turn a)
turn_chosen s a (inl server) = Contains-append_left (round s) (filter is_kill s.turns) (Turn a) (subst (λ n. Contains (round s) (Turn n)) (sym server) (Contains-push (map (λ p. Turn p.number) s.clients) (Turn 0)))
turn_chosen s a (inr client) = Contains-append_left (round s) (filter is_kill s.turns) (Turn a) (Contains-append_left (map (λ p. Turn p.number) s.clients) (Turn 0 ∷ []) (Turn a) (turn_listed s.clients a client))

kill_listed : (items : List Item) (c : ℕ) → kills_in items c ≡ true → Contains (filter is_kill items) (Kill c)
kill_listed [] c e = absurd (true≢false (sym e))
kill_listed (Turn a ∷ items) c e = kill_listed items c e
kill_listed (Kill d ∷ items) c e = by_name (d == c) refl (kill_listed items c)
  where
    by_name : (b : Bool) → (d == c) ≡ b → (kills_in items c ≡ true → Contains (filter is_kill items) (Kill c)) → Contains (filter is_kill (Kill d ∷ items)) (Kill c)
    by_name true n rest = let same : d ≡ c = grind (arith, nat_tests, n) in (0, omega arith, ap Kill same)
    by_name false n rest = contains_later (Kill d) (Kill c) (filter is_kill items) (rest (rw n at e))

-- each legal event is what a choice makes
pub chosen : (s : Scene) (events : List Event) (e : Event) → InRange s → IsRun s events → LegalEvent s (after_events s (opening_core s) events) e → (item : Item) × Contains (choices s) item × (item_event s (after_events s (opening_core s) events) item ≡ Some e)
chosen s events e good run legal = by (by_turn_or_kill s (after_events s (opening_core s) events) e legal)
  where
    k : Core
    k = after_events s (opening_core s) events

    by : ByTurn s k e ⊎ ((is_named s (actor_of e) ≡ true) × ByKill k e) → (item : Item) × Contains (choices s) item × (item_event s k item ≡ Some e)
    by (inl turned) =
        let makes = one_turn s events good run e legal turned in
        (Turn (actor_of e), turn_chosen s (actor_of e) (turns_there s events (actor_of e) e good run makes), makes)
    by (inr (named, killed)) = (Kill (actor_of e), Contains-append_right (round s) (filter is_kill s.turns) (Kill (actor_of e)) (kill_listed s.turns (actor_of e) named), kill_one s events good run e legal killed)

-- each choice may be taken
turns_may : (s : Scene) (ps : List ClientScript) → ((c : ℕ) → Contains (client_numbers ps) c → Contains (client_numbers s.clients) c) → All (MayTake s) (map (λ p. Turn p.number) ps)
turns_may s [] inside k d l = absurd (omega (arith, l))
turns_may s (p ∷ ps) inside zero d l = inr (inside p.number (0, omega arith, refl))
turns_may s (p ∷ ps) inside (suc k) d l = turns_may s ps (λ c there. inside c (contains_later p.number c (client_numbers ps) there)) k d (omega (arith, l))

pub round_may : (s : Scene) → All (MayTake s) (round s)
round_may s = All-push (MayTake s) (map (λ p. Turn p.number) s.clients) (Turn 0) (turns_may s s.clients (λ c there. there)) (inl refl)

pub choices_may : (s : Scene) → InRange s → All (MayTake s) (choices s)
choices_may s good = All-append (MayTake s) (round s) (filter is_kill s.turns) (round_may s) (All-filter is_kill (MayTake s) s.turns (λ k d l. may_take s k _ good (slice_get-get_or s.turns k d l)))
