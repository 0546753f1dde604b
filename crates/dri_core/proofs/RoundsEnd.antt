-- Rounds come to an end.
use Rattle.std.proofs.Common.{◌≡◌, ◌<◌, ◌≤◌, ◌+◌, ◌-◌, ℕ, zero, suc, List, [], ◌∷◌, ◌++◌, map, Bool, true, false, Option, Some, None, arith, refl, sym, ap, ◌∙◌, subst}
use Rattle.std.specs.Prelude.{◌&&◌, is_none, nat_le}
use Rattle.std.proofs.lemmas.Bool.{true≢false}
use Rattle.std.proofs.lemmas.Bool.Decides.{nat_tests}
use Rattle.dri_base.specs.declared.command.Item.{Item}
use Rattle.dri_base.specs.declared.command.Item.TheVariants.{Turn, Kill}
use Rattle.dri_base.specs.declared.journal.Event.{Event}
use Rattle.dri_base.specs.declared.scene.ClientScript.{ClientScript}
use Rattle.dri_base.specs.declared.scene.Scene.{Scene}
use Rattle.dri_core.specs.Cores.{Core, opening_core}
use Rattle.dri_core.specs.CoreRuns.{after_events}
use Rattle.dri_core.specs.EventTable.{after_event}
use Rattle.dri_core.specs.Measures.{work_left, ComesToAnEnd}
use Rattle.dri_base.proofs.RangeLemmas.{IsWellFormed}
use Rattle.dri_base.specs.Scenes.{kills_in}
use Rattle.dri_core.specs.Turns.{IsTurns, turn, item_event, one_event, core_after, played, round, rounds, all_pass, turns_and_rounds}
use Rattle.dri_core.proofs.OneTurn.{turns_are_legal}
use Rattle.dri_core.proofs.Going.{Going, going_start, going_on, going_along, turn_less}
use Rattle.dri_core.proofs.Rounds.{played_legal, played_append, after_append}

-- turns leave no more to do than there was, and less where one isn't passed over
pub turns_less : (s : Scene) (k : Core) (items : List Item) → IsWellFormed s → Going s k → ((c : ℕ) → kills_in items c ≡ false) → (work_left s (after_events s k (played s k items)) ≤ work_left s k) × (all_pass s k items ≡ false → work_left s (after_events s k (played s k items)) < work_left s k)
turns_less s k [] good going none = (omega arith, λ e. absurd (true≢false e))
turns_less s k (Kill c ∷ items) good going none = absurd (true≢false (grind (arith, nat_tests, none c)))
turns_less s k (Turn a ∷ items) good going none = by_event (turn s k a) refl (λ m on. turns_less s m items good on none)
  where
    by_event : (o : Option Event) → turn s k a ≡ o → ((m : Core) → Going s m → (work_left s (after_events s m (played s m items)) ≤ work_left s m) × (all_pass s m items ≡ false → work_left s (after_events s m (played s m items)) < work_left s m)) →
        (work_left s (after_events s k (one_event o ++ played s (core_after s k o) items)) ≤ work_left s k) × ((is_none o && all_pass s k items) ≡ false → work_left s (after_events s k (one_event o ++ played s (core_after s k o) items)) < work_left s k)
    by_event None h on = on k going
    by_event (Some e) h on =
        let legal = turns_are_legal s k good going.known a e h in
        let less_now = turn_less s k good going a e h in
        let rest = (on (after_event s k e) (going_on s k e good going legal)).0 in
        (omega (arith, less_now, rest), λ x. omega (arith, less_now, rest))

pub round_kills : (s : Scene) (c : ℕ) → kills_in (round s) c ≡ false
round_kills s c = in_round s.clients
  where
    in_round : (ps : List ClientScript) → kills_in (map (λ p. Turn p.number) ps ++ Turn 0 ∷ []) c ≡ false
    in_round [] = refl
    in_round (p ∷ ps) = in_round ps

-- after some number of rounds every turn is passed over
pub rounds_end : (s : Scene) (k : Core) (fuel : ℕ) → IsWellFormed s → Going s k → work_left s k ≤ fuel → (n : ℕ) × (all_pass s (after_events s k (played s k (rounds s n))) (round s) ≡ true)
rounds_end s k zero good going le = by_pass (all_pass s k (round s)) refl
  where
    by_pass : (b : Bool) → all_pass s k (round s) ≡ b → (n : ℕ) × (all_pass s (after_events s k (played s k (rounds s n))) (round s) ≡ true)
    by_pass true h = (0, h)
    by_pass false h = absurd (let down = (turns_less s k (round s) good going (round_kills s)).1 h in omega (arith, down, le))
rounds_end s k (suc fuel) good going le = by_pass (all_pass s k (round s)) refl (λ m on l. rounds_end s m fuel good on l)
  where
    round_on : Going s (after_events s k (played s k (round s)))
    round_on = going_along s k (played s k (round s)) good going (played_legal s k (round s) good going (λ c e. absurd (true≢false (sym e ∙ round_kills s c))))

    more : (n : ℕ) → all_pass s (after_events s (after_events s k (played s k (round s))) (played s (after_events s k (played s k (round s))) (rounds s n))) (round s) ≡ true →
        all_pass s (after_events s k (played s k (rounds s (suc n)))) (round s) ≡ true
    more n e = rw (played_append s k (round s) (rounds s n), after_append s k (played s k (round s)) (played s (after_events s k (played s k (round s))) (rounds s n))) e

    by_pass : (b : Bool) → all_pass s k (round s) ≡ b → ((m : Core) → Going s m → work_left s m ≤ fuel → (n : ℕ) × (all_pass s (after_events s m (played s m (rounds s n))) (round s) ≡ true)) →
        (n : ℕ) × (all_pass s (after_events s k (played s k (rounds s n))) (round s) ≡ true)
    by_pass true h on = (0, h)
    by_pass false h on =
        let down = (turns_less s k (round s) good going (round_kills s)).1 h in
        let r = on (after_events s k (played s k (round s))) round_on (omega (arith, down, le)) in
        (suc r.0, more r.0 r.1)

pub comes_to_an_end : (s : Scene) → IsWellFormed s → ComesToAnEnd s
comes_to_an_end s good = record { rounds = r.0; ended = rw (played_append s (opening_core s) s.turns (rounds s r.0), after_append s (opening_core s) first (played s (after_events s (opening_core s) first) (rounds s r.0))) r.1 }
  where
    first : List Event
    first = played s (opening_core s) s.turns

    going : Going s (after_events s (opening_core s) first)
    going = going_along s (opening_core s) first good (going_start s good) (played_legal s (opening_core s) s.turns good (going_start s good) (λ c e. e))

    r : (n : ℕ) × (all_pass s (after_events s (after_events s (opening_core s) first) (played s (after_events s (opening_core s) first) (rounds s n))) (round s) ≡ true)
    r = rounds_end s (after_events s (opening_core s) first) (work_left s (after_events s (opening_core s) first)) good going (omega arith)

-- where every turn is passed over, more rounds bring nothing
pub pass_nothing : (s : Scene) (k : Core) (items : List Item) → all_pass s k items ≡ true → played s k items ≡ []
pass_nothing s k [] e = refl
pass_nothing s k (item ∷ items) e = by_event (item_event s k item) e (pass_nothing s k items)
  where
    by_event : (o : Option Event) → (is_none o && all_pass s k items) ≡ true → (all_pass s k items ≡ true → played s k items ≡ []) → one_event o ++ played s (core_after s k o) items ≡ []
    by_event None h on = on h
    by_event (Some x) h on = absurd (true≢false (sym h))

pub rounds_nothing : (s : Scene) (k : Core) (n : ℕ) → all_pass s k (round s) ≡ true → played s k (rounds s n) ≡ []
rounds_nothing s k zero e = refl
rounds_nothing s k (suc n) e = rw (played_append s k (round s) (rounds s n), pass_nothing s k (round s) e) (rounds_nothing s k n e)

pub append_twice : (xs ys zs : List Item) → (xs ++ ys) ++ zs ≡ xs ++ (ys ++ zs)
append_twice [] ys zs = refl
append_twice (x ∷ xs) ys zs = ap (λ t. x ∷ t) (append_twice xs ys zs)

pub more_rounds : (s : Scene) (n d : ℕ) → rounds s (n + d) ≡ rounds s n ++ rounds s d
more_rounds s zero d = let e : 0 + d ≡ d = omega arith in ap (rounds s) e
more_rounds s (suc n) d = let e : suc n + d ≡ suc (n + d) = omega arith in
    ap (rounds s) e ∙ ap (λ t. round s ++ t) (more_rounds s n d) ∙ sym (append_twice (round s) (rounds s n) (rounds s d))

pub append_nothing : (xs : List Event) → xs ++ [] ≡ xs
append_nothing [] = refl
append_nothing (x ∷ xs) = ap (λ t. x ∷ t) (append_nothing xs)

pub no_more_after : (s : Scene) (n d : ℕ) → all_pass s (after_events s (opening_core s) (turns_and_rounds s n)) (round s) ≡ true → turns_and_rounds s (n + d) ≡ turns_and_rounds s n
no_more_after s n d e =
    ap (λ t. played s (opening_core s) (s.turns ++ t)) (more_rounds s n d) ∙
    ap (played s (opening_core s)) (sym (append_twice s.turns (rounds s n) (rounds s d))) ∙
    played_append s (opening_core s) (s.turns ++ rounds s n) (rounds s d) ∙
    ap (λ t. turns_and_rounds s n ++ t) (rounds_nothing s (after_events s (opening_core s) (turns_and_rounds s n)) d e) ∙
    append_nothing (turns_and_rounds s n)

-- so there is one such run
pub one_run : (s : Scene) (a b : List Event) → IsTurns s a → IsTurns s b → a ≡ b
one_run s a b x y = by_order (nat_le x.rounds y.rounds) refl
  where
    below : (a b : List Event) (x : IsTurns s a) (y : IsTurns s b) → x.rounds ≤ y.rounds → a ≡ b
    below a b x y le =
        let ended : all_pass s (after_events s (opening_core s) (turns_and_rounds s x.rounds)) (round s) ≡ true = subst (λ t. all_pass s (after_events s (opening_core s) t) (round s) ≡ true) x.made x.ended in
        let e : x.rounds + (y.rounds - x.rounds) ≡ y.rounds = omega (arith, le) in
        x.made ∙ sym (no_more_after s x.rounds (y.rounds - x.rounds) ended) ∙ ap (turns_and_rounds s) e ∙ sym y.made

    by_order : (o : Bool) → nat_le x.rounds y.rounds ≡ o → a ≡ b
    by_order true e = below a b x y (grind (arith, nat_tests))
    by_order false e = sym (below b a y x (grind (arith, nat_tests)))
