-- A run without kills has at most as many events as there was to do at the start, and so its journal isn't long.
use Rattle.std.proofs.Common.{◌≡◌, ◌<◌, ◌≤◌, ◌+◌, ◌*◌, ◌-◌, ℕ, List, [], ◌∷◌, ◌++◌, length, Bool, true, false, Option, Some, None, refl, ap, ◌∙◌, arith}
use Rattle.std.specs.Prelude.{◌&&◌, nat_lt, not}
use Rattle.std.specs.List.{sum_by}
use Rattle.std.proofs.Math.Nat.{mul-le-mul_left}
use Rattle.std.proofs.lemmas.Bool.{true≢false}
use Rattle.std.proofs.lemmas.List.{length-map}
use Rattle.std.proofs.lemmas.List.Sums.{sum_by-cons}
use Rattle.dri_base.specs.declared.command.Item.{Item}
use Rattle.dri_base.specs.declared.command.Item.TheVariants.{Turn, Kill}
use Rattle.dri_base.specs.declared.journal.Entry.{Entry}
use Rattle.dri_base.specs.declared.journal.Event.{Event}
use Rattle.dri_base.specs.declared.scene.Scene.{Scene}
use Rattle.dri_base.specs.Limits.{word_end}
use Rattle.dri_base.specs.Ranges.{InRange, client_numbers}
use Rattle.dri_base.specs.Scenes.{commands_of, kills_in}
use Rattle.dri_base.proofs.RangeLemmas.{IsWellFormed, well_formed}
use Rattle.dri_core.specs.Cores.{Core, entry_of, is_queued, journal_of, opening_core, with_entry}
use Rattle.dri_core.specs.CoreRuns.{after_events}
use Rattle.dri_core.specs.EventTable.{after_event}
use Rattle.dri_core.specs.Measures.{client_left, clients_left, has_to_wait, is_stale, one_if, part_left, phase_left, server_left, work_left}
use Rattle.dri_core.specs.Phases.{Phase, Out, Old, In, Over, Ask, Asking, Ended, Dead, is_done}
use Rattle.dri_core.specs.Privates.{is_ready}
use Rattle.dri_core.specs.Turns.{IsTurns, core_after, one_event, played, rounds, turn}
use Rattle.dri_model.specs.Groups.{is_empty}
use Rattle.dri_core.proofs.Bounds.{command_sum, few_clients}
use Rattle.dri_core.proofs.Going.{Going, going_on, going_start, turn_less}
use Rattle.dri_core.proofs.OneTurn.{turns_are_legal}
use Rattle.dri_core.proofs.Rounds.{no_kills}
use Rattle.dri_core.proofs.WorkParts.{one_bound}

-- each event of a turn leaves less to do
few_played : (s : Scene) (k : Core) (items : List Item) → IsWellFormed s → Going s k → ((c : ℕ) → kills_in items c ≡ false) → length (played s k items) + work_left s (after_events s k (played s k items)) ≤ work_left s k
few_played s k [] good going none = omega arith
few_played s k (Kill c ∷ items) good going none = absurd (true≢false (grind (arith, none c)))
few_played s k (Turn a ∷ items) good going none = by_event (turn s k a) refl (λ m on. few_played s m items good on none)
  where
    by_event : (o : Option Event) → turn s k a ≡ o → ((m : Core) → Going s m → length (played s m items) + work_left s (after_events s m (played s m items)) ≤ work_left s m) →
        length (one_event o ++ played s (core_after s k o) items) + work_left s (after_events s k (one_event o ++ played s (core_after s k o) items)) ≤ work_left s k
    by_event None h on = on k going
    by_event (Some e) h on =
        let less = turn_less s k good going a e h in
        let rest = on (after_event s k e) (going_on s k e good going (turns_are_legal s k good going.known a e h)) in
        omega (arith, less, rest)

phase_most : (p : Phase) → phase_left p ≤ 15
phase_most Out = omega arith
phase_most Old = omega arith
phase_most In = omega arith
phase_most Over = omega arith
phase_most Ask = omega arith
phase_most Asking = omega arith
phase_most Ended = omega arith
phase_most Dead = omega arith

once : (n : ℕ) (b : Bool) → n * one_if b ≤ n
once n true = omega arith
once n false = omega arith

part_most : (n commands : ℕ) (p : Phase) (stale missing dirty waits : Bool) → part_left n commands p stale missing dirty waits ≤ 20 * commands + (17 * n + 39)
part_most n commands p stale missing dirty waits =
    omega (arith, phase_most p, one_bound stale, one_bound missing, one_bound dirty, one_bound waits, once (17 * n + 4) (not (is_done p)))

client_most : (s : Scene) (k : Core) (n c : ℕ) → client_left s k n c ≤ 20 * (length (commands_of s c) + 1 - (k.world.client c).place) + (17 * n + 39)
client_most s k n c =
    part_most n (length (commands_of s c) + 1 - (k.world.client c).place) (k.world.client c).phase (is_stale s k.world c)
    (not (is_ready (k.world.client c))) (not (is_empty (k.world.client c).dirty)) (has_to_wait k c)

-- each summand is at most twenty times another, and x
sum_most : (f g : ℕ → ℕ) (ns : List ℕ) (x : ℕ) → ((d : ℕ) → g d ≤ 20 * f d + x) → sum_by g ns ≤ 20 * sum_by f ns + x * length ns
sum_most f g [] x all = omega arith
sum_most f g (n ∷ ns) x all = rw (sum_by-cons g, sum_by-cons f) (omega (arith, all n, sum_most f g ns x all))

-- what there is to do at the start
pub work_most : (s : Scene) → InRange s → work_left s (opening_core s) ≤ 5000000
work_most s good = omega (arith, clients, server, one_bound (not (opening_core s).word.contended))
  where
    few : length s.clients ≤ 32
    few = few_clients s good

    each : (c : ℕ) → client_left s (opening_core s) (length s.clients) c ≤ 20 * length (commands_of s c) + 583
    each c =
        let most : client_left s (opening_core s) (length s.clients) c ≤ 20 * (length (commands_of s c) + 1 - 1) + (17 * length s.clients + 39) = client_most s (opening_core s) (length s.clients) c in
        omega (arith, few, most)

    numbers : length (client_numbers s.clients) ≡ length s.clients
    numbers = length-map s.clients (λ p. p.number)

    clients : clients_left s (opening_core s) ≤ 2018656
    clients =
        let sums = sum_most (λ c. length (commands_of s c)) (client_left s (opening_core s) (length s.clients)) (client_numbers s.clients) 583 each in
        omega (arith, sums, command_sum s.clients good.scripted.rising, good.few, numbers, few)

    changes : (17 * length s.clients + 4) * (length s.changes - (opening_core s).world.made) ≤ 548 * 4096
    changes =
        let left : length s.changes - (opening_core s).world.made ≤ 4096 = omega (arith, good.changed.few) in
        let wide = mul-le-mul_left (17 * length s.clients + 4) left in
        let high : (17 * length s.clients + 4) * 4096 ≤ 548 * 4096 = omega (arith, few) in
        omega (arith, wide, high)

    server : server_left s (opening_core s) ≤ 548 * 4096 + 1
    server = omega (arith, changes, one_bound (nat_lt (opening_core s).world.made (length s.changes) && not (is_queued 0 (opening_core s).queue)))

-- a journal has at most an entry for each event
journal_most : (events : List Event) → length (journal_of events) ≤ length events
journal_most [] = omega arith
journal_most (e ∷ es) = by_entry (entry_of e) (journal_most es)
  where
    by_entry : (o : Option Entry) → length (journal_of es) ≤ length es → length (with_entry o (journal_of es)) ≤ length (e ∷ es)
    by_entry None most = omega (arith, most)
    by_entry (Some x) most = omega (arith, most)

-- so an entry's number fits a word
pub few_entries : (s : Scene) (events : List Event) → InRange s → s.turns ≡ [] → IsTurns s events → length (journal_of events) < word_end
few_entries s events good none turns =
    let played_all = few_played s (opening_core s) (rounds s turns.rounds) (well_formed s good) (going_start s (well_formed s good)) (no_kills s turns.rounds) in
    let made : events ≡ played s (opening_core s) (rounds s turns.rounds) = turns.made ∙ ap (λ items. played s (opening_core s) (items ++ rounds s turns.rounds)) none in
    omega (arith, journal_most events, ap length made, played_all, work_most s good)
