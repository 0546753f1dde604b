-- Turns one after another: rounds, and what they leave to do.
use Rattle.std.proofs.Common.{◌≡◌, ◌≤◌, ◌+◌, ℕ, zero, suc, List, [], ◌∷◌, ◌++◌, map, take, length, Bool, true, false, Option, Some, None, arith, refl, sym, ap, ◌∙◌, subst}
use Rattle.std.specs.Prelude.{◌↔◌, ◌==◌, ◌&&◌, ◌||◌, is_none, slice_get}
use Rattle.std.proofs.lemmas.Bool.{true≢false}
use Rattle.std.proofs.lemmas.Bool.Decides.{nat_tests}
use Rattle.std.proofs.lemmas.List.{append-nil, take_more}
use Rattle.std.proofs.lemmas.Option.{get_or_from_slice_get, slice_get_within, same_Some}
use Rattle.dri_base.specs.Ranges.{InRange, ItemInRange, client_numbers}
use Rattle.dri_base.specs.Scenes.{kills_in}
use Rattle.dri_base.specs.declared.command.Item.{Item}
use Rattle.dri_base.specs.declared.command.Item.TheVariants.{Kill, Turn}
use Rattle.dri_base.specs.declared.journal.Event.{Event}
use Rattle.dri_base.specs.declared.scene.ClientScript.{ClientScript}
use Rattle.dri_base.specs.declared.scene.Scene.{Scene}
use Rattle.dri_base.proofs.RangeLemmas.{well_formed}
use Rattle.dri_core.specs.CoreRuns.{after_events}
use Rattle.dri_core.specs.Cores.{Core, journal_of, opening_core}
use Rattle.dri_core.specs.Measures.{work_left}
use Rattle.dri_core.specs.Runs.{Whole}
use Rattle.dri_core.specs.Turns.{all_pass, core_after, item_event, one_event, played, round, rounds, turn}
use Rattle.dri_core.proofs.Going.{Going, going_after, turn_less}
use Rattle.dri_core.proofs.Rounds.{after_append, played_append}
use Rattle.dri_core.proofs.RoundsEnd.{more_rounds}
use Rattle.dri_core.proofs.RunLaws.{whole_where_passed}
use Rattle.dri_world.specs.Courses.{Course, GoesOn, IsPlayedIn, IsPlayedOn, IsSound, LeavesLess, MayTake, core_of, is_move, turned}
use Rattle.dri_driver.specs.Clients.{ClientState}
use Rattle.dri_world.specs.Holding.{IsHeld}
use Rattle.dri_world.specs.declared.site.Site.{Site}
use Rattle.dri_world.specs.declared.turned.Turned.{Turned}

-- the core after more events
pub core_on : (old new : Course) (more : List Event) → GoesOn old new more → core_of new ≡ after_events old.scene (core_of old) more
core_on old new more on = rw (on.scene, on.events) (after_append old.scene (opening_core old.scene) old.events more)

-- more events after more events
append_three : (xs ys zs : List Event) → (xs ++ ys) ++ zs ≡ xs ++ (ys ++ zs)
append_three [] ys zs = refl
append_three (x ∷ xs) ys zs = ap (λ t. x ∷ t) (append_three xs ys zs)

pub goes_on_on : (a b c : Course) (xs ys : List Event) → GoesOn a b xs → GoesOn b c ys → GoesOn a c (xs ++ ys)
goes_on_on a b c xs ys first second = record {
  scene = second.scene ∙ first.scene;
  events = second.events ∙ ap (λ t. t ++ ys) first.events ∙ append_three a.events xs ys;
}

take_one : (items : List Item) (i : ℕ) (item : Item) → slice_get items i ≡ Some item → take (i + 1) items ≡ take i items ++ item ∷ []
take_one items i item at_i =
    take_more items i item (slice_get_within items i item at_i) ∙ ap (λ t. take i items ++ t ∷ []) (get_or_from_slice_get items i item item at_i)

-- one item after so many items
pub item_on : (old now new : Course) (items : List Item) (i : ℕ) (item : Item) → slice_get items i ≡ Some item → GoesOn old now (played old.scene (core_of old) (take i items)) →
    GoesOn now new (one_event (item_event now.scene (core_of now) item)) → GoesOn old new (played old.scene (core_of old) (take (i + 1) items))
item_on old now new items i item at_i first second =
    subst (GoesOn old new) (sym more) (goes_on_on old now new (played old.scene (core_of old) (take i items)) (one_event (item_event old.scene (after_events old.scene (core_of old) (played old.scene (core_of old) (take i items))) item)) first
    (subst (λ e. GoesOn now new (one_event e)) (ap (λ t. item_event t (core_of now) item) first.scene ∙ ap (λ k. item_event old.scene k item) (core_on old now (played old.scene (core_of old) (take i items)) first)) second))
  where
    more : played old.scene (core_of old) (take (i + 1) items) ≡ played old.scene (core_of old) (take i items) ++ one_event (item_event old.scene (after_events old.scene (core_of old) (played old.scene (core_of old) (take i items))) item)
    more = ap (played old.scene (core_of old)) (take_one items i item at_i)
        ∙ played_append old.scene (core_of old) (take i items) (item ∷ [])
        ∙ ap (λ t. played old.scene (core_of old) (take i items) ++ t) (append-nil (one_event (item_event old.scene (after_events old.scene (core_of old) (played old.scene (core_of old) (take i items))) item)))

-- one turn after so many items
pub turn_on : (old now new : Course) (items : List Item) (i a : ℕ) → slice_get items i ≡ Some (Turn a) → GoesOn old now (played old.scene (core_of old) (take i items)) →
    GoesOn now new (one_event (turn now.scene (core_of now) a)) → GoesOn old new (played old.scene (core_of old) (take (i + 1) items))
turn_on old now new items i a at_i first second = item_on old now new items i (Turn a) at_i first second

-- whether an event was made
pub moves_on : (b : Bool) (o : Option Event) (more : List Event) → ((b ≡ false) ↔ (more ≡ [])) → ((b || is_move (turned o)) ≡ false) ↔ (more ++ one_event o ≡ [])
moves_on true None more was = (λ e. absurd (true≢false e), λ e. absurd (true≢false (was.1 (sym (append-nil more) ∙ e))))
moves_on false None more was = (λ e. append-nil more ∙ was.0 refl, λ e. refl)
moves_on true (Some x) more was = (λ e. absurd (true≢false e), λ e. absurd (not_empty more e))
  where
    not_empty : (xs : List Event) → xs ++ x ∷ [] ≡ [] → ⊥
    not_empty [] h = cc
    not_empty (y ∷ ys) h = cc
moves_on false (Some x) more was = (λ e. absurd (true≢false e), λ e. absurd (not_empty more e))
  where
    not_empty : (xs : List Event) → xs ++ x ∷ [] ≡ [] → ⊥
    not_empty [] h = cc
    not_empty (y ∷ ys) h = cc

-- whether an event was made, after one turn more
pub moves_step : (old now : Course) (items : List Item) (i a : ℕ) (b b' : Bool) (t : Turned) → slice_get items i ≡ Some (Turn a) → GoesOn old now (played old.scene (core_of old) (take i items)) →
    ((b ≡ false) ↔ (played old.scene (core_of old) (take i items) ≡ [])) → t ≡ turned (turn now.scene (core_of now) a) → b' ≡ (b || is_move t) → (b' ≡ false) ↔ (played old.scene (core_of old) (take (i + 1) items) ≡ [])
moves_step old now items i a b b' t at_i first was tells is =
    subst (λ x. (x ≡ false) ↔ (played old.scene (core_of old) (take (i + 1) items) ≡ [])) (sym (is ∙ ap (λ u. b || is_move u) tells))
    (subst (λ es. ((b || is_move (turned (turn now.scene (core_of now) a))) ≡ false) ↔ (es ≡ [])) (sym more) (moves_on b (turn now.scene (core_of now) a) (played old.scene (core_of old) (take i items)) was))
  where
    same : turn old.scene (after_events old.scene (core_of old) (played old.scene (core_of old) (take i items))) a ≡ turn now.scene (core_of now) a
    same = sym (ap (λ t. turn t (core_of now) a) first.scene ∙ ap (λ k. turn old.scene k a) (core_on old now (played old.scene (core_of old) (take i items)) first))

    more : played old.scene (core_of old) (take (i + 1) items) ≡ played old.scene (core_of old) (take i items) ++ one_event (turn now.scene (core_of now) a)
    more = ap (played old.scene (core_of old)) (take_one items i (Turn a) at_i)
        ∙ played_append old.scene (core_of old) (take i items) (Turn a ∷ [])
        ∙ ap (λ t. played old.scene (core_of old) (take i items) ++ t) (append-nil (one_event (turn old.scene (after_events old.scene (core_of old) (played old.scene (core_of old) (take i items))) a)))
        ∙ ap (λ o. played old.scene (core_of old) (take i items) ++ one_event o) same

-- the items of a round
client_item : (ps : List ClientScript) (last : Item) (i n : ℕ) → slice_get (client_numbers ps) i ≡ Some n → slice_get (map (λ p. Turn p.number) ps ++ last ∷ []) i ≡ Some (Turn n)
client_item [] last i n e = absurd (none e)
  where
    none : slice_get (client_numbers []) i ≡ Some n → ⊥
    none h = let l = slice_get_within (client_numbers []) i n h in omega (arith, l)
client_item (p ∷ ps) last zero n e = ap (λ o. first_turn o) e
  where
    first_turn : Option ℕ → Option Item
    first_turn None = None
    first_turn (Some m) = Some (Turn m)
client_item (p ∷ ps) last (suc i) n e = client_item ps last i n e

server_item : (ps : List ClientScript) (last : Item) → slice_get (map (λ p. Turn p.number) ps ++ last ∷ []) (length ps) ≡ Some last
server_item [] last = refl
server_item (p ∷ ps) last = server_item ps last

pub round_client : (s : Scene) (i n : ℕ) → slice_get (client_numbers s.clients) i ≡ Some n → slice_get (round s) i ≡ Some (Turn n)
round_client s i n e = client_item s.clients (Turn 0) i n e

pub round_server : (s : Scene) → slice_get (round s) (length s.clients) ≡ Some (Turn 0)
round_server s = server_item s.clients (Turn 0)

pub round_whole : (s : Scene) → take (length s.clients + 1) (round s) ≡ round s
round_whole s = whole s.clients
  where
    whole : (ps : List ClientScript) → take (length ps + 1) (map (λ p. Turn p.number) ps ++ Turn 0 ∷ []) ≡ map (λ p. Turn p.number) ps ++ Turn 0 ∷ []
    whole [] = refl
    whole (p ∷ ps) = let e : suc (length ps) + 1 ≡ suc (length ps + 1) = omega arith in
        ap (λ n. take n (map (λ p. Turn p.number) (p ∷ ps) ++ Turn 0 ∷ [])) e ∙ ap (λ t. Turn p.number ∷ t) (whole ps)

-- a whole round, once the server has had its turn too
pub round_done : (old now new : Course) (i : ℕ) → i ≡ length old.scene.clients → GoesOn old now (played old.scene (core_of old) (take i (round old.scene))) → GoesOn now new (one_event (turn now.scene (core_of now) 0)) →
    GoesOn old new (played old.scene (core_of old) (round old.scene))
round_done old now new i is first second =
    subst (λ items. GoesOn old new (played old.scene (core_of old) items)) (ap (λ n. take (n + 1) (round old.scene)) is ∙ round_whole old.scene)
    (turn_on old now new (round old.scene) i 0 (ap (slice_get (round old.scene)) is ∙ round_server old.scene) first second)

pub moves_done : (old now : Course) (i : ℕ) (b b' : Bool) (t : Turned) → i ≡ length old.scene.clients → GoesOn old now (played old.scene (core_of old) (take i (round old.scene))) →
    ((b ≡ false) ↔ (played old.scene (core_of old) (take i (round old.scene)) ≡ [])) → t ≡ turned (turn now.scene (core_of now) 0) → b' ≡ (b || is_move t) → (b' ≡ false) ↔ (played old.scene (core_of old) (round old.scene) ≡ [])
moves_done old now i b b' t is first was tells joined =
    subst (λ items. (b' ≡ false) ↔ (played old.scene (core_of old) items ≡ [])) (ap (λ n. take (n + 1) (round old.scene)) is ∙ round_whole old.scene)
    (moves_step old now (round old.scene) i 0 b b' t (ap (slice_get (round old.scene)) is ∙ round_server old.scene) first was tells joined)

-- items that bring nothing are passed over
pub all_passed : (s : Scene) (k : Core) (items : List Item) → played s k items ≡ [] → all_pass s k items ≡ true
all_passed s k [] e = refl
all_passed s k (item ∷ items) e = by_event (item_event s k item) e (all_passed s k items)
  where
    by_event : (o : Option Event) → one_event o ++ played s (core_after s k o) items ≡ [] → (played s k items ≡ [] → all_pass s k items ≡ true) → (is_none o && all_pass s k items) ≡ true
    by_event None h on = on h
    by_event (Some x) h on = absurd (cc)

-- a round that brings nothing is passed over, also after it
pub passed_after : (old new : Course) → GoesOn old new (played old.scene (core_of old) (round old.scene)) → played old.scene (core_of old) (round old.scene) ≡ [] → all_pass new.scene (core_of new) (round new.scene) ≡ true
passed_after old new on none =
    ap (λ t. all_pass t (core_of new) (round t)) on.scene
    ∙ ap (λ k. all_pass old.scene k (round old.scene)) (core_on old new (played old.scene (core_of old) (round old.scene)) on ∙ ap (after_events old.scene (core_of old)) none)
    ∙ all_passed old.scene (core_of old) (round old.scene) none

-- what a turn leaves to do
pub turn_falls : (old new : Course) (a : ℕ) → IsSound old → GoesOn old new (one_event (turn old.scene (core_of old) a)) → LeavesLess old new (is_move (turned (turn old.scene (core_of old) a)))
turn_falls old new a sound on = by_event (turn old.scene (core_of old) a) refl on
  where
    going : Going old.scene (core_of old)
    going = going_after old.scene old.events (well_formed old.scene sound.good) sound.run

    by_event : (o : Option Event) → turn old.scene (core_of old) a ≡ o → GoesOn old new (one_event o) → LeavesLess old new (is_move (turned o))
    by_event None h g = let e = core_on old new [] g in subst (λ t. work_left t (core_of new) + 0 ≤ work_left old.scene (core_of old)) (sym g.scene) (subst (λ k. work_left old.scene k + 0 ≤ work_left old.scene (core_of old)) (sym e) (omega arith))
    by_event (Some x) h g =
        let e = core_on old new (x ∷ []) g in
        let falls = turn_less old.scene (core_of old) (well_formed old.scene sound.good) going a x h in
        subst (λ t. work_left t (core_of new) + 1 ≤ work_left old.scene (core_of old)) (sym g.scene) (subst (λ k. work_left old.scene k + 1 ≤ work_left old.scene (core_of old)) (sym e) (omega (arith, falls)))

-- a turn leaves less, also in a part of the world that is held
pub turned_less : (s : Scene) (es : List Event) (site : Site) (ks : List ClientState) (old new : Course) (a : ℕ) (t : Turned) → IsHeld s es site ks → record { scene = s; events = es } ≡ old →
    t ≡ turned (turn old.scene (core_of old) a) → GoesOn old new (one_event (turn old.scene (core_of old) a)) → LeavesLess old new (is_move t)
turned_less s es site ks old new a t held view told made =
    subst (λ (x : Turned). LeavesLess old new (is_move x)) (sym told) (turn_falls old new a (subst IsSound view (record { good = held.good; run = held.run })) made)

pub less_less : (a b c : Course) (x y : Bool) → LeavesLess a b x → LeavesLess b c y → LeavesLess a c (x || y)
less_less a b c true y first second = omega (arith, first, second)
less_less a b c false y first second = omega (arith, first, second)

-- so many rounds were played; where the last one made no event, every turn would be passed over
pub record PlaysRounds (old new : Course) (moves : Bool) : Type 0 where
  pub number : ℕ
  pub goes_on : GoesOn old new (played old.scene (core_of old) (rounds old.scene number))
  pub ended : moves ≡ false → all_pass new.scene (core_of new) (round new.scene) ≡ true
  pub sound : moves ≡ false → IsSound new

-- rounds
take_past : (xs ys : List Item) (k : ℕ) → take (length xs + k) (xs ++ ys) ≡ xs ++ take k ys
take_past [] ys k = let e : 0 + k ≡ k = omega arith in ap (λ n. take n ys) e
take_past (x ∷ xs) ys k = let e : suc (length xs) + k ≡ suc (length xs + k) = omega arith in ap (λ n. take n (x ∷ (xs ++ ys))) e ∙ ap (λ t. x ∷ t) (take_past xs ys k)

append_none : (xs : List Item) → xs ++ [] ≡ xs
append_none [] = refl
append_none (x ∷ xs) = ap (λ t. x ∷ t) (append_none xs)

next_round : (s : Scene) (n : ℕ) → rounds s (n + 1) ≡ rounds s n ++ round s
next_round s n = more_rounds s n 1 ∙ ap (λ t. rounds s n ++ t) (append_none (round s))

-- a round after so many rounds
pub round_on : (old now new : Course) (n : ℕ) → GoesOn old now (played old.scene (core_of old) (rounds old.scene n)) → GoesOn now new (played now.scene (core_of now) (round now.scene)) →
    GoesOn old new (played old.scene (core_of old) (rounds old.scene (n + 1)))
round_on old now new n first second =
    subst (GoesOn old new) (sym more) (goes_on_on old now new (played old.scene (core_of old) (rounds old.scene n)) (played old.scene (after_events old.scene (core_of old) (played old.scene (core_of old) (rounds old.scene n))) (round old.scene)) first
    (subst (GoesOn now new) (ap (λ t. played t (core_of now) (round t)) first.scene ∙ ap (λ k. played old.scene k (round old.scene)) (core_on old now (played old.scene (core_of old) (rounds old.scene n)) first)) second))
  where
    more : played old.scene (core_of old) (rounds old.scene (n + 1)) ≡ played old.scene (core_of old) (rounds old.scene n) ++ played old.scene (after_events old.scene (core_of old) (played old.scene (core_of old) (rounds old.scene n))) (round old.scene)
    more = ap (played old.scene (core_of old)) (next_round old.scene n) ∙ played_append old.scene (core_of old) (rounds old.scene n) (round old.scene)

-- a part of a round after so many rounds
pub part_on : (old now new : Course) (n : ℕ) → GoesOn old now (played old.scene (core_of old) (rounds old.scene n)) → IsPlayedIn now new → IsPlayedOn old new
part_on old now new n first second = record {
  number = n + 1;
  turns = length (rounds old.scene n) + second.turns;
  goes_on = subst (GoesOn old new) (sym more) (goes_on_on old now new (played old.scene (core_of old) (rounds old.scene n)) (played old.scene (after_events old.scene (core_of old) (played old.scene (core_of old) (rounds old.scene n))) (take second.turns (round old.scene))) first
      (subst (GoesOn now new) (ap (λ t. played t (core_of now) (take second.turns (round t))) first.scene ∙ ap (λ k. played old.scene k (take second.turns (round old.scene))) (core_on old now (played old.scene (core_of old) (rounds old.scene n)) first)) second.goes_on));
}
  where
    more : played old.scene (core_of old) (take (length (rounds old.scene n) + second.turns) (rounds old.scene (n + 1))) ≡
        played old.scene (core_of old) (rounds old.scene n) ++ played old.scene (after_events old.scene (core_of old) (played old.scene (core_of old) (rounds old.scene n))) (take second.turns (round old.scene))
    more = ap (λ t. played old.scene (core_of old) (take (length (rounds old.scene n) + second.turns) t)) (next_round old.scene n)
        ∙ ap (played old.scene (core_of old)) (take_past (rounds old.scene n) (round old.scene) second.turns)
        ∙ played_append old.scene (core_of old) (rounds old.scene n) (take second.turns (round old.scene))

-- where every turn is passed over the journal is whole
pub whole_by : (w : Course) → IsSound w → all_pass w.scene (core_of w) (round w.scene) ≡ true → Whole w.scene (journal_of w.events)
whole_by w sound pass = whole_where_passed w.scene w.events sound.good sound.run pass

-- an item of the schedule may be taken
kill_listed : (items : List Item) (i c : ℕ) → slice_get items i ≡ Some (Kill c) → kills_in items c ≡ true
kill_listed [] i c e = absurd (let l = slice_get_within {A = Item} [] i (Kill c) e in omega (arith, l))
kill_listed (Turn a ∷ items) zero c e = absurd (different (same_Some _ _ e))
  where
    different : Turn a ≡ Kill c → ⊥
    different h = cc
kill_listed (Turn a ∷ items) (suc i) c e = kill_listed items i c e
kill_listed (Kill d ∷ items) zero c e = let same : d ≡ c = victim_same (same_Some _ _ e) in rw same (itself c (kills_in items c))
  where
    victim_same : Kill d ≡ Kill c → d ≡ c
    victim_same h = cc

    itself : (n : ℕ) (b : Bool) → ((n == n) || b) ≡ true
    itself n b = grind (arith, nat_tests)
kill_listed (Kill d ∷ items) (suc i) c e = rw (kill_listed items i c e) (or_true (d == c))
  where
    or_true : (b : Bool) → (b || true) ≡ true
    or_true true = refl
    or_true false = refl

pub may_take : (s : Scene) (i : ℕ) (item : Item) → InRange s → slice_get s.turns i ≡ Some item → MayTake s item
may_take s i (Turn a) good e = subst (ItemInRange (client_numbers s.clients)) (get_or_from_slice_get s.turns i (Turn a) (Turn a) e) (good.scheduled.each i (Turn a) (slice_get_within s.turns i (Turn a) e))
may_take s i (Kill c) good e = kill_listed s.turns i c e
