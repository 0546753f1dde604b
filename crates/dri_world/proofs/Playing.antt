-- Rounds of groups: each turn of a party is legal, and keeps what the groups keep.
use Rattle.std.proofs.Common.{◌≡◌, ◌≢◌, ◌<◌, ℕ, zero, suc, List, [], ◌∷◌, ◌++◌, Bool, true, false, Option, Some, None, map, arith, refl, sym, ap, ◌∙◌, subst, inl, inr}
use Rattle.std.specs.Prelude.{◌⊎◌, AllPairs, Contains, slice_get}
use Rattle.std.proofs.lemmas.Bool.{true≢false}
use Rattle.std.proofs.lemmas.List.{append-nil}
use Rattle.std.proofs.lemmas.List.Elements.{Contains-append_left, Contains-append_right}
use Rattle.std.proofs.lemmas.Option.{get_or_from_slice_get, slice_get_within, same_Some}
use Rattle.dri_base.specs.Ranges.{ClientInRange, InRange, client_numbers, heap_bytes}
use Rattle.dri_base.specs.declared.journal.Event.{Event}
use Rattle.dri_base.specs.declared.scene.Scene.{Scene}
use Rattle.dri_base.proofs.RangeLemmas.{IsWellFormed, well_formed}
use Rattle.dri_core.specs.CoreRuns.{IsRun, LegalEvents, after_events, world_of}
use Rattle.dri_core.specs.Cores.{Core, journal_of, opening_core}
use Rattle.dri_core.specs.EventTable.{after_event}
use Rattle.dri_core.specs.TurnLaws.{actor_of}
use Rattle.dri_core.specs.Turns.{one_event, turn}
use Rattle.dri_core.proofs.Bounds.{numbers_within}
use Rattle.dri_core.proofs.Going.{going_after, no_stop}
use Rattle.dri_core.proofs.OneTurn.{turns_are_legal}
use Rattle.dri_many.specs.Groupings.{AreGroupings, IsGrouping, all_members}
use Rattle.dri_many.specs.declared.grouping.Grouping.{Grouping}
use Rattle.dri_world.specs.Currents.{is_member, standing}
use Rattle.dri_world.specs.GroupRuns.{Alone, Group, Party, current_after, group_rounds, in_groups, parties, party_event, party_played, turn_of_some, ungrouped}
use Rattle.dri_world.proofs.Orders.{IsGood, member_there, stands_member}
use Rattle.dri_world.proofs.Stepping.{IsInTurn, IsSettled, Kept, kept_on, kept_opening}
use Rattle.dri_world.proofs.Tidy.{current_has}
use Rattle.dri_world.proofs.Whose.{IsOf, turn_is_of}

-- who takes the party's turn
abbrev pub actor_at : Scene → List Event → Party → Option ℕ
actor_at s events (Group g) = current_after s g events
actor_at s events (Alone a) = Some a

event_is : (s : Scene) (events : List Event) (p : Party) → party_event s events p ≡ turn_of_some s (after_events s (opening_core s) events) (actor_at s events p)
event_is s events (Group g) = refl
event_is s events (Alone a) = refl

-- the event of an actor that takes a turn
pub record IsTurnOf (s : Scene) (k : Core) (e : Event) (a : ℕ) : Type 0 where
  pub is : turn s k a ≡ Some e
  pub actor : actor_of e ≡ a

none_some : {A : Type 0} {a : A} → None ≡ Some a → ⊥
none_some e = grind arith

pub turned_by : (s : Scene) (events : List Event) (p : Party) (e : Event) → party_event s events p ≡ Some e → (a : ℕ) × (actor_at s events p ≡ Some a) × IsTurnOf s (after_events s (opening_core s) events) e a
turned_by s events p e is = by_actor (actor_at s events p) refl (sym (event_is s events p) ∙ is)
  where
    by_actor : (o : Option ℕ) → actor_at s events p ≡ o → turn_of_some s (after_events s (opening_core s) events) o ≡ Some e → (a : ℕ) × (actor_at s events p ≡ Some a) × IsTurnOf s (after_events s (opening_core s) events) e a
    by_actor None at h = absurd (none_some h)
    by_actor (Some a) at h = (a, at, record { is = h; actor = subst (IsOf a) h (turn_is_of s (after_events s (opening_core s) events) a) })

-- the party's actor is the group's current member, or not of the group
abbrev pub IsApart : Grouping → Party → Type 0
IsApart g (Group h) = (h ≡ g) ⊎ (IsGood h × ((c : ℕ) → Contains g.members c → Contains h.members c → ⊥))
IsApart g (Alone a) = is_member g a ≡ false

abbrev pub PartiesApart : Grouping → List Party → Type 0
PartiesApart g [] = Unit {0}
PartiesApart g (p ∷ ps) = IsApart g p × PartiesApart g ps

in_turn : (s : Scene) (g : Grouping) (events : List Event) (p : Party) (a : ℕ) → IsApart g p → actor_at s events p ≡ Some a → IsInTurn g (after_events s (opening_core s) events).world (standing s g (journal_of events)) a
in_turn s g events (Group h) a (inl same) is member = subst (λ (x : Grouping). current_after s x events ≡ Some a) same is
in_turn s g events (Group h) a (inr (good, apart)) is member =
    let has = current_has h (world_of s events) (standing s h (journal_of events)) a is in
    absurd (apart a (member_there g.members a member) (subst (Contains h.members) has.1.stands (stands_member h has.0 good)))
in_turn s g events (Alone b) a not_member is member = let same : b ≡ a = same_Some b a is in absurd (true≢false (sym member ∙ ap (is_member g) (sym same) ∙ not_member))

join_events : (s : Scene) (k : Core) (past more : List Event) → LegalEvents s k past → LegalEvents s (after_events s k past) more → LegalEvents s k (past ++ more)
join_events s k [] more before next = next
join_events s k (e ∷ past) more before next = (before.0, join_events s (after_event s k e) past more before.1 next)

-- a party's turn makes a run
pub run_on : (s : Scene) (events : List Event) (p : Party) → IsWellFormed s → IsRun s events → IsRun s (events ++ one_event (party_event s events p))
run_on s events p good run = by_event (party_event s events p) refl
  where
    by_event : (o : Option Event) → party_event s events p ≡ o → IsRun s (events ++ one_event o)
    by_event None is = subst (IsRun s) (sym (append-nil events)) run
    by_event (Some e) is =
        let t = turned_by s events p e is in
        let going = going_after s events good run in
        join_events s (opening_core s) events (e ∷ []) run (turns_are_legal s (after_events s (opening_core s) events) good going.known t.0 e t.2.is, tt)

-- and keeps what a group keeps
pub party_kept : (s : Scene) (g : Grouping) (events : List Event) (p : Party) → IsWellFormed s → IsSettled g → IsApart g p → IsRun s events → Kept s g events → Kept s g (events ++ one_event (party_event s events p))
party_kept s g events p good settled apart run kept = by_event (party_event s events p) refl
  where
    by_event : (o : Option Event) → party_event s events p ≡ o → Kept s g (events ++ one_event o)
    by_event None is = subst (Kept s g) (sym (append-nil events)) kept
    by_event (Some e) is =
        let t = turned_by s events p e is in
        let going = going_after s events good run in
        kept_on s g events e settled going.known kept
        (subst (IsInTurn g (after_events s (opening_core s) events).world (standing s g (journal_of events))) (sym t.2.actor) (in_turn s g events p t.0 apart t.1))
        (turns_are_legal s (after_events s (opening_core s) events) good going.known t.0 e t.2.is)
        (no_stop s (after_events s (opening_core s) events) t.0 e t.2.is)

pub append_events : (xs ys zs : List Event) → (xs ++ ys) ++ zs ≡ xs ++ (ys ++ zs)
append_events [] ys zs = refl
append_events (x ∷ xs) ys zs = ap (λ t. x ∷ t) (append_events xs ys zs)

pub played_run : (s : Scene) (past : List Event) (ps : List Party) → IsWellFormed s → IsRun s past → IsRun s (past ++ party_played s past ps)
played_run s past [] good run = subst (IsRun s) (sym (append-nil past)) run
played_run s past (p ∷ ps) good run =
    subst (IsRun s) (append_events past (one_event (party_event s past p)) (party_played s (past ++ one_event (party_event s past p)) ps))
    (played_run s (past ++ one_event (party_event s past p)) ps good (run_on s past p good run))

pub played_kept : (s : Scene) (g : Grouping) (past : List Event) (ps : List Party) → IsWellFormed s → IsSettled g → PartiesApart g ps → IsRun s past → Kept s g past → Kept s g (past ++ party_played s past ps)
played_kept s g past [] good settled apart run kept = subst (Kept s g) (sym (append-nil past)) kept
played_kept s g past (p ∷ ps) good settled apart run kept =
    subst (Kept s g) (append_events past (one_event (party_event s past p)) (party_played s (past ++ one_event (party_event s past p)) ps))
    (played_kept s g (past ++ one_event (party_event s past p)) ps good settled apart.1 (run_on s past p good run) (party_kept s g past p good settled apart.0 run kept))

-- parties after parties
pub party_append : (s : Scene) (past : List Event) (ps qs : List Party) → party_played s past (ps ++ qs) ≡ party_played s past ps ++ party_played s (past ++ party_played s past ps) qs
party_append s past [] qs = ap (λ t. party_played s t qs) (sym (append-nil past))
party_append s past (p ∷ ps) qs =
    ap (λ t. one_event (party_event s past p) ++ t) (party_append s (past ++ one_event (party_event s past p)) ps qs
    ∙ ap (λ t. party_played s (past ++ one_event (party_event s past p)) ps ++ party_played s t qs) (append_events past (one_event (party_event s past p)) (party_played s (past ++ one_event (party_event s past p)) ps)))
    ∙ sym (append_events (one_event (party_event s past p)) (party_played s (past ++ one_event (party_event s past p)) ps) (party_played s (past ++ (one_event (party_event s past p) ++ party_played s (past ++ one_event (party_event s past p)) ps)) qs))

-- so do rounds
pub rounds_run : (s : Scene) (groups : List Grouping) (n : ℕ) → IsWellFormed s → IsRun s (group_rounds s groups n)
rounds_run s groups zero good = tt
rounds_run s groups (suc n) good = played_run s (group_rounds s groups n) (parties s groups) good (rounds_run s groups n good)

pub rounds_kept : (s : Scene) (groups : List Grouping) (g : Grouping) (n : ℕ) → IsWellFormed s → IsSettled g → PartiesApart g (parties s groups) → Kept s g (group_rounds s groups n)
rounds_kept s groups g zero good settled apart = kept_opening s g
rounds_kept s groups g (suc n) good settled apart = played_kept s g (group_rounds s groups n) (parties s groups) good settled apart (rounds_run s groups n good) (rounds_kept s groups g n good settled apart)

-- numbers of two lists that differ throughout
pairs_tail : (x : ℕ) (xs : List ℕ) → AllPairs ◌≢◌ (x ∷ xs) → AllPairs ◌≢◌ xs
pairs_tail x xs all i j d l r = all (suc i) (suc j) d (omega (arith, l)) (omega (arith, r))

pairs_head : (x : ℕ) (xs : List ℕ) (c : ℕ) → AllPairs ◌≢◌ (x ∷ xs) → Contains xs c → x ≢ c
pairs_head x xs c all (k, l, e) same = all 0 (suc k) c (omega arith) (omega (arith, l)) (same ∙ sym e)

pub pairs_later : (xs ys : List ℕ) → AllPairs ◌≢◌ (xs ++ ys) → AllPairs ◌≢◌ ys
pairs_later [] ys all = all
pairs_later (x ∷ xs) ys all = pairs_later xs ys (pairs_tail x (xs ++ ys) all)

pub apart_lists : (xs ys : List ℕ) (c : ℕ) → AllPairs ◌≢◌ (xs ++ ys) → Contains xs c → Contains ys c → ⊥
apart_lists [] ys c all (k, l, e) there = omega (arith, l)
apart_lists (x ∷ xs) ys c all (zero, l, e) there = pairs_head x (xs ++ ys) c all (Contains-append_right xs ys c there) e
apart_lists (x ∷ xs) ys c all (suc k, l, e) there = apart_lists xs ys c (pairs_tail x (xs ++ ys) all) (k, omega (arith, l), e) there

-- a group's members are among all
pub among_all : (groups : List Grouping) (i : ℕ) (g : Grouping) (c : ℕ) → slice_get groups i ≡ Some g → Contains g.members c → Contains (all_members groups) c
among_all [] i g c is there = absurd (let l = slice_get_within {A = Grouping} [] i g is in omega (arith, l))
among_all (h ∷ hs) zero g c is there = let same : h ≡ g = same_Some h g is in Contains-append_left h.members (all_members hs) c (subst (λ (x : Grouping). Contains x.members c) (sym same) there)
among_all (h ∷ hs) (suc i) g c is there = Contains-append_right h.members (all_members hs) c (among_all hs i g c is there)

apart_from : (g : Grouping) (groups : List Grouping) → ((i : ℕ) (h : Grouping) → slice_get groups i ≡ Some h → IsGood h) → ((c : ℕ) → Contains g.members c → Contains (all_members groups) c → ⊥) → PartiesApart g (map Group groups)
apart_from g [] good apart = tt
apart_from g (h ∷ hs) good apart = (inr (good 0 h refl, λ c x y. apart c x (Contains-append_left h.members (all_members hs) c y)), apart_from g hs (λ i x is. good (suc i) x is) (λ c x y. apart c x (Contains-append_right h.members (all_members hs) c y)))

apart_groups : (groups : List Grouping) (i : ℕ) (g : Grouping) → ((j : ℕ) (h : Grouping) → slice_get groups j ≡ Some h → IsGood h) → AllPairs ◌≢◌ (all_members groups) → slice_get groups i ≡ Some g → PartiesApart g (map Group groups)
apart_groups [] i g good all is = tt
apart_groups (h ∷ hs) zero g good all is =
    let same : h ≡ g = same_Some h g is in
    (inl same, apart_from g hs (λ j x at. good (suc j) x at) (λ c x y. apart_lists h.members (all_members hs) c all (subst (λ (z : Grouping). Contains z.members c) (sym same) x) y))
apart_groups (h ∷ hs) (suc i) g good all is =
    (inr (good 0 h refl, λ c x y. apart_lists h.members (all_members hs) c all y (among_all hs i g c is x)), apart_groups hs i g (λ j x at. good (suc j) x at) (pairs_later h.members (all_members hs) all) is)

apart_append : (g : Grouping) (ps qs : List Party) → PartiesApart g ps → PartiesApart g qs → PartiesApart g (ps ++ qs)
apart_append g [] qs a b = b
apart_append g (p ∷ ps) qs a b = (a.0, apart_append g ps qs a.1 b)

-- who is in no group is in none of them
pub in_none : (groups : List Grouping) (i : ℕ) (g : Grouping) (c : ℕ) → slice_get groups i ≡ Some g → in_groups groups c ≡ false → is_member g c ≡ false
in_none [] i g c is no_group = absurd (let l = slice_get_within {A = Grouping} [] i g is in omega (arith, l))
in_none (h ∷ hs) i g c is no_group = by_member (is_member h c) refl (λ j at rest. in_none hs j g c at rest)
  where
    by_place : (j : ℕ) → slice_get (h ∷ hs) j ≡ Some g → is_member h c ≡ false → ((k : ℕ) → slice_get hs k ≡ Some g → is_member g c ≡ false) → is_member g c ≡ false
    by_place zero at m later = let same : h ≡ g = same_Some h g at in subst (λ (x : Grouping). is_member x c ≡ false) same m
    by_place (suc j) at m later = later j at

    by_member : (b : Bool) → is_member h c ≡ b → ((k : ℕ) → slice_get hs k ≡ Some g → in_groups hs c ≡ false → is_member g c ≡ false) → is_member g c ≡ false
    by_member true m later = absurd (true≢false (rw m at no_group))
    by_member false m later = by_place i is m (λ k at. later k at (rw m at no_group))

pub apart_ungrouped : (groups : List Grouping) (i : ℕ) (g : Grouping) (clients : List ℕ) → slice_get groups i ≡ Some g → PartiesApart g (map Alone (ungrouped groups clients))
apart_ungrouped groups i g [] is = tt
apart_ungrouped groups i g (c ∷ cs) is = by_group (in_groups groups c) refl (apart_ungrouped groups i g cs is)
  where
    by_group : (b : Bool) → in_groups groups c ≡ b → PartiesApart g (map Alone (ungrouped groups cs)) → PartiesApart g (map Alone (ungrouped groups (c ∷ cs)))
    by_group true h next = rw h next
    by_group false h next = rw h (in_none groups i g c is h, next)

-- what is known of each group of a scene
pub good_by : (s : Scene) (g : Grouping) → IsGrouping s g → IsGood g
good_by s g grouping = record { some = let l = grouping.sized.0 in omega (arith, l); led = λ c there. subst (Contains g.members) there.2 (grouping.led there.0 c there.1) }

pub client_by : (s : Scene) (g : Grouping) (c : ℕ) → IsGrouping s g → Contains g.members c → Contains (client_numbers s.clients) c
client_by s g c grouping there = subst (Contains (client_numbers s.clients)) there.2 (grouping.there there.0 c there.1)

pub settled_by : (s : Scene) (g : Grouping) → InRange s → IsGrouping s g → IsSettled g
settled_by s g good grouping = record { good = good_by s g grouping; numbered = λ c there. above c (client_by s g c grouping there) }
  where
    above : (c : ℕ) → Contains (client_numbers s.clients) c → 0 < c
    above c (k, l, e) =
        let all = numbers_within (ClientInRange s.windows (heap_bytes s)) s.clients good.scripted.each (λ p x. x.numbered) in
        subst (λ m. 0 < m) e (all.1 k c l)

pub grouping_at : (s : Scene) (groups : List Grouping) (i : ℕ) (g : Grouping) → AreGroupings s groups → slice_get groups i ≡ Some g → IsGrouping s g
grouping_at s groups i g are is = subst (IsGrouping s) (get_or_from_slice_get groups i g g is) (are.each i g (slice_get_within groups i g is))

pub settled_at : (s : Scene) (groups : List Grouping) (i : ℕ) (g : Grouping) → InRange s → AreGroupings s groups → slice_get groups i ≡ Some g → IsSettled g
settled_at s groups i g good are is = settled_by s g good (grouping_at s groups i g are is)

pub no_server : (s : Scene) (groups : List Grouping) (i : ℕ) (g : Grouping) → InRange s → AreGroupings s groups → slice_get groups i ≡ Some g → is_member g 0 ≡ false
no_server s groups i g good are is = by_member (is_member g 0) refl
  where
    by_member : (b : Bool) → is_member g 0 ≡ b → b ≡ false
    by_member false m = refl
    by_member true m = absurd (let l = (settled_at s groups i g good are is).numbered 0 (member_there g.members 0 m) in omega (arith, l))

pub apart_at : (s : Scene) (groups : List Grouping) (i : ℕ) (g : Grouping) → InRange s → AreGroupings s groups → slice_get groups i ≡ Some g → PartiesApart g (parties s groups)
apart_at s groups i g good are is =
    apart_append g (map Group groups) (map Alone (ungrouped groups (client_numbers s.clients)) ++ Alone 0 ∷ [])
    (apart_groups groups i g (λ j h at. (settled_at s groups j h good are at).good) are.apart is)
    (apart_append g (map Alone (ungrouped groups (client_numbers s.clients))) (Alone 0 ∷ []) (apart_ungrouped groups i g (client_numbers s.clients) is) (no_server s groups i g good are is, tt))

-- a group keeps what it keeps through rounds
pub kept_at : (s : Scene) (groups : List Grouping) (i : ℕ) (g : Grouping) (n : ℕ) → InRange s → AreGroupings s groups → slice_get groups i ≡ Some g → Kept s g (group_rounds s groups n)
kept_at s groups i g n good are is = rounds_kept s groups g n (well_formed s good) (settled_at s groups i g good are is) (apart_at s groups i g good are is)
