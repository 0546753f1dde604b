-- What the code keeps of a group is its standing.
use Rattle.std.proofs.Common.{◌≡◌, ◌≢◌, ◌≤◌, ◌<◌, ◌+◌, ◌-◌, ℕ, zero, suc, List, [], ◌∷◌, ◌++◌, Bool, true, false, Option, Some, None, drop, get_or, length, map, arith, refl, sym, ap, ◌∙◌, subst, length-drop}
use Rattle.std.specs.Prelude.{◌==◌, AllPairs, Contains, slice_get}
use Rattle.std.proofs.lemmas.Bool.{true≢false}
use Rattle.std.proofs.lemmas.Bool.Decides.{nat_tests}
use Rattle.std.proofs.lemmas.List.{append-nil}
use Rattle.std.proofs.lemmas.List.Sums.{sum_by-cons}
use Rattle.std.proofs.lemmas.Option.{slice_get_within, same_Some}
use Rattle.dri_base.specs.Ranges.{client_numbers}
use Rattle.dri_base.specs.declared.journal.Entry.{Entry}
use Rattle.dri_base.specs.declared.journal.Event.{Event}
use Rattle.dri_base.specs.declared.scene.Scene.{Scene}
use Rattle.dri_core.specs.CoreRuns.{world_of}
use Rattle.dri_core.specs.Cores.{Core, entry_of, journal_of, opening_core}
use Rattle.dri_core.specs.EventTable.{world_after}
use Rattle.dri_core.specs.Phases.{is_done}
use Rattle.dri_core.specs.Privates.{Private}
use Rattle.dri_core.specs.TurnLaws.{actor_of}
use Rattle.dri_core.specs.Turns.{one_event}
use Rattle.dri_core.specs.Worlds.{World}
use Rattle.dri_core.proofs.Rounds.{after_append}
use Rattle.dri_many.specs.Groupings.{AreGroupings, IsGrouping, all_members, current_count}
use Rattle.dri_many.specs.declared.grouping.Grouping.{Grouping}
use Rattle.dri_world.specs.Currents.{Standing, current_at, current_member, current_place, ends_segment, is_member, is_over, member_at, moved_on, ran_after, reach, standing}
use Rattle.dri_world.specs.GroupRuns.{Alone, Group, Party, current_after, party_event, party_played}
use Rattle.dri_world.specs.Seats.{GoesFrom, IsCurrentSeat, IsSeatOf, IsSmall, Seated, moved_by, next_place, order_of}
use Rattle.dri_world.specs.declared.seat.Seat.{Seat}
use Rattle.dri_world.proofs.Orders.{IsFirstLive, IsGood, at_member, goes_on, live_is, live_near, member_there, none_where_over, stands_at, stands_member, starts, there_member}
use Rattle.dri_world.proofs.Playing.{PartiesApart, actor_at, among_all, append_events, apart_lists, client_by, good_by, grouping_at, pairs_later, turned_by}
use Rattle.dri_world.proofs.Stepping.{standing_on}
use Rattle.dri_world.proofs.Tidy.{HasCurrent, current_has, moved_is, stays, stood}
use Rattle.dri_world.proofs.Whose.{others}

-- so many members were passed over, from a seat on
pub record Passes (g : Grouping) (w : World) (t : Standing) (before now : Seat) (i : ℕ) : Type 0 where
  pub first : ℕ
  pub from_first : GoesFrom g first before.place
  pub from : GoesFrom g (first + i) now.place
  pub later : t.place ≤ first
  pub over : (n : ℕ) → t.place ≤ n → n < first + i → is_over w (current_at g n) ≡ true
  pub ran : now.ran ≡ t.ran

pub passes_none : (g : Grouping) (w : World) (t : Standing) (seat : Seat) → IsSeatOf g w t seat → Passes g w t seat seat 0
passes_none g w t seat of = record {
  first = of.place;
  from_first = of.from;
  from = let e : of.place ≡ of.place + 0 = omega arith in subst (λ n. GoesFrom g n seat.place) e of.from;
  later = of.later;
  over = λ n l r. of.over n l (omega (arith, r));
  ran = of.ran;
}

pub passes_one : (g : Grouping) (w : World) (t : Standing) (before now : Seat) (i : ℕ) → IsGood g → Passes g w t before now i → is_over w (get_or (order_of g) now.place 0) ≡ true →
    Passes g w t before (record { place = next_place g now.place; ran = now.ran }) (i + 1)
passes_one g w t before now i good p over_here = record {
  first = p.first;
  from_first = p.from_first;
  from = let e : (p.first + i) + 1 ≡ p.first + (i + 1) = omega arith in subst (λ n. GoesFrom g n (next_place g now.place)) e (goes_on g (p.first + i) now.place good.some p.from);
  later = p.later;
  over = over_all;
  ran = p.ran;
}
  where
    here : is_over w (current_at g (p.first + i)) ≡ true
    here = ap (is_over w) (stands_at g (p.first + i) now.place p.from) ∙ over_here

    over_all : (n : ℕ) → t.place ≤ n → n < p.first + (i + 1) → is_over w (current_at g n) ≡ true
    over_all n l r = by_last (n == p.first + i) refl
      where
        by_last : (b : Bool) → (n == p.first + i) ≡ b → is_over w (current_at g n) ≡ true
        by_last true b = let e : n ≡ p.first + i = grind (arith, nat_tests) in ap (λ m. is_over w (current_at g m)) e ∙ here
        by_last false b = let ne : (n ≡ p.first + i) → ⊥ = grind (arith, nat_tests) in p.over n l (omega (arith, r, ne))

-- who is live after them is current
pub passes_current : (g : Grouping) (w : World) (t : Standing) (before now : Seat) (i : ℕ) → IsGood g → Passes g w t before now i → is_over w (get_or (order_of g) now.place 0) ≡ false →
    IsCurrentSeat g w t now × (current_member g w t ≡ Some (get_or (order_of g) now.place 0))
passes_current g w t before now i good p live = (record { place = p.first + i; from = p.from; current = current; ran = p.ran }, ap (member_at g) current ∙ ap Some stands)
  where
    stands : current_at g (p.first + i) ≡ get_or (order_of g) now.place 0
    stands = stands_at g (p.first + i) now.place p.from

    first : IsFirstLive g w t.place (p.first + i)
    first = record { later = let l = p.later in omega (arith, l); live = ap (is_over w) stands ∙ live; over = p.over }

    current : current_place g w t ≡ Some (p.first + i)
    current = live_near g w t.place (p.first + i) good first

-- once round, all are over
pub passes_all : (g : Grouping) (w : World) (t : Standing) (before now : Seat) (i : ℕ) → IsGood g → Passes g w t before now i → length (order_of g) - before.place + length g.members ≤ i → current_member g w t ≡ None
passes_all g w t before now i good p enough = ap (member_at g) (none_where_over g w t.place (reach g) good all)
  where
    all : (m : ℕ) → Contains g.members m → is_over w m ≡ true
    all m (j, l, e) =
        let ahead = length-drop before.place (order_of g) in
        let is = p.from_first.ahead (length (drop before.place (order_of g)) + j) ∙ at_member (drop before.place (order_of g)) g.members j m l ∙ e in
        let later = p.later in
        subst (λ c. is_over w c ≡ true) is (p.over (p.first + (length (drop before.place (order_of g)) + j)) (omega (arith, later)) (omega (arith, l, enough, ahead)))

-- a seat on the way is one of the standing
pub passes_seat : (g : Grouping) (w : World) (t : Standing) (before now : Seat) (i : ℕ) → Passes g w t before now i → IsSeatOf g w t now
passes_seat g w t before now i p = record { place = p.first + i; from = p.from; later = let l = p.later in omega (arith, l); over = p.over; ran = p.ran }

-- who stands there is one of the scene's clients
pub passes_client : (s : Scene) (g : Grouping) (w : World) (t : Standing) (before now : Seat) (i : ℕ) → IsGrouping s g → Passes g w t before now i → Contains (client_numbers s.clients) (get_or (order_of g) now.place 0)
passes_client s g w t before now i grouping p =
    subst (Contains (client_numbers s.clients)) (stands_at g (p.first + i) now.place p.from) (client_by s g (current_at g (p.first + i)) grouping (stands_member g (p.first + i) (good_by s g grouping)))

pub current_client : (s : Scene) (g : Grouping) (events : List Event) (c : ℕ) → IsGrouping s g → current_after s g events ≡ Some c → Contains (client_numbers s.clients) c
current_client s g events c grouping is =
    let has = current_has g (world_of s events) (standing s g (journal_of events)) c is in
    subst (Contains (client_numbers s.clients)) has.1.stands (client_by s g (current_at g has.0) grouping (stands_member g has.0 (good_by s g grouping)))

-- a group's currents are no more than those of all groups
currents_within : (groups : List Grouping) (i : ℕ) (g : Grouping) → slice_get groups i ≡ Some g → length g.currents ≤ current_count groups
currents_within [] i g is = absurd (let l = slice_get_within {A = Grouping} [] i g is in omega (arith, l))
currents_within (h ∷ hs) zero g is = let same : h ≡ g = same_Some h g is in let all = sum_by-cons (λ (x : Grouping). length x.currents) h hs in subst (λ (x : Grouping). length x.currents ≤ current_count (h ∷ hs)) same (omega (arith, all))
currents_within (h ∷ hs) (suc i) g is = let l = currents_within hs i g is in let all = sum_by-cons (λ (x : Grouping). length x.currents) h hs in omega (arith, l, all)

pub small_at : (s : Scene) (groups : List Grouping) (i : ℕ) (g : Grouping) → AreGroupings s groups → slice_get groups i ≡ Some g → IsSmall g
small_at s groups i g are is = record {
  currents = let l = currents_within groups i g is in let few = are.few in omega (arith, l, few);
  members = (grouping_at s groups i g are is).sized.1;
}

-- the seat after the current member's event
pub seated_on : (s : Scene) (g : Grouping) (events : List Event) (e : Event) (seat : Seat) → IsGood g → current_after s g events ≡ Some (actor_of e) → IsCurrentSeat g (world_of s events) (standing s g (journal_of events)) seat →
    Seated s g (events ++ e ∷ []) (moved_by g seat (entry_of e))
seated_on s g events e seat good current of =
    subst (λ t. IsSeatOf g (world_of s (events ++ e ∷ [])) t (moved_by g seat (entry_of e))) (sym (standing_on s g events e)) (by_entry (entry_of e) refl)
  where
    stands : current_at g of.place ≡ actor_of e
    stands = same_Some _ _ (sym (ap (member_at g) of.current) ∙ current)

    member : is_member g (actor_of e) ≡ true
    member = there_member g.members (actor_of e) (subst (Contains g.members) stands (stands_member g of.place good))

    by_end : (x : Entry) (b : Bool) → ends_segment seat.ran x ≡ b →
        IsSeatOf g (world_of s (events ++ e ∷ [])) (moved_on (standing s g (journal_of events)) x (Some of.place)) (moved_by g seat (Some x))
    by_end x true b =
        rw (b, ap (λ r. ends_segment r x) (sym of.ran) ∙ b) (record {
          place = of.place + 1;
          from = goes_on g of.place seat.place good.some of.from;
          later = omega arith;
          over = λ n l r. absurd (omega (arith, l, r));
          ran = refl;
        })
    by_end x false b =
        rw (b, ap (λ r. ends_segment r x) (sym of.ran) ∙ b) (record {
          place = of.place;
          from = of.from;
          later = omega arith;
          over = λ n l r. absurd (omega (arith, l, r));
          ran = ap (λ r. ran_after r x) of.ran;
        })

    by_entry : (o : Option Entry) → entry_of e ≡ o → IsSeatOf g (world_of s (events ++ e ∷ [])) (stood g (world_of s events) (standing s g (journal_of events)) (entry_of e)) (moved_by g seat (entry_of e))
    by_entry None is =
        let first = live_is g (world_of s events) (standing s g (journal_of events)).place (reach g) of.place of.current in
        let same : world_of s (events ++ e ∷ []) ≡ world_of s events = ap (λ (k : Core). k.world) (after_append s (opening_core s) events (e ∷ [])) ∙ ap (world_after s (world_of s events)) is in
        subst (λ o. IsSeatOf g (world_of s (events ++ e ∷ [])) (stood g (world_of s events) (standing s g (journal_of events)) o) (moved_by g seat o)) (sym is)
        (subst (λ w. IsSeatOf g w (standing s g (journal_of events)) seat) (sym same)
        (record { place = of.place; from = of.from; later = first.later; over = first.over; ran = of.ran }))
    by_entry (Some x) is =
        subst (λ t. IsSeatOf g (world_of s (events ++ e ∷ [])) t (moved_by g seat (entry_of e))) (sym (moved_is g (world_of s events) (standing s g (journal_of events)) e x of.place is member of.current))
        (subst (λ o. IsSeatOf g (world_of s (events ++ e ∷ [])) (moved_on (standing s g (journal_of events)) x (Some of.place)) (moved_by g seat o)) (sym is) (by_end x (ends_segment seat.ran x) refl))

-- the seat after an event of nobody in the group
pub seated_away : (s : Scene) (g : Grouping) (events : List Event) (e : Event) (seat : Seat) → IsGood g → is_member g (actor_of e) ≡ false → Seated s g events seat → Seated s g (events ++ e ∷ []) seat
seated_away s g events e seat good away of =
    subst (λ t. IsSeatOf g (world_of s (events ++ e ∷ [])) t seat) (sym (standing_on s g events e ∙ stays g (world_of s events) (standing s g (journal_of events)) e away)) (record {
      place = of.place;
      from = of.from;
      later = of.later;
      over = λ n l r. same (current_at g n) (stands_member g n good) ∙ of.over n l r;
      ran = of.ran;
    })
  where
    differs : (c : ℕ) → Contains g.members c → actor_of e ≢ c
    differs c there is = true≢false (sym (there_member g.members c there) ∙ ap (is_member g) (sym is) ∙ away)

    same : (c : ℕ) → Contains g.members c → is_over (world_of s (events ++ e ∷ [])) c ≡ is_over (world_of s events) c
    same c there = ap (λ (k : Core). is_over k.world c) (after_append s (opening_core s) events (e ∷ [])) ∙ ap (λ (p : Private). is_done p.phase) (others s (world_of s events) e c (differs c there))

-- the party has nobody of the group
abbrev pub IsAway : Grouping → Party → Type 0
IsAway g (Group h) = IsGood h × ((c : ℕ) → Contains g.members c → Contains h.members c → ⊥)
IsAway g (Alone a) = is_member g a ≡ false

abbrev pub AreAway : Grouping → List Party → Type 0
AreAway g [] = Unit {0}
AreAway g (p ∷ ps) = IsAway g p × AreAway g ps

not_member : (s : Scene) (g : Grouping) (events : List Event) (p : Party) (a : ℕ) → IsAway g p → actor_at s events p ≡ Some a → is_member g a ≡ false
not_member s g events (Group h) a (good, apart) is = by_member (is_member g a) refl
  where
    has : (place : ℕ) × HasCurrent h (world_of s events) (standing s h (journal_of events)) a place
    has = current_has h (world_of s events) (standing s h (journal_of events)) a is

    by_member : (b : Bool) → is_member g a ≡ b → b ≡ false
    by_member false m = refl
    by_member true m = absurd (apart a (member_there g.members a m) (subst (Contains h.members) has.1.stands (stands_member h has.0 good)))
not_member s g events (Alone b) a away is = let same : b ≡ a = same_Some b a is in subst (λ n. is_member g n ≡ false) same away

seated_party : (s : Scene) (g : Grouping) (events : List Event) (p : Party) (seat : Seat) → IsGood g → IsAway g p → Seated s g events seat → Seated s g (events ++ one_event (party_event s events p)) seat
seated_party s g events p seat good away of = by_event (party_event s events p) refl
  where
    by_event : (o : Option Event) → party_event s events p ≡ o → Seated s g (events ++ one_event o) seat
    by_event None is = subst (λ es. Seated s g es seat) (sym (append-nil events)) of
    by_event (Some e) is =
        let t = turned_by s events p e is in
        seated_away s g events e seat good (ap (is_member g) t.2.actor ∙ not_member s g events p t.0 away t.1) of

pub seated_through : (s : Scene) (g : Grouping) (past : List Event) (ps : List Party) (seat : Seat) → IsGood g → AreAway g ps → Seated s g past seat → Seated s g (past ++ party_played s past ps) seat
seated_through s g past [] seat good away of = subst (λ es. Seated s g es seat) (sym (append-nil past)) of
seated_through s g past (p ∷ ps) seat good away of =
    subst (λ es. Seated s g es seat) (append_events past (one_event (party_event s past p)) (party_played s (past ++ one_event (party_event s past p)) ps))
    (seated_through s g (past ++ one_event (party_event s past p)) ps seat good away.1 (seated_party s g past p seat good away.0 of))

-- clients in no group are away from each
pub alone_away : (g : Grouping) (cs : List ℕ) → PartiesApart g (map Alone cs) → AreAway g (map Alone cs)
alone_away g [] all = tt
alone_away g (c ∷ cs) all = (all.0, alone_away g cs all.1)

-- two groups have nobody in common
pub apart_two : (groups : List Grouping) (i j : ℕ) (g h : Grouping) (c : ℕ) → AllPairs ◌≢◌ (all_members groups) → slice_get groups i ≡ Some g → slice_get groups j ≡ Some h → i ≢ j → Contains g.members c → Contains h.members c → ⊥
apart_two [] i j g h c all at_i at_j ne x y = let l = slice_get_within {A = Grouping} [] i g at_i in omega (arith, l)
apart_two (z ∷ zs) zero zero g h c all at_i at_j ne x y = ne refl
apart_two (z ∷ zs) zero (suc j) g h c all at_i at_j ne x y =
    let same : z ≡ g = same_Some z g at_i in
    apart_lists z.members (all_members zs) c all (subst (λ (u : Grouping). Contains u.members c) (sym same) x) (among_all zs j h c at_j y)
apart_two (z ∷ zs) (suc i) zero g h c all at_i at_j ne x y =
    let same : z ≡ h = same_Some z h at_j in
    apart_lists z.members (all_members zs) c all (subst (λ (u : Grouping). Contains u.members c) (sym same) y) (among_all zs i g c at_i x)
apart_two (z ∷ zs) (suc i) (suc j) g h c all at_i at_j ne x y = apart_two zs i j g h c (pairs_later z.members (all_members zs) all) at_i at_j (λ e. ne (ap suc e)) x y

-- the seats at the opening
pub seated_opening : (s : Scene) (g : Grouping) → IsGood g → Seated s g [] (record { place = 0; ran = false })
seated_opening s g good = record { place = 0; from = starts g good.some; later = omega arith; over = λ n l r. absurd (omega (arith, r)); ran = refl }
