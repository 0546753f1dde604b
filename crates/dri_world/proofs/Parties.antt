-- Turns of parties, one after another.
use Rattle.std.proofs.Common.{◌≡◌, ◌<◌, ◌+◌, ℕ, zero, suc, List, [], ◌∷◌, ◌++◌, Bool, true, false, Option, Some, None, get_or, length, map, take, arith, refl, sym, ap, ◌∙◌, subst, inl, inr}
use Rattle.std.specs.Prelude.{◌↔◌, ◌||◌, ◌⊎◌, All, slice_get, replicate}
use Rattle.std.proofs.Math.ListN.{set, length-set}
use Rattle.std.proofs.lemmas.Bool.{cases_eq, true≢false}
use Rattle.std.proofs.lemmas.List.{append-nil, get_or-replicate, length-replicate}
use Rattle.std.proofs.lemmas.Option.{get_or_from_slice_get, slice_get-get_or, slice_get_within, same_Some}
use Rattle.dri_base.specs.Ranges.{InRange, client_numbers}
use Rattle.dri_base.specs.declared.journal.Event.{Event}
use Rattle.dri_base.specs.declared.scene.Scene.{Scene}
use Rattle.dri_base.proofs.RangeLemmas.{well_formed}
use Rattle.dri_core.specs.CoreRuns.{IsRun, world_of}
use Rattle.dri_core.specs.Cores.{entry_of, journal_of}
use Rattle.dri_core.specs.Runs.{Whole}
use Rattle.dri_core.specs.TurnLaws.{actor_of}
use Rattle.dri_core.specs.Turns.{one_event, turn}
use Rattle.dri_core.specs.Worlds.{opening}
use Rattle.dri_many.specs.Groupings.{AreGroupings}
use Rattle.dri_many.specs.declared.grouping.Grouping.{Grouping}
use Rattle.dri_world.specs.Courses.{Course, GoesOn, IsSound, LeavesLess, core_of, is_move, turned}
use Rattle.dri_world.specs.Currents.{first_standing, standing}
use Rattle.dri_world.specs.GroupRuns.{Alone, Group, PartiesOn, Party, current_after, group_rounds, in_groups, parties, party_played, turn_of_some, ungrouped}
use Rattle.dri_world.specs.Seats.{AreSeated, IsCurrentSeat, Seated, moved_by}
use Rattle.dri_world.specs.Segments.{IsSegmented}
use Rattle.dri_world.specs.declared.seat.Seat.{Seat}
use Rattle.dri_world.specs.declared.turned.Turned.{Turned}
use Rattle.dri_world.specs.declared.turned.Turned.TheVariants.{Did, Passed}
use Rattle.dri_world.proofs.Cutting.{segmented}
use Rattle.dri_world.proofs.Ending.{whole_by_groups}
use Rattle.dri_world.proofs.Orders.{IsGood}
use Rattle.dri_world.proofs.Places.{unwritten, written}
use Rattle.dri_world.proofs.Playing.{apart_ungrouped, kept_at, no_server, party_append, run_on, settled_at}
use Rattle.dri_world.proofs.Rounding.{goes_on_on, less_less, moves_on, turn_falls}
use Rattle.dri_world.proofs.Stepping.{Kept, StepIn}
use Rattle.dri_world.proofs.Seating.{AreAway, alone_away, apart_two, seated_on, seated_opening, seated_through}
use Rattle.dri_world.proofs.Whose.{IsOf, turn_is_of}

-- more parties' turns
pub parties_join : (a b c : Course) (ps qs : List Party) (x y : Bool) → PartiesOn a b ps x → PartiesOn b c qs y → PartiesOn a c (ps ++ qs) (x || y)
parties_join a b c ps qs x y first second = record {
  goes_on = subst (GoesOn a c) (sym joined) (goes_on_on a b c (party_played a.scene a.events ps) (party_played a.scene (a.events ++ party_played a.scene a.events ps) qs) first.goes_on (subst (GoesOn b c) same second.goes_on));
  moves = subst (λ es. ((x || y) ≡ false) ↔ (es ≡ [])) (sym joined) (both x y (party_played a.scene a.events ps) (party_played a.scene (a.events ++ party_played a.scene a.events ps) qs) first.moves (subst (λ es. (y ≡ false) ↔ (es ≡ [])) same second.moves));
  less = less_less a b c x y first.less second.less;
  sound = second.sound;
}
  where
    joined : party_played a.scene a.events (ps ++ qs) ≡ party_played a.scene a.events ps ++ party_played a.scene (a.events ++ party_played a.scene a.events ps) qs
    joined = party_append a.scene a.events ps qs

    same : party_played b.scene b.events qs ≡ party_played a.scene (a.events ++ party_played a.scene a.events ps) qs
    same = ap (λ s. party_played s b.events qs) first.goes_on.scene ∙ ap (λ es. party_played a.scene es qs) first.goes_on.events

    both : (x y : Bool) (xs ys : List Event) → ((x ≡ false) ↔ (xs ≡ [])) → ((y ≡ false) ↔ (ys ≡ [])) → ((x || y) ≡ false) ↔ (xs ++ ys ≡ [])
    both true y xs ys f g = (λ h. absurd (true≢false h), λ h. absurd (true≢false (f.1 (none_first xs ys h))))
      where
        none_first : (es fs : List Event) → es ++ fs ≡ [] → es ≡ []
        none_first [] fs h = refl
        none_first (e ∷ es) fs h = absurd (no_cons h)
          where
            no_cons : e ∷ (es ++ fs) ≡ [] → ⊥
            no_cons h = grind arith
    both false y xs ys f g = (λ h. ap (λ t. t ++ ys) (f.0 refl) ∙ g.0 h, λ h. g.1 (ap (λ t. t ++ ys) (sym (f.0 refl)) ∙ h))

-- the turn of an actor alone
pub alone_on : (old new : Course) (a : ℕ) (t : Turned) → IsSound old → t ≡ turned (turn old.scene (core_of old) a) → GoesOn old new (one_event (turn old.scene (core_of old) a)) → PartiesOn old new (Alone a ∷ []) (is_move t)
alone_on old new a t sound told made = record {
  goes_on = subst (GoesOn old new) (sym one) made;
  moves = subst (λ u. (is_move u ≡ false) ↔ (party_played old.scene old.events (Alone a ∷ []) ≡ [])) (sym told)
      (subst (λ es. (is_move (turned (turn old.scene (core_of old) a)) ≡ false) ↔ (es ≡ [])) (sym one) (moves_on false (turn old.scene (core_of old) a) [] (λ h. refl, λ h. refl)));
  less = subst (λ u. LeavesLess old new (is_move u)) (sym told) (turn_falls old new a sound made);
  sound = record { good = subst InRange (sym made.scene) sound.good; run = subst (λ s. IsRun s new.events) (sym made.scene) (subst (IsRun old.scene) (sym made.events) (run_on old.scene old.events (Alone a) (well_formed old.scene sound.good) sound.run)) };
}
  where
    one : party_played old.scene old.events (Alone a ∷ []) ≡ one_event (turn old.scene (core_of old) a)
    one = append-nil (one_event (turn old.scene (core_of old) a))

-- the turn of a group is that of its current member
pub group_on : (old new : Course) (g : Grouping) (a : ℕ) (b : Bool) → current_after old.scene g old.events ≡ Some a → PartiesOn old new (Alone a ∷ []) b → PartiesOn old new (Group g ∷ []) b
group_on old new g a b current on = record { goes_on = subst (GoesOn old new) same on.goes_on; moves = subst (λ es. (b ≡ false) ↔ (es ≡ [])) same on.moves; less = on.less; sound = on.sound }
  where
    same : party_played old.scene old.events (Alone a ∷ []) ≡ party_played old.scene old.events (Group g ∷ [])
    same = ap (λ o. one_event o ++ []) (ap (turn_of_some old.scene (core_of old)) (sym current))

-- the seat after a group's turn that made an event
turned_did : (o : Option Event) (e : Event) → turned o ≡ Did e → o ≡ Some e
turned_did None e h = absurd (different h)
  where
    different : Passed ≡ Did e → ⊥
    different h = grind arith
turned_did (Some x) e h = ap Some (same_event h)
  where
    same_event : Did x ≡ Did e → x ≡ e
    same_event h = cc

pub did_seated : (old new : Course) (g : Grouping) (c : ℕ) (t : Turned) (e : Event) (seat seat' : Seat) → IsGood g → current_after old.scene g old.events ≡ Some c → IsCurrentSeat g (world_of old.scene old.events) (standing old.scene g (journal_of old.events)) seat →
    t ≡ turned (turn old.scene (core_of old) c) → t ≡ Did e → GoesOn old new (one_event (turn old.scene (core_of old) c)) → seat' ≡ moved_by g seat (entry_of e) → Seated new.scene g new.events seat'
did_seated old new g c t e seat seat' good current of told did made is =
    subst (λ s. Seated s g new.events seat') (sym made.scene)
    (subst (λ es. Seated old.scene g es seat') (sym (made.events ∙ ap (λ o. old.events ++ one_event o) one))
    (subst (Seated old.scene g (old.events ++ e ∷ [])) (sym is) (seated_on old.scene g old.events e seat good (current ∙ ap Some (sym actor)) of)))
  where
    one : turn old.scene (core_of old) c ≡ Some e
    one = turned_did (turn old.scene (core_of old) c) e (sym told ∙ did)

    actor : actor_of e ≡ c
    actor = subst (IsOf c) one (turn_is_of old.scene (core_of old) c)

-- the parties of a round, one more each
one_more : {A B : Type 0} (f : A → B) (xs : List A) (i : ℕ) (x : A) → slice_get xs i ≡ Some x → map f (take (i + 1) xs) ≡ map f (take i xs) ++ f x ∷ []
one_more f [] i x at_i = absurd (let l = slice_get_within [] i x at_i in omega (arith, l))
one_more f (y ∷ ys) zero x at_i = let same : y ≡ x = same_Some y x at_i in ap (λ z. f z ∷ []) same
one_more f (y ∷ ys) (suc i) x at_i = let e : suc i + 1 ≡ suc (i + 1) = omega arith in ap (λ n. map f (take n (y ∷ ys))) e ∙ ap (λ t. f y ∷ t) (one_more f ys i x at_i)

pub group_more : (groups : List Grouping) (i : ℕ) (g : Grouping) → slice_get groups i ≡ Some g → map Group (take (i + 1) groups) ≡ map Group (take i groups) ++ Group g ∷ []
group_more groups i g at_i = one_more Group groups i g at_i

pub alone_more : (groups : List Grouping) (cs : List ℕ) (i c : ℕ) → slice_get cs i ≡ Some c → in_groups groups c ≡ false → map Alone (ungrouped groups (take (i + 1) cs)) ≡ map Alone (ungrouped groups (take i cs)) ++ Alone c ∷ []
alone_more groups [] i c at_i out = absurd (let l = slice_get_within {A = ℕ} [] i c at_i in omega (arith, l))
alone_more groups (y ∷ ys) zero c at_i out = let same : y ≡ c = same_Some y c at_i in rw (ap (in_groups groups) same ∙ out) (ap (λ z. Alone z ∷ []) same)
alone_more groups (y ∷ ys) (suc i) c at_i out =
    let e : suc i + 1 ≡ suc (i + 1) = omega arith in
    ap (λ n. map Alone (ungrouped groups (take n (y ∷ ys)))) e ∙ by_group (in_groups groups y) refl (alone_more groups ys i c at_i out)
  where
    by_group : (b : Bool) → in_groups groups y ≡ b → map Alone (ungrouped groups (take (i + 1) ys)) ≡ map Alone (ungrouped groups (take i ys)) ++ Alone c ∷ [] →
        map Alone (ungrouped groups (y ∷ take (i + 1) ys)) ≡ map Alone (ungrouped groups (y ∷ take i ys)) ++ Alone c ∷ []
    by_group true h later = rw h later
    by_group false h later = rw h (ap (λ t. Alone y ∷ t) later)

pub alone_same : (groups : List Grouping) (cs : List ℕ) (i c : ℕ) → slice_get cs i ≡ Some c → in_groups groups c ≡ true → map Alone (ungrouped groups (take (i + 1) cs)) ≡ map Alone (ungrouped groups (take i cs))
alone_same groups [] i c at_i inside = absurd (let l = slice_get_within {A = ℕ} [] i c at_i in omega (arith, l))
alone_same groups (y ∷ ys) zero c at_i inside = let same : y ≡ c = same_Some y c at_i in rw (ap (in_groups groups) same ∙ inside) refl
alone_same groups (y ∷ ys) (suc i) c at_i inside =
    let e : suc i + 1 ≡ suc (i + 1) = omega arith in
    ap (λ n. map Alone (ungrouped groups (take n (y ∷ ys)))) e ∙ by_group (in_groups groups y) refl (alone_same groups ys i c at_i inside)
  where
    by_group : (b : Bool) → in_groups groups y ≡ b → map Alone (ungrouped groups (take (i + 1) ys)) ≡ map Alone (ungrouped groups (take i ys)) →
        map Alone (ungrouped groups (y ∷ take (i + 1) ys)) ≡ map Alone (ungrouped groups (y ∷ take i ys))
    by_group true h later = rw h later
    by_group false h later = rw h (ap (λ t. Alone y ∷ t) later)

-- one client more: it takes its turn, or it is in a group
pub lone_step : (old now new after : Course) (groups : List Grouping) (i n : ℕ) (b x b' : Bool) (t : Turned) → slice_get (client_numbers old.scene.clients) i ≡ Some n → in_groups groups n ≡ false →
    PartiesOn old now (map Alone (ungrouped groups (take i (client_numbers old.scene.clients)))) b → t ≡ turned (turn now.scene (core_of now) n) → GoesOn now new (one_event (turn now.scene (core_of now) n)) → x ≡ is_move t → after ≡ new → b' ≡ (b || x) →
    PartiesOn old after (map Alone (ungrouped groups (take (i + 1) (client_numbers old.scene.clients)))) b'
lone_step old now new after groups i n b x b' t at_i out on told made moved same joined =
    subst (λ (w : Course). PartiesOn old w (map Alone (ungrouped groups (take (i + 1) (client_numbers old.scene.clients)))) b') (sym same)
    (subst (PartiesOn old new (map Alone (ungrouped groups (take (i + 1) (client_numbers old.scene.clients))))) (sym (joined ∙ ap (λ y. b || y) moved))
    (subst (λ ps. PartiesOn old new ps (b || is_move t)) (sym (alone_more groups (client_numbers old.scene.clients) i n at_i out))
    (parties_join old now new (map Alone (ungrouped groups (take i (client_numbers old.scene.clients)))) (Alone n ∷ []) b (is_move t) on (alone_on now new n t on.sound told made))))

pub lone_passed : (old now after : Course) (groups : List Grouping) (i n : ℕ) (b b' : Bool) → slice_get (client_numbers old.scene.clients) i ≡ Some n → in_groups groups n ≡ true →
    PartiesOn old now (map Alone (ungrouped groups (take i (client_numbers old.scene.clients)))) b → after ≡ now → b' ≡ b →
    PartiesOn old after (map Alone (ungrouped groups (take (i + 1) (client_numbers old.scene.clients)))) b'
lone_passed old now after groups i n b b' at_i inside on same moved =
    subst (λ (w : Course). PartiesOn old w (map Alone (ungrouped groups (take (i + 1) (client_numbers old.scene.clients)))) b') (sym same)
    (subst (PartiesOn old now (map Alone (ungrouped groups (take (i + 1) (client_numbers old.scene.clients))))) (sym moved)
    (subst (λ ps. PartiesOn old now ps b) (sym (alone_same groups (client_numbers old.scene.clients) i n at_i inside)) on))

-- the seats through turns of parties that are away from each group
pub seats_through : (old new : Course) (groups : List Grouping) (ps : List Party) (b : Bool) (seats : List Seat) → InRange old.scene → AreGroupings old.scene groups → ((i : ℕ) (g : Grouping) → slice_get groups i ≡ Some g → AreAway g ps) → PartiesOn old new ps b →
    AreSeated old.scene groups old.events seats → AreSeated new.scene groups new.events seats
seats_through old new groups ps b seats range are away on seated = record {
  number = seated.number;
  each = λ i g seat at_g at_seat.
      subst (λ s. Seated s g new.events seat) (sym on.goes_on.scene) (subst (λ es. Seated old.scene g es seat) (sym on.goes_on.events)
      (seated_through old.scene g old.events ps seat (settled_at old.scene groups i g range are at_g).good (away i g at_g) (seated.each i g seat at_g at_seat)));
}

-- one group's turn
pub seats_one : (old new : Course) (groups : List Grouping) (i : ℕ) (g : Grouping) (b : Bool) (seats : List Seat) (seat : Seat) → InRange old.scene → AreGroupings old.scene groups → slice_get groups i ≡ Some g → PartiesOn old new (Group g ∷ []) b →
    AreSeated old.scene groups old.events seats → Seated new.scene g new.events seat → AreSeated new.scene groups new.events (set seats i seat)
seats_one old new groups i g b seats seat range are at_i on seated one = record {
  number = length-set seats i seat ∙ seated.number;
  each = λ j h other at_h at_other. by_place j h other at_h at_other (cases_eq j i);
}
  where
    by_place : (j : ℕ) (h : Grouping) (other : Seat) → slice_get groups j ≡ Some h → slice_get (set seats i seat) j ≡ Some other → (j ≡ i) ⊎ (j ≡ i → ⊥) → Seated new.scene h new.events other
    by_place j h other at_h at_other (inl same) =
        let is : g ≡ h = same_Some g h (sym at_i ∙ ap (slice_get groups) (sym same) ∙ at_h) in
        let put : other ≡ seat = written seats i seat other (ap (slice_get (set seats i seat)) (sym same) ∙ at_other) in
        subst (λ (x : Grouping). Seated new.scene x new.events other) is (subst (Seated new.scene g new.events) (sym put) one)
    by_place j h other at_h at_other (inr ne) =
        subst (λ s. Seated s h new.events other) (sym on.goes_on.scene) (subst (λ es. Seated old.scene h es other) (sym on.goes_on.events)
        (seated_through old.scene h old.events (Group g ∷ []) other (settled_at old.scene groups j h range are at_h).good
        (((settled_at old.scene groups i g range are at_i).good, λ c x y. apart_two groups j i h g c are.apart at_h at_i ne x y), tt)
        (seated.each j h other at_h (unwritten seats i j seat other ne at_other))))

-- clients in no group, and the server, are away from each group
pub away_alone : (s : Scene) (groups : List Grouping) (i : ℕ) (g : Grouping) → slice_get groups i ≡ Some g → AreAway g (map Alone (ungrouped groups (client_numbers s.clients)))
away_alone s groups i g at_i = alone_away g (ungrouped groups (client_numbers s.clients)) (apart_ungrouped groups i g (client_numbers s.clients) at_i)

pub away_server : (s : Scene) (groups : List Grouping) (i : ℕ) (g : Grouping) → InRange s → AreGroupings s groups → slice_get groups i ≡ Some g → AreAway g (Alone 0 ∷ [])
away_server s groups i g range are at_i = (no_server s groups i g range are at_i, tt)

-- a round
pub round_on : (a b c d : Course) (groups : List Grouping) (x y z : Bool) → PartiesOn a b (map Group groups) x → PartiesOn b c (map Alone (ungrouped groups (client_numbers b.scene.clients))) y → PartiesOn c d (Alone 0 ∷ []) z →
    PartiesOn a d (parties a.scene groups) ((x || y) || z)
round_on a b c d groups x y z first second third =
    subst (PartiesOn a d (parties a.scene groups)) (sym (or_twice x y z))
    (parties_join a b d (map Group groups) (map Alone (ungrouped groups (client_numbers a.scene.clients)) ++ Alone 0 ∷ []) x (y || z) first
    (parties_join b c d (map Alone (ungrouped groups (client_numbers a.scene.clients))) (Alone 0 ∷ []) y z
    (subst (λ (s : Scene). PartiesOn b c (map Alone (ungrouped groups (client_numbers s.clients))) y) first.goes_on.scene second) third))
  where
    or_twice : (x y z : Bool) → ((x || y) || z) ≡ (x || (y || z))
    or_twice true y z = refl
    or_twice false y z = refl

-- so many rounds of groups were played; where the last one made no event, one more would make none
pub record PlaysGroups (s : Scene) (groups : List Grouping) (w : Course) (seats : List Seat) (moves : Bool) : Type 0 where
  pub number : ℕ
  pub scene : w.scene ≡ s
  pub made : w.events ≡ group_rounds s groups number
  pub nothing : moves ≡ false → party_played s w.events (parties s groups) ≡ []
  pub sound : IsSound w
  pub seated : AreSeated w.scene groups w.events seats

pub plays_round : (s : Scene) (groups : List Grouping) (old new : Course) (before after : List Seat) (moves b : Bool) → PlaysGroups s groups old before moves → PartiesOn old new (parties old.scene groups) b → AreSeated new.scene groups new.events after →
    PlaysGroups s groups new after b
plays_round s groups old new before after moves b plays on seated = record {
  number = suc plays.number;
  scene = on.goes_on.scene ∙ plays.scene;
  made = on.goes_on.events ∙ ap (λ t. old.events ++ t) here ∙ ap (λ es. es ++ party_played s es (parties s groups)) plays.made;
  nothing = λ e. let none = sym here ∙ on.moves.0 e in ap (λ es. party_played s es (parties s groups)) (on.goes_on.events ∙ ap (λ t. old.events ++ t) (on.moves.0 e) ∙ append-nil old.events) ∙ none;
  sound = on.sound;
  seated = seated;
}
  where
    here : party_played old.scene old.events (parties old.scene groups) ≡ party_played s old.events (parties s groups)
    here = ap (λ t. party_played t old.events (parties t groups)) plays.scene

-- what is left once a round made no event
pub groups_whole : (s : Scene) (groups : List Grouping) (w : Course) (seats : List Seat) → InRange s → AreGroupings s groups → PlaysGroups s groups w seats false → Whole w.scene (journal_of w.events)
groups_whole s groups w seats range are plays =
    subst (λ t. Whole t (journal_of w.events)) (sym plays.scene) (whole_by_groups s groups w.events range are (subst (λ t. IsRun t w.events) plays.scene plays.sound.run) (λ i g at_i. subst (Kept s g) (sym plays.made) (kept_at s groups i g plays.number range are at_i)) (plays.nothing refl))

pub groups_segmented : (s : Scene) (groups : List Grouping) (w : Course) (seats : List Seat) → InRange s → AreGroupings s groups → PlaysGroups s groups w seats false → All (λ g. IsSegmented w.scene g (journal_of w.events)) groups
groups_segmented s groups w seats range are plays i g l =
    subst (λ t. IsSegmented t (get_or groups i g) (journal_of w.events)) (sym plays.scene)
    (segmented s (get_or groups i g) (settled_at s groups i (get_or groups i g) range are at_i).good (journal_of w.events)
    (subst (λ es. StepIn s (get_or groups i g) (opening s) first_standing (journal_of es)) (sym plays.made) (kept_at s groups i (get_or groups i g) plays.number range are at_i).steps)
    (subst (λ t. Whole t (journal_of w.events)) plays.scene (groups_whole s groups w seats range are plays)))
  where
    at_i : slice_get groups i ≡ Some (get_or groups i g)
    at_i = slice_get-get_or groups i g l

-- the opening
abbrev pub first_seat : Seat
first_seat = record { place = 0; ran = false }

pub plays_opening : (s : Scene) (groups : List Grouping) (w : Course) (seats : List Seat) → InRange s → AreGroupings s groups → w ≡ record { scene = s; events = [] } → seats ≡ replicate (length groups) first_seat → PlaysGroups s groups w seats true
plays_opening s groups w seats range are is same =
    subst (λ x. PlaysGroups s groups w x true) (sym same) (subst (λ (x : Course). PlaysGroups s groups x (replicate (length groups) first_seat) true) (sym is) (record {
      number = 0;
      scene = refl;
      made = refl;
      nothing = λ e. absurd (true≢false e);
      sound = record { good = range; run = tt };
      seated = record {
        number = length-replicate (length groups) first_seat;
        each = λ i g seat at_g at_seat.
            let here = seat_same i seat (slice_get_within (replicate (length groups) first_seat) i seat at_seat) at_seat in
            subst (Seated s g []) (sym here) (seated_opening s g (settled_at s groups i g range are at_g).good);
      };
    }))
  where
    seat_same : (i : ℕ) (seat : Seat) → i < length (replicate (length groups) first_seat) → slice_get (replicate (length groups) first_seat) i ≡ Some seat → seat ≡ first_seat
    seat_same i seat l at_seat =
        let inside = length-replicate (length groups) first_seat in
        sym (get_or_from_slice_get (replicate (length groups) first_seat) i seat seat at_seat) ∙ get_or-replicate (length groups) i first_seat seat (omega (arith, l, inside))
