-- Where no party can go on, the run is whole.
use Rattle.std.proofs.Common.{◌≡◌, ◌≤◌, ◌+◌, ℕ, zero, suc, List, [], ◌∷◌, ◌++◌, Bool, true, false, Option, Some, None, length, map, arith, refl, sym, ap, ◌∙◌, subst, inl, inr}
use Rattle.std.specs.Prelude.{◌==◌, ◌⊎◌, Contains, nat_lt, slice_get}
use Rattle.std.proofs.lemmas.Bool.{cases_eq, true≢false}
use Rattle.std.proofs.lemmas.Bool.Decides.{nat_tests}
use Rattle.std.proofs.lemmas.List.{append-nil}
use Rattle.std.proofs.lemmas.Option.{same_Some, slice_get_within}
use Rattle.dri_base.specs.Ranges.{InRange, client_numbers}
use Rattle.dri_base.specs.Scenes.{script_in}
use Rattle.dri_base.specs.declared.journal.Event.{Event}
use Rattle.dri_base.specs.declared.journal.Event.TheVariants.{Change}
use Rattle.dri_base.specs.declared.scene.ClientScript.{ClientScript}
use Rattle.dri_base.specs.declared.scene.Scene.{Scene}
use Rattle.dri_base.proofs.RangeLemmas.{IsWellFormed, well_formed}
use Rattle.dri_core.specs.CoreRuns.{IsRun, after_events, world_of}
use Rattle.dri_core.specs.Cores.{Core, is_next, is_queued, journal_of, opening_core}
use Rattle.dri_core.specs.Phases.{Phase, is_done, is_holding}
use Rattle.dri_core.specs.Runs.{IsWholeWorld, Whole}
use Rattle.dri_core.specs.Turns.{one_event, server_turn, turn, turn_of}
use Rattle.dri_core.proofs.Cores.{holding_live, journal_after, wanting_live}
use Rattle.dri_core.proofs.Endings.{goes, has_command, moves, some_none, turn_client}
use Rattle.dri_core.proofs.Going.{Going, going_after}
use Rattle.dri_many.specs.Groupings.{AreGroupings}
use Rattle.dri_many.specs.declared.grouping.Grouping.{Grouping}
use Rattle.dri_world.specs.Currents.{Standing, is_member, is_over, live_place, member_at, reach, standing}
use Rattle.dri_world.specs.GroupRuns.{Alone, Group, Party, current_after, in_groups, parties, party_event, party_played, turn_of_some, ungrouped}
use Rattle.dri_world.proofs.Orders.{live_is, member_there, none_left}
use Rattle.dri_world.proofs.Stepping.{Kept}
use Rattle.dri_world.proofs.Tidy.{Quiet, current_has, is_resting}

-- no party makes an event
abbrev NoneMove : Scene → List Event → List Party → Type 0
NoneMove s past [] = Unit {0}
NoneMove s past (p ∷ ps) = (party_event s past p ≡ None) × NoneMove s past ps

none_move : (s : Scene) (past : List Event) (ps : List Party) → party_played s past ps ≡ [] → NoneMove s past ps
none_move s past [] e = tt
none_move s past (p ∷ ps) e = by_event (party_event s past p) refl e (none_move s past ps)
  where
    no_cons : (x : Event) (xs : List Event) → x ∷ xs ≡ [] → ⊥
    no_cons x xs h = grind arith

    by_event : (o : Option Event) → party_event s past p ≡ o → one_event o ++ party_played s (past ++ one_event o) ps ≡ [] → (party_played s past ps ≡ [] → NoneMove s past ps) → (party_event s past p ≡ None) × NoneMove s past ps
    by_event None is h later = (is, later (ap (λ t. party_played s t ps) (sym (append-nil past)) ∙ h))
    by_event (Some x) is h later = absurd (no_cons x (party_played s (past ++ x ∷ []) ps) h)

none_parts : (s : Scene) (past : List Event) (ps qs : List Party) → NoneMove s past (ps ++ qs) → NoneMove s past ps × NoneMove s past qs
none_parts s past [] qs all = (tt, all)
none_parts s past (p ∷ ps) qs all = let r = none_parts s past ps qs all.1 in ((all.0, r.0), r.1)

none_group : (s : Scene) (past : List Event) (groups : List Grouping) (i : ℕ) (g : Grouping) → slice_get groups i ≡ Some g → NoneMove s past (map Group groups) → party_event s past (Group g) ≡ None
none_group s past [] i g is all = absurd (let l = slice_get_within {A = Grouping} [] i g is in omega (arith, l))
none_group s past (h ∷ hs) zero g is all = let same : h ≡ g = same_Some h g is in subst (λ (x : Grouping). party_event s past (Group x) ≡ None) same all.0
none_group s past (h ∷ hs) (suc i) g is all = none_group s past hs i g is all.1

none_alone : (s : Scene) (past : List Event) (groups : List Grouping) (clients : List ℕ) (c : ℕ) → Contains clients c → in_groups groups c ≡ false → NoneMove s past (map Alone (ungrouped groups clients)) → turn s (after_events s (opening_core s) past) c ≡ None
none_alone s past groups [] c (k, l, e) out all = absurd (omega (arith, l))
none_alone s past groups (x ∷ xs) c (zero, l, e) out all =
    let other : in_groups groups x ≡ false = ap (in_groups groups) e ∙ out in
    subst (λ n. turn s (after_events s (opening_core s) past) n ≡ None) e (rw other at all).0
none_alone s past groups (x ∷ xs) c (suc k, l, e) out all = by_group (in_groups groups x) refl (none_alone s past groups xs c (k, omega (arith, l), e) out)
  where
    by_group : (b : Bool) → in_groups groups x ≡ b → (NoneMove s past (map Alone (ungrouped groups xs)) → turn s (after_events s (opening_core s) past) c ≡ None) → turn s (after_events s (opening_core s) past) c ≡ None
    by_group true h later = later (rw h at all)
    by_group false h later = later (rw h at all).1

-- a group that has the client
record GroupOf (groups : List Grouping) (c : ℕ) : Type 0 where
  at : ℕ
  group : Grouping
  stands : slice_get groups at ≡ Some group
  member : Contains group.members c

group_of : (groups : List Grouping) (c : ℕ) → in_groups groups c ≡ true → GroupOf groups c
group_of [] c e = absurd (true≢false (sym e))
group_of (g ∷ gs) c e = by_member (is_member g c) refl (group_of gs c)
  where
    by_member : (b : Bool) → is_member g c ≡ b → (in_groups gs c ≡ true → GroupOf gs c) → GroupOf (g ∷ gs) c
    by_member true m later = record { at = 0; group = g; stands = refl; member = member_there g.members c m }
    by_member false m later = let r = later (rw m at e) in record { at = suc r.at; group = r.group; stands = r.stands; member = r.member }

-- a client with a command is one of the scene's
there_client : (ps : List ClientScript) (c : ℕ) → ((script_in ps c).commands ≡ [] → ⊥) → Contains (client_numbers ps) c
there_client [] c some = absurd (some refl)
there_client (p ∷ ps) c some = by_name (p.number == c) refl (there_client ps c)
  where
    by_name : (b : Bool) → (p.number == c) ≡ b → (((script_in ps c).commands ≡ [] → ⊥) → Contains (client_numbers ps) c) → Contains (client_numbers (p ∷ ps)) c
    by_name true n later = (0, omega arith, grind (arith, nat_tests))
    by_name false n later = let r = later (λ h. some (rw n h)) in (suc r.0, omega (arith, r.1), r.2)

module _ (s : Scene) (groups : List Grouping) (events : List Event) (range : InRange s) (are : AreGroupings s groups) (run : IsRun s events)
    (kept : (i : ℕ) (g : Grouping) → slice_get groups i ≡ Some g → Kept s g events) (none : NoneMove s events (parties s groups)) where
  abbrev k : Core
  k = after_events s (opening_core s) events

  good : IsWellFormed s
  good = well_formed s range

  going : Going s (after_events s (opening_core s) events)
  going = going_after s events (well_formed s range) run

  grouped : NoneMove s events (map Group groups)
  grouped = (none_parts s events (map Group groups) (map Alone (ungrouped groups (client_numbers s.clients)) ++ Alone 0 ∷ []) none).0

  alone : NoneMove s events (map Alone (ungrouped groups (client_numbers s.clients))) × NoneMove s events (Alone 0 ∷ [])
  alone = none_parts s events (map Alone (ungrouped groups (client_numbers s.clients))) (Alone 0 ∷ []) (none_parts s events (map Group groups) (map Alone (ungrouped groups (client_numbers s.clients)) ++ Alone 0 ∷ []) none).1

  server_stuck : server_turn s k ≡ None
  server_stuck = alone.1.0

  -- a client that isn't done makes no event, or it rests in a group that has another current member
  record Rests (c : ℕ) : Type 0 where
    of : GroupOf groups c
    quiet : Quiet k c

  stuck : (c : ℕ) → turn s k c ≡ None → is_done (k.world.client c).phase ≡ false → turn_of s k c ≡ None
  stuck c h live = turn_client s k c good (has_command s k.world c going.lively live) h

  stuck_or_rests : (c : ℕ) → is_done (k.world.client c).phase ≡ false → (turn_of s k c ≡ None) ⊎ Rests c
  stuck_or_rests c live = by_group (in_groups groups c) refl
    where
      there : Contains (client_numbers s.clients) c
      there = there_client s.clients c (has_command s k.world c going.lively live)

      by_current : (x : GroupOf groups c) → (o : Option ℕ) → current_after s x.group events ≡ o → (turn_of s k c ≡ None) ⊎ Rests c
      by_current x None is = inr (record { of = x; quiet = (kept x.at x.group x.stands).tidy.others c x.member (λ h. absurd (none_some (sym is ∙ h))) })
        where
          none_some : None ≡ Some c → ⊥
          none_some h = grind arith
      by_current x (Some d) is = by_name (cases_eq d c)
        where
          by_name : (d ≡ c) ⊎ (d ≡ c → ⊥) → (turn_of s k c ≡ None) ⊎ Rests c
          by_name (inl same) = inl (stuck c (ap (turn_of_some s k) (sym (is ∙ ap Some same)) ∙ none_group s events groups x.at x.group x.stands grouped) live)
          by_name (inr ne) = inr (record { of = x; quiet = (kept x.at x.group x.stands).tidy.others c x.member (λ h. ne (same_Some d c (sym is ∙ h))) })

      by_group : (b : Bool) → in_groups groups c ≡ b → (turn_of s k c ≡ None) ⊎ Rests c
      by_group false h = inl (stuck c (none_alone s events groups (client_numbers s.clients) c there h alone.0) live)
      by_group true h = let x = group_of groups c h in by_current x (current_after s x.group events) refl

  rests_not : (p : Phase) → is_resting p ≡ true → is_holding p ≡ true → ⊥
  rests_not p a b = grind arith

  holder_moves : (c : ℕ) → k.world.holder ≡ Some c → ⊥
  holder_moves c h = by_stuck (stuck_or_rests c (holding_live _ (going.lively.held c h)))
    where
      by_stuck : (turn_of s k c ≡ None) ⊎ Rests c → ⊥
      by_stuck (inl x) = moves s k c going.known going.lively (inl (going.lively.held c h)) x
      by_stuck (inr x) = rests_not (k.world.client c).phase x.quiet.resting (going.lively.held c h)

  unheld : k.world.holder ≡ None
  unheld = by_holder k.world.holder refl
    where
      by_holder : (o : Option ℕ) → k.world.holder ≡ o → k.world.holder ≡ None
      by_holder None h = h
      by_holder (Some c) h = absurd (holder_moves c h)

  free : k.word.held ≡ false
  free = going.known.tied.free unheld

  server_goes : is_next 0 k.queue ≡ true → suc k.world.made ≤ length s.changes → ⊥
  server_goes next left = some_none (server_turn s k) (Change (k.world.made + 1)) (rw yes (goes s k 0 (Change (k.world.made + 1)) free next)) server_stuck
    where
      yes : nat_lt k.world.made (length s.changes) ≡ true
      yes = grind (arith, nat_tests, left)

  none_waits : (q : List ℕ) → k.queue ≡ q → q ≡ []
  none_waits [] e = refl
  none_waits (zero ∷ q) e = absurd (server_goes (rw e refl) (going.known.queued.server (rw e refl)))
  none_waits (suc c ∷ q) e = absurd (by_stuck (stuck_or_rests (suc c) live))
    where
      same : (n : ℕ) → (n == n) ≡ true
      same n = grind (arith, nat_tests)

      next : is_next (suc c) k.queue ≡ true
      next = rw e (same (suc c))

      inside : is_queued (suc c) k.queue ≡ true
      inside = rw e (rw (same (suc c)) refl)

      live : is_done (k.world.client (suc c)).phase ≡ false
      live = elim (going.known.queued.wants (suc c) (omega arith) inside) [ inl st ↦ (going.known.tied.dying (suc c) st).1 | inr w ↦ wanting_live _ w ]

      by_stuck : (turn_of s k (suc c) ≡ None) ⊎ Rests (suc c) → ⊥
      by_stuck (inl x) = moves s k (suc c) going.known going.lively (inr (live, free, next)) x
      by_stuck (inr x) = true≢false (sym inside ∙ x.quiet.unqueued)

  empty_queue : k.queue ≡ []
  empty_queue = none_waits k.queue refl

  goes_on : (c : ℕ) → is_done (k.world.client c).phase ≡ false → turn_of s k c ≡ None → ⊥
  goes_on c live x = moves s k c going.known going.lively (inr (live, free, rw empty_queue refl)) x

  -- where a member rests that isn't done, the current member goes on
  current_goes : (c : ℕ) → is_done (k.world.client c).phase ≡ false → GroupOf groups c → ⊥
  current_goes c live x = by_current (current_after s x.group events) refl
    where
      t : Standing
      t = standing s x.group (journal_of events)

      by_current : (o : Option ℕ) → current_after s x.group events ≡ o → ⊥
      by_current None is = by_place (live_place x.group (world_of s events) (standing s x.group (journal_of events)).place (reach x.group)) refl is
        where
          some_none_at : {d : ℕ} → Some d ≡ None → ⊥
          some_none_at h = grind arith

          by_place : (o : Option ℕ) → live_place x.group (world_of s events) (standing s x.group (journal_of events)).place (reach x.group) ≡ o → member_at x.group o ≡ None → ⊥
          by_place None none_is h = true≢false (sym (none_left x.group (world_of s events) (standing s x.group (journal_of events)).place c none_is x.member) ∙ live)
          by_place (Some p) some_is h = some_none_at h
      by_current (Some d) is =
          let has = current_has x.group (world_of s events) (standing s x.group (journal_of events)) d is in
          let first = live_is x.group (world_of s events) (standing s x.group (journal_of events)).place (reach x.group) has.0 has.1.place_is in
          let live_too = subst (λ m. is_over (world_of s events) m ≡ false) has.1.stands first.live in
          goes_on d live_too (stuck d (ap (turn_of_some s k) (sym is) ∙ none_group s events groups x.at x.group x.stands grouped) live_too)

  done : (c : ℕ) → is_done (k.world.client c).phase ≡ true
  done c = by_done (is_done (k.world.client c).phase) refl
    where
      by_stuck : is_done (k.world.client c).phase ≡ false → (turn_of s k c ≡ None) ⊎ Rests c → ⊥
      by_stuck live (inl x) = goes_on c live x
      by_stuck live (inr x) = current_goes c live x.of

      by_done : (b : Bool) → is_done (k.world.client c).phase ≡ b → is_done (k.world.client c).phase ≡ true
      by_done true d = d
      by_done false d = absurd (by_stuck d (stuck_or_rests c d))

  made : k.world.made ≡ length s.changes
  made = by_left (nat_lt k.world.made (length s.changes)) refl
    where
      by_left : (b : Bool) → nat_lt k.world.made (length s.changes) ≡ b → k.world.made ≡ length s.changes
      by_left true n = absurd (server_goes (rw empty_queue refl) (grind (arith, nat_tests)))
      by_left false n = grind (arith, nat_tests, going.lively.made)

  pub whole_at_end : Whole s (journal_of events)
  whole_at_end = subst (IsWholeWorld s) (sym (journal_after s events)) (record {
    unheld = unheld;
    asking = λ c p. true≢false (sym (done c) ∙ ap is_done p);
    done = done;
    made = made;
  })

-- where a round of parties brings nothing, the journal is whole
pub whole_by_groups : (s : Scene) (groups : List Grouping) (events : List Event) → InRange s → AreGroupings s groups → IsRun s events → ((i : ℕ) (g : Grouping) → slice_get groups i ≡ Some g → Kept s g events) →
    party_played s events (parties s groups) ≡ [] → Whole s (journal_of events)
whole_by_groups s groups events range are run kept nothing = whole_at_end s groups events range are run kept (none_move s events (parties s groups) nothing)
