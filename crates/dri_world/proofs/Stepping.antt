-- One event more: what groups keep through it.
use Rattle.std.proofs.Common.{◌≡◌, ◌<◌, ◌+◌, ℕ, List, [], ◌∷◌, ◌++◌, Bool, true, false, Option, Some, None, arith, refl, sym, ap, ◌∙◌, subst, inl, inr}
use Rattle.std.specs.Prelude.{◌⊎◌, Contains}
use Rattle.std.proofs.lemmas.Bool.{cases_eq, true≢false}
use Rattle.std.proofs.lemmas.List.{append-nil}
use Rattle.dri_base.specs.declared.command.Command.{Command}
use Rattle.dri_base.specs.declared.journal.Entry.{Entry}
use Rattle.dri_base.specs.declared.journal.Event.{Event}
use Rattle.dri_base.specs.declared.journal.Event.TheVariants.{Stop}
use Rattle.dri_base.specs.declared.scene.Scene.{Scene}
use Rattle.dri_base.specs.Scenes.{commands_of}
use Rattle.dri_core.specs.CoreRuns.{after_events}
use Rattle.dri_core.specs.Cores.{Core, entry_of, journal_of, opening_core, with_entry}
use Rattle.dri_core.specs.EntryTable.{after_entry}
use Rattle.dri_core.specs.EventTable.{LegalEvent, after_event, world_after}
use Rattle.dri_core.specs.Phases.{Over, first_phase}
use Rattle.dri_core.specs.Runs.{after_entries, client_of}
use Rattle.dri_core.specs.TurnLaws.{actor_of}
use Rattle.dri_core.specs.Worlds.{World, opening}
use Rattle.dri_core.proofs.CoreLaws.{journal-append}
use Rattle.dri_core.proofs.Cores.{journal_after}
use Rattle.dri_core.proofs.Invariant.{is_acting}
use Rattle.dri_core.proofs.Rounds.{after_append}
use Rattle.dri_core.proofs.TurnEvents.{Known}
use Rattle.dri_many.specs.declared.grouping.Grouping.{Grouping}
use Rattle.dri_world.specs.Currents.{Standing, current_at, current_member, ends_segment, first_standing, is_member, is_over, member_at, moved_on, ran_after, standing, stands_after, stands_on}
use Rattle.dri_world.proofs.Orders.{IsFirstLive, IsGood, live_near, member_there, stands_member, there_member}
use Rattle.dri_world.proofs.Tidy.{Acts, ActsBy, HasCurrent, Keeps, Quiet, Tidy, acts, away, client_is, current_has, fits_current, has_current, is_resting, moved_is, quiet_on, ran_place, stays, stood}

same_some : {a b : ℕ} → Some a ≡ Some b → a ≡ b
same_some e = cc

-- nobody ran at the opening
pub tidy_opening : (s : Scene) (g : Grouping) → Tidy g (opening_core s) first_standing
tidy_opening s g = record {
  ran = λ r. absurd (true≢false (sym r));
  over = λ c current phase. absurd (not_first (commands_of s c) phase);
  others = λ c there not_current. record { resting = first_rests (commands_of s c); unqueued = refl; living = refl };
}
  where
    not_first : (cs : List Command) → first_phase cs ≡ Over → ⊥
    not_first [] h = grind arith
    not_first (c ∷ cs) h = grind arith

    first_rests : (cs : List Command) → is_resting (first_phase cs) ≡ true
    first_rests [] = refl
    first_rests (c ∷ cs) = refl

module _ (s : Scene) (g : Grouping) (k : Core) (known : Known s k) (t : Standing) (e : Event) (good : IsGood g) (tidy : Tidy g k t) (place : ℕ) (has : HasCurrent g k.world t (actor_of e) place) where
  rests_on : (c : ℕ) → Contains g.members c → (actor_of e ≡ c → ⊥) → Quiet (after_event s k e) c
  rests_on c there ne = quiet_on s k e c ne (tidy.others c there (λ is. ne (same_some (sym (has_current g k.world t (actor_of e) place has) ∙ is))))

  no_entry : entry_of e ≡ None → Tidy g (after_event s k e) t
  no_entry is = record {
    ran = λ r. subst (λ (w : World). is_acting (w.client (current_at g t.place)).phase ≡ true) (sym same) (tidy.ran r);
    over = λ c current phase. tidy.over c (ap (λ (w : World). current_member g w t) (sym same) ∙ current) (ap (λ (w : World). (w.client c).phase) (sym same) ∙ phase);
    others = λ c there not_current. rests_on c there (λ actor. not_current (ap (λ (w : World). current_member g w t) same ∙ has_current g k.world t (actor_of e) place has ∙ ap Some actor));
  }
    where
      same : (after_event s k e).world ≡ k.world
      same = ap (world_after s k.world) is

  goes_on : (ran : Bool) → Keeps ran ((after_event s k e).world.client (actor_of e)).phase → Tidy g (after_event s k e) (record { place = place; ran = ran })
  goes_on ran keeps = record {
    ran = λ r. ap (λ c. is_acting ((after_event s k e).world.client c).phase) has.stands ∙ keeps.acting r;
    over = λ c current phase. let same : actor_of e ≡ c = same_some (sym still ∙ current) in keeps.over (ap (λ c. ((after_event s k e).world.client c).phase) same ∙ phase);
    others = λ c there not_current. rests_on c there (λ actor. not_current (still ∙ ap Some actor));
  }
    where
      first : IsFirstLive g (after_event s k e).world place place
      first = record { later = omega arith; live = ap (is_over (after_event s k e).world) has.stands ∙ keeps.live; over = λ n l r. absurd (omega (arith, l, r)) }

      still : current_member g (after_event s k e).world (record { place = place; ran = ran }) ≡ Some (actor_of e)
      still = ap (member_at g) (live_near g (after_event s k e).world place place good first) ∙ ap Some has.stands

  ends : Quiet (after_event s k e) (actor_of e) → Tidy g (after_event s k e) (record { place = place + 1; ran = false })
  ends quiet = record {
    ran = λ r. absurd (true≢false (sym r));
    over = λ c current phase. absurd (not_over c (all c (there c current)) phase);
    others = λ c there not_current. all c there;
  }
    where
      all : (c : ℕ) → Contains g.members c → Quiet (after_event s k e) c
      all c there = by_name (cases_eq (actor_of e) c)
        where
          by_name : (actor_of e ≡ c) ⊎ (actor_of e ≡ c → ⊥) → Quiet (after_event s k e) c
          by_name (inl same) = subst (Quiet (after_event s k e)) same quiet
          by_name (inr ne) = rests_on c there ne

      not_over : (c : ℕ) → Quiet (after_event s k e) c → ((after_event s k e).world.client c).phase ≡ Over → ⊥
      not_over c q phase = true≢false (sym q.resting ∙ ap is_resting phase)

      there : (c : ℕ) → current_member g (after_event s k e).world (record { place = place + 1; ran = false }) ≡ Some c → Contains g.members c
      there c current = let h = current_has g (after_event s k e).world (record { place = place + 1; ran = false }) c current in subst (Contains g.members) h.1.stands (stands_member g h.0 good)

  pub tidy_acts : 0 < actor_of e → LegalEvent s k e → ((d : ℕ) → e ≡ Stop d → ⊥) → Tidy g (after_event s k e) (stood g k.world t (entry_of e))
  tidy_acts some legal no_stop = by_entry (entry_of e) refl (acts s k known e t.ran some (fits_current g k t (actor_of e) place good tidy has) legal no_stop)
    where
      member : is_member g (actor_of e) ≡ true
      member = there_member g.members (actor_of e) (subst (Contains g.members) has.stands (stands_member g place good))

      by_end : (x : Entry) → (b : Bool) → ends_segment t.ran x ≡ b → Acts s k e x t.ran → Tidy g (after_event s k e) (moved_on t x (Some place))
      by_end x true b a = rw b (ends (a.ends b))
      by_end x false b a = rw b (goes_on (ran_after t.ran x) (a.keeps b))

      by_entry : (o : Option Entry) → entry_of e ≡ o → ActsBy s k e t.ran o → Tidy g (after_event s k e) (stood g k.world t (entry_of e))
      by_entry None is a = subst (λ o. Tidy g (after_event s k e) (stood g k.world t o)) (sym is) (no_entry is)
      by_entry (Some x) is a = subst (Tidy g (after_event s k e)) (sym (moved_is g k.world t e x place is member has.place_is)) (by_end x (ends_segment t.ran x) refl a)

-- who acts is nobody of the group, or its current member
abbrev pub IsInTurn : Grouping → World → Standing → ℕ → Type 0
IsInTurn g w t a = is_member g a ≡ true → current_member g w t ≡ Some a

pub tidy_on : (s : Scene) (g : Grouping) (k : Core) (known : Known s k) (t : Standing) (e : Event) → IsGood g → Tidy g k t → ((c : ℕ) → Contains g.members c → 0 < c) → IsInTurn g k.world t (actor_of e) → LegalEvent s k e → ((d : ℕ) → e ≡ Stop d → ⊥) →
    Tidy g (after_event s k e) (stood g k.world t (entry_of e))
tidy_on s g k known t e good tidy numbered in_turn legal no_stop = by_member (is_member g (actor_of e)) refl
  where
    by_member : (b : Bool) → is_member g (actor_of e) ≡ b → Tidy g (after_event s k e) (stood g k.world t (entry_of e))
    by_member false b = subst (Tidy g (after_event s k e)) (sym (stays g k.world t e b)) (away s g k t e good b tidy)
    by_member true b =
        let h = current_has g k.world t (actor_of e) (in_turn b) in
        tidy_acts s g k known t e good tidy h.0 h.1 (numbered (actor_of e) (member_there g.members (actor_of e) b)) legal no_stop

-- an entry of a member is the current one's, who ran only where it was current, and goes on to live where its segment does
abbrev pub StepsIn : Scene → Grouping → World → Standing → Entry → Type 0
StepsIn s g w t x =
    is_member g (client_of x) ≡ true →
    (place : ℕ) × HasCurrent g w t (client_of x) place × (t.ran ≡ true → t.place ≡ place) × (ends_segment t.ran x ≡ false → is_over (after_entry s w x) (client_of x) ≡ false)

-- the same of all entries
abbrev pub StepIn : Scene → Grouping → World → Standing → List Entry → Type 0
StepIn s g w t [] = Unit {0}
StepIn s g w t (x ∷ xs) = StepsIn s g w t x × StepIn s g (after_entry s w x) (stands_after g w t x) xs

pub step_more : (s : Scene) (g : Grouping) (w : World) (t : Standing) (xs : List Entry) (x : Entry) → StepIn s g w t xs → StepsIn s g (after_entries s w xs) (stands_on s g w t xs) x → StepIn s g w t (xs ++ x ∷ [])
step_more s g w t [] x all one = (one, tt)
step_more s g w t (y ∷ xs) x all one = (all.0, step_more s g (after_entry s w y) (stands_after g w t y) xs x all.1 one)

pub stands_append : (s : Scene) (g : Grouping) (w : World) (t : Standing) (xs ys : List Entry) → stands_on s g w t (xs ++ ys) ≡ stands_on s g (after_entries s w xs) (stands_on s g w t xs) ys
stands_append s g w t [] ys = refl
stands_append s g w t (x ∷ xs) ys = stands_append s g (after_entry s w x) (stands_after g w t x) xs ys

-- where a group stands after one event more
pub standing_on : (s : Scene) (g : Grouping) (events : List Event) (e : Event) → standing s g (journal_of (events ++ e ∷ [])) ≡ stood g (after_events s (opening_core s) events).world (standing s g (journal_of events)) (entry_of e)
standing_on s g events e =
    ap (standing s g) (journal-append events (e ∷ []))
    ∙ stands_append s g (opening s) first_standing (journal_of events) (journal_of (e ∷ []))
    ∙ ap (λ w. stands_on s g w (standing s g (journal_of events)) (journal_of (e ∷ []))) (journal_after s events)
    ∙ by_entry (entry_of e)
  where
    by_entry : (o : Option Entry) → stands_on s g (after_events s (opening_core s) events).world (standing s g (journal_of events)) (with_entry o []) ≡ stood g (after_events s (opening_core s) events).world (standing s g (journal_of events)) o
    by_entry None = refl
    by_entry (Some x) = refl

-- what a group keeps, after these events
pub record Kept (s : Scene) (g : Grouping) (events : List Event) : Type 0 where
  pub tidy : Tidy g (after_events s (opening_core s) events) (standing s g (journal_of events))
  pub steps : StepIn s g (opening s) first_standing (journal_of events)

pub kept_opening : (s : Scene) (g : Grouping) → Kept s g []
kept_opening s g = record { tidy = tidy_opening s g; steps = tt }

-- what is known of a group
pub record IsSettled (g : Grouping) : Type 0 where
  pub good : IsGood g
  pub numbered : (c : ℕ) → Contains g.members c → 0 < c

pub kept_on : (s : Scene) (g : Grouping) (events : List Event) (e : Event) → IsSettled g → Known s (after_events s (opening_core s) events) → Kept s g events →
    IsInTurn g (after_events s (opening_core s) events).world (standing s g (journal_of events)) (actor_of e) → LegalEvent s (after_events s (opening_core s) events) e → ((d : ℕ) → e ≡ Stop d → ⊥) → Kept s g (events ++ e ∷ [])
kept_on s g events e settled known kept in_turn legal no_stop = record {
  tidy = subst (λ k. Tidy g k (standing s g (journal_of (events ++ e ∷ [])))) (sym (after_append s (opening_core s) events (e ∷ [])))
      (subst (Tidy g (after_event s (after_events s (opening_core s) events) e)) (sym (standing_on s g events e)) (tidy_on s g (after_events s (opening_core s) events) known (standing s g (journal_of events)) e settled.good kept.tidy settled.numbered in_turn legal no_stop));
  steps = subst (StepIn s g (opening s) first_standing) (sym (journal-append events (e ∷ []))) (by_entry (entry_of e) refl);
}
  where
    step : (x : Entry) → entry_of e ≡ Some x → StepsIn s g (after_events s (opening_core s) events).world (standing s g (journal_of events)) x
    step x is member = (h.0, subst (λ c. HasCurrent g (after_events s (opening_core s) events).world (standing s g (journal_of events)) c h.0) (sym (client_is e x is)) h.1, ran, live)
      where
        member_is : is_member g (actor_of e) ≡ true
        member_is = ap (is_member g) (sym (client_is e x is)) ∙ member

        h : (place : ℕ) × HasCurrent g (after_events s (opening_core s) events).world (standing s g (journal_of events)) (actor_of e) place
        h = current_has g (after_events s (opening_core s) events).world (standing s g (journal_of events)) (actor_of e) (in_turn member_is)

        ran : (standing s g (journal_of events)).ran ≡ true → (standing s g (journal_of events)).place ≡ h.0
        ran r = ran_place g (after_events s (opening_core s) events) (standing s g (journal_of events)) (actor_of e) h.0 kept.tidy h.1 r

        live : ends_segment (standing s g (journal_of events)).ran x ≡ false → is_over (after_entry s (after_events s (opening_core s) events).world x) (client_of x) ≡ false
        live goes =
            let fits = fits_current g (after_events s (opening_core s) events) (standing s g (journal_of events)) (actor_of e) h.0 settled.good kept.tidy h.1 in
            let a = subst (ActsBy s (after_events s (opening_core s) events) e (standing s g (journal_of events)).ran) is (acts s (after_events s (opening_core s) events) known e (standing s g (journal_of events)).ran (settled.numbered (actor_of e) (member_there g.members (actor_of e) member_is)) fits legal no_stop) in
            ap (is_over (after_entry s (after_events s (opening_core s) events).world x)) (client_is e x is)
            ∙ ap (λ o. is_over (world_after s (after_events s (opening_core s) events).world o) (actor_of e)) (sym is)
            ∙ (a.keeps goes).live

    by_entry : (o : Option Entry) → entry_of e ≡ o → StepIn s g (opening s) first_standing (journal_of events ++ with_entry o [])
    by_entry None is = subst (StepIn s g (opening s) first_standing) (sym (append-nil (journal_of events))) kept.steps
    by_entry (Some x) is = step_more s g (opening s) first_standing (journal_of events) x kept.steps (subst (λ w. StepsIn s g w (standing s g (journal_of events)) x) (sym (journal_after s events)) (step x is))
