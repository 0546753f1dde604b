-- A journal in which each entry of a group is its current member's is cut into segments.
use Rattle.std.proofs.Common.{◌≡◌, ◌≢◌, ◌≤◌, ◌<◌, ◌+◌, ◌-◌, ℕ, zero, suc, List, [], ◌∷◌, ◌++◌, Bool, true, false, Some, arith, refl, sym, ap, ◌∙◌, subst}
use Rattle.std.specs.Prelude.{All, Contains, flat_map, if◌then◌else◌}
use Rattle.std.proofs.lemmas.Bool.{true≢false}
use Rattle.dri_base.specs.declared.journal.Entry.{Entry}
use Rattle.dri_base.specs.declared.scene.Scene.{Scene}
use Rattle.dri_core.specs.EntryTable.{after_entry}
use Rattle.dri_core.specs.Phases.{is_done}
use Rattle.dri_core.specs.Privates.{Private}
use Rattle.dri_core.specs.Runs.{Whole, after_entries, client_of}
use Rattle.dri_core.specs.Worlds.{World, opening}
use Rattle.dri_core.proofs.Laws.{foreign_entries}
use Rattle.dri_many.specs.declared.grouping.Grouping.{Grouping}
use Rattle.dri_world.specs.Currents.{Standing, current_at, current_place, ends_segment, first_standing, is_member, is_over, moved_on, ran_after, reach, stands_after}
use Rattle.dri_world.specs.Segments.{HasSegment, HaveSegments, IsSegment, IsSegmented, entries_of}
use Rattle.dri_world.proofs.Orders.{IsFirstLive, IsGood, live_is, stands_member, there_member}
use Rattle.dri_world.proofs.Stepping.{StepIn}
use Rattle.dri_world.proofs.Tidy.{HasCurrent}

-- the same parts, where a command ran in the first one's hold or not
abbrev HaveFrom : Scene → Grouping → World → ℕ → Bool → List (List Entry) → Type 0
HaveFrom s g w k ran [] = Unit {0}
HaveFrom s g w k ran (part ∷ parts) = HasSegment g w (current_at g k) ran part × HaveSegments s g (after_entries s w part) (k + 1) parts

from_start : (s : Scene) (g : Grouping) (w : World) (k : ℕ) (parts : List (List Entry)) → HaveFrom s g w k false parts → HaveSegments s g w k parts
from_start s g w k [] all = tt
from_start s g w k (part ∷ parts) all = all

to_start : (s : Scene) (g : Grouping) (w : World) (k : ℕ) (parts : List (List Entry)) → HaveSegments s g w k parts → HaveFrom s g w k false parts
to_start s g w k [] all = tt
to_start s g w k (part ∷ parts) all = all

-- how a journal is cut from a place of the order on; a segment that is begun is there
record Cut (s : Scene) (g : Grouping) (w : World) (k : ℕ) (ran : Bool) (es : List Entry) : Type 0 where
  parts : List (List Entry)
  rest : List Entry
  cut : es ≡ flat_map (λ part. part) parts ++ rest
  each : HaveFrom s g w k ran parts
  over : entries_of g rest ≡ []
  begun : is_over w (current_at g k) ≡ false → parts ≡ [] → ⊥

not_empty : (p : List Entry) (ps : List (List Entry)) → p ∷ ps ≡ [] → ⊥
not_empty p ps h = grind arith

-- the entry leaves others as they were
one_entry : (x : Entry) (m : ℕ) → client_of x ≢ m → All (λ e. client_of e ≢ m) (x ∷ [])
one_entry x m ne zero d l = ne
one_entry x m ne (suc k) d l = absurd (omega (arith, l))

over_same : (s : Scene) (g : Grouping) (w : World) (x : Entry) (c : ℕ) → is_member g (client_of x) ≡ false → Contains g.members c → is_over (after_entry s w x) c ≡ is_over w c
over_same s g w x c h there = ap (λ (p : Private). is_done p.phase) (foreign_entries s w (x ∷ []) c (one_entry x c differs))
  where
    differs : client_of x ≢ c
    differs same = true≢false (sym (there_member g.members c there) ∙ ap (is_member g) (sym same) ∙ h)

entries_none : (g : Grouping) (x : Entry) (es : List Entry) → is_member g (client_of x) ≡ false → entries_of g (x ∷ es) ≡ entries_of g es
entries_none g x es h = rw h refl

entries_one : (g : Grouping) (x : Entry) (es : List Entry) → is_member g (client_of x) ≡ true → entries_of g (x ∷ es) ≡ x ∷ entries_of g es
entries_one g x es h = rw h refl

-- empty parts for those who are over
pads : ℕ → List (List Entry) → List (List Entry)
pads zero parts = parts
pads (suc d) parts = [] ∷ pads d parts

pads_flat : (d : ℕ) (parts : List (List Entry)) → flat_map (λ part. part) (pads d parts) ≡ flat_map (λ part. part) parts
unfolding pads
pads_flat zero parts = refl
pads_flat (suc d) parts = pads_flat d parts

pads_some : (d : ℕ) (p : List Entry) (ps : List (List Entry)) → pads d (p ∷ ps) ≡ [] → ⊥
unfolding pads
pads_some zero p ps h = not_empty p ps h
pads_some (suc d) p ps h = not_empty [] (pads d (p ∷ ps)) h

nobody : (g : Grouping) (w : World) (c : ℕ) (ran : Bool) → is_over w c ≡ true → HasSegment g w c ran []
nobody g w c ran h = record { empty = λ e. refl; whole = λ e. absurd (true≢false (sym h ∙ e)) }

padded : (s : Scene) (g : Grouping) (w : World) (d k place : ℕ) (parts : List (List Entry)) → k + d ≡ place → ((n : ℕ) → k ≤ n → n < place → is_over w (current_at g n) ≡ true) → HaveSegments s g w place parts → HaveSegments s g w k (pads d parts)
unfolding pads
padded s g w zero k place parts e over all = let same : place ≡ k = omega (arith, e) in subst (λ n. HaveSegments s g w n parts) same all
padded s g w (suc d) k place parts e over all =
    (nobody g w (current_at g k) false (over k (omega arith) (omega (arith, e))), padded s g w d (k + 1) place parts (omega (arith, e)) (λ n l r. over n (omega (arith, l)) r) all)

module _ (s : Scene) (g : Grouping) (good : IsGood g) where
  -- an entry of nobody in the group
  cut_away : (w : World) (k : ℕ) (ran : Bool) (x : Entry) (xs : List Entry) → is_member g (client_of x) ≡ false → Cut s g (after_entry s w x) k ran xs → Cut s g w k ran (x ∷ xs)
  cut_away w k ran x xs h c = by_parts c.parts refl
    where
      same : is_over (after_entry s w x) (current_at g k) ≡ is_over w (current_at g k)
      same = over_same s g w x (current_at g k) h (stands_member g k good)

      by_parts : (ps : List (List Entry)) → c.parts ≡ ps → Cut s g w k ran (x ∷ xs)
      by_parts [] is = record {
        parts = [];
        rest = x ∷ c.rest;
        cut = ap (λ t. x ∷ t) (c.cut ∙ ap (λ ps. flat_map (λ part. part) ps ++ c.rest) is);
        each = tt;
        over = entries_none g x c.rest h ∙ c.over;
        begun = λ live e. c.begun (same ∙ live) is;
      }
      by_parts (p ∷ ps) is =
          let all = subst (HaveFrom s g (after_entry s w x) k ran) is c.each in
          record {
            parts = (x ∷ p) ∷ ps;
            rest = c.rest;
            cut = ap (λ t. x ∷ t) (c.cut ∙ ap (λ ps. flat_map (λ part. part) ps ++ c.rest) is);
            each = (
              record {
                empty = λ e. entries_none g x p h ∙ all.0.empty (same ∙ e);
                whole = λ e. subst (IsSegment (current_at g k) ran) (sym (entries_none g x p h)) (all.0.whole (same ∙ e));
              },
              all.1,
            );
            over = c.over;
            begun = λ live e. not_empty (x ∷ p) ps e;
          }

  -- what is cut from the current member's place on is cut from where it is looked for
  cut_back : (w : World) (t : Standing) (place : ℕ) (es : List Entry) → IsFirstLive g w t.place place → (t.ran ≡ true → t.place ≡ place) → Cut s g w place t.ran es → Cut s g w t.place t.ran es
  cut_back w t place es first ran c = by_ran t.ran refl
    where
      live_there : c.parts ≡ [] → ⊥
      live_there e = c.begun first.live e

      by_ran : (b : Bool) → t.ran ≡ b → Cut s g w t.place t.ran es
      by_ran true is = subst (λ k. Cut s g w k t.ran es) (sym (ran is)) c
      by_ran false is = by_parts c.parts refl
        where
          distance : t.place + (place - t.place) ≡ place
          distance = let l = first.later in omega (arith, l)

          by_parts : (ps : List (List Entry)) → c.parts ≡ ps → Cut s g w t.place t.ran es
          by_parts [] parts = absurd (live_there parts)
          by_parts (p ∷ ps) parts = record {
            parts = pads (place - t.place) (p ∷ ps);
            rest = c.rest;
            cut = c.cut ∙ ap (λ x. flat_map (λ part. part) x ++ c.rest) parts ∙ ap (λ x. x ++ c.rest) (sym (pads_flat (place - t.place) (p ∷ ps)));
            each = subst (λ b. HaveFrom s g w t.place b (pads (place - t.place) (p ∷ ps))) (sym is)
                (to_start s g w t.place (pads (place - t.place) (p ∷ ps)) (padded s g w (place - t.place) t.place place (p ∷ ps) distance first.over
                (from_start s g w place (p ∷ ps) (subst (λ b. HaveFrom s g w place b (p ∷ ps)) is (subst (HaveFrom s g w place t.ran) parts c.each)))));
            over = c.over;
            begun = λ live e. pads_some (place - t.place) p ps e;
          }

  -- the current member's entry
  cut_ends : (w : World) (ran : Bool) (place : ℕ) (x : Entry) (xs : List Entry) → is_member g (client_of x) ≡ true → client_of x ≡ current_at g place → is_over w (current_at g place) ≡ false → ends_segment ran x ≡ true →
      Cut s g (after_entry s w x) (place + 1) false xs → Cut s g w place ran (x ∷ xs)
  cut_ends w ran place x xs member own live ends c = record {
    parts = (x ∷ []) ∷ c.parts;
    rest = c.rest;
    cut = ap (λ t. x ∷ t) c.cut;
    each = (
      record {
        empty = λ e. absurd (true≢false (sym e ∙ live));
        whole = λ e. subst (IsSegment (current_at g place) ran) (sym (entries_one g x [] member)) (own, λ h. refl, λ h. absurd (true≢false (sym ends ∙ h)));
      },
      from_start s g (after_entry s w x) (place + 1) c.parts c.each,
    );
    over = c.over;
    begun = λ h e. not_empty (x ∷ []) c.parts e;
  }

  cut_goes : (w : World) (ran : Bool) (place : ℕ) (x : Entry) (xs : List Entry) → is_member g (client_of x) ≡ true → client_of x ≡ current_at g place → is_over w (current_at g place) ≡ false → ends_segment ran x ≡ false → is_over (after_entry s w x) (current_at g place) ≡ false →
      Cut s g (after_entry s w x) place (ran_after ran x) xs → Cut s g w place ran (x ∷ xs)
  cut_goes w ran place x xs member own live goes later c = by_parts c.parts refl
    where
      by_parts : (ps : List (List Entry)) → c.parts ≡ ps → Cut s g w place ran (x ∷ xs)
      by_parts [] is = absurd (c.begun later is)
      by_parts (p ∷ ps) is =
          let all = subst (HaveFrom s g (after_entry s w x) place (ran_after ran x)) is c.each in
          record {
            parts = (x ∷ p) ∷ ps;
            rest = c.rest;
            cut = ap (λ t. x ∷ t) (c.cut ∙ ap (λ ps. flat_map (λ part. part) ps ++ c.rest) is);
            each = (
              record {
                empty = λ e. absurd (true≢false (sym e ∙ live));
                whole = λ e. subst (IsSegment (current_at g place) ran) (sym (entries_one g x p member)) (own, λ h. absurd (true≢false (sym h ∙ goes)), λ h. all.0.whole later);
              },
              all.1,
            );
            over = c.over;
            begun = λ h e. not_empty (x ∷ p) ps e;
          }

  cut_all : (w : World) (t : Standing) (es : List Entry) → StepIn s g w t es → ((c : ℕ) → Contains g.members c → is_over (after_entries s w es) c ≡ true) → Cut s g w t.place t.ran es
  cut_all w t [] steps done = record {
    parts = [];
    rest = [];
    cut = refl;
    each = tt;
    over = refl;
    begun = λ live e. true≢false (sym (done (current_at g t.place) (stands_member g t.place good)) ∙ live);
  }
  cut_all w t (x ∷ xs) steps done = by_member (is_member g (client_of x)) refl (cut_all (after_entry s w x) (stands_after g w t x) xs steps.1 done)
    where
      on : (b : Bool) → is_member g (client_of x) ≡ b → stands_after g w t x ≡ (if b then moved_on t x (current_place g w t) else t)
      on b h = ap (λ m. if m then moved_on t x (current_place g w t) else t) h

      by_end : (place : ℕ) → is_member g (client_of x) ≡ true → HasCurrent g w t (client_of x) place → (t.ran ≡ true → t.place ≡ place) → (ends_segment t.ran x ≡ false → is_over (after_entry s w x) (client_of x) ≡ false) → (b : Bool) → ends_segment t.ran x ≡ b →
          Cut s g (after_entry s w x) (moved_on t x (Some place)).place (moved_on t x (Some place)).ran xs → Cut s g w t.place t.ran (x ∷ xs)
      by_end place h has ran live true ends c =
          let first = live_is g w t.place (reach g) place has.place_is in
          cut_back w t place (x ∷ xs) first ran (cut_ends w t.ran place x xs h (sym has.stands) first.live ends (subst (λ (u : Standing). Cut s g (after_entry s w x) u.place u.ran xs) (ap (λ b. if b then record { place = place + 1; ran = false } else record { place = place; ran = ran_after t.ran x }) ends) c))
      by_end place h has ran live false ends c =
          let first = live_is g w t.place (reach g) place has.place_is in
          cut_back w t place (x ∷ xs) first ran (cut_goes w t.ran place x xs h (sym has.stands) first.live ends (subst (λ m. is_over (after_entry s w x) m ≡ false) (sym has.stands) (live ends))
          (subst (λ (u : Standing). Cut s g (after_entry s w x) u.place u.ran xs) (ap (λ b. if b then record { place = place + 1; ran = false } else record { place = place; ran = ran_after t.ran x }) ends) c))

      by_member : (b : Bool) → is_member g (client_of x) ≡ b → Cut s g (after_entry s w x) (stands_after g w t x).place (stands_after g w t x).ran xs → Cut s g w t.place t.ran (x ∷ xs)
      by_member false h c = cut_away w t.place t.ran x xs h (subst (λ (u : Standing). Cut s g (after_entry s w x) u.place u.ran xs) (on false h) c)
      by_member true h c =
          let step = steps.0 h in
          by_end step.0 h step.1 step.2 step.3 (ends_segment t.ran x) refl (subst (λ (u : Standing). Cut s g (after_entry s w x) u.place u.ran xs) (on true h ∙ ap (moved_on t x) step.1.place_is) c)

  -- the segments of a whole journal
  pub segmented : (journal : List Entry) → StepIn s g (opening s) first_standing journal → Whole s journal → IsSegmented s g journal
  segmented journal steps whole =
      let c = cut_all (opening s) first_standing journal steps (λ m there. whole.done m) in
      record { parts = c.parts; rest = c.rest; cut = c.cut; each = from_start s g (opening s) 0 c.parts c.each; over = c.over }
