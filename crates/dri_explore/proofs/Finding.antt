-- The ends on the way: what a level's runs bring, and that in the end all are there.
use Rattle.std.proofs.Common.{◌≡◌, ◌≢◌, ◌<◌, ◌≤◌, ◌+◌, ◌++◌, ◌∙◌, ℕ, zero, suc, List, [], ◌∷◌, length, take, Bool, true, false, Some, arith, refl, sym, ap, subst, inl, inr}
use Rattle.std.specs.Prelude.{◌↔◌, ◌⊎◌, All, AllPairs, Contains, slice_get}
use Rattle.std.proofs.lemmas.Bool.{true≢false}
use Rattle.std.proofs.lemmas.List.{take_all}
use Rattle.std.proofs.lemmas.List.Elements.{All-contains, All-nil, All-push, All-weaker, Contains-append_left, Contains-get_or, Contains-push, Contains-push_cases}
use Rattle.std.proofs.lemmas.List.Quantifiers.{all_pairs_push}
use Rattle.std.proofs.lemmas.Option.{get_or_from_slice_get, slice_get_within}
use Rattle.dri_base.specs.Ranges.{InRange}
use Rattle.dri_base.specs.declared.journal.Entry.{Entry}
use Rattle.dri_base.specs.declared.journal.Event.{Event}
use Rattle.dri_base.specs.declared.scene.Scene.{Scene}
use Rattle.dri_core.specs.CoreRuns.{IsRun, LegalEvents}
use Rattle.dri_core.specs.Cores.{Core, journal_of, opening_core}
use Rattle.dri_core.specs.EventTable.{after_event}
use Rattle.dri_core.specs.Turns.{all_pass, round}
use Rattle.dri_explore.specs.Ends.{AreEnds, IsCut, IsEnd, IsShown, LeaveSame, is_over, journals, screen}
use Rattle.dri_explore.specs.Gathering.{IsEndBelow, IsFound, Notes, TellsCut}
use Rattle.dri_explore.specs.Levels.{IsLevel}
use Rattle.dri_explore.specs.Nodes.{IsNodeOf}
use Rattle.dri_explore.specs.Runs.{run_by}
use Rattle.dri_explore.specs.declared.ends.Ends.{Ends}
use Rattle.dri_explore.specs.declared.level.Level.{Level}
use Rattle.dri_explore.specs.declared.node.Node.{Node}
use Rattle.dri_explore.proofs.Steps.{node_at, node_run, take_next}

-- a place of a list
pub at_place : {X : Type 0} (P : X → Type 0) (xs : List X) (i : ℕ) (x : X) → slice_get xs i ≡ Some x → All P xs → P x
at_place P xs i x at_i all = subst P (get_or_from_slice_get xs i x x at_i) (all i x (slice_get_within xs i x at_i))

pub contains_at : {X : Type 0} (xs : List X) (i : ℕ) (x : X) → slice_get xs i ≡ Some x → Contains xs x
contains_at xs i x at_i = (i, slice_get_within xs i x at_i, get_or_from_slice_get xs i x x at_i)

-- runs that leave the same are over alike
over_same : (s : Scene) (a b : List Event) → LeaveSame s a b → is_over s a ≡ is_over s b
over_same s a b same = ap (λ k. all_pass s k (round s)) same.1

-- what is found while a level is gone through: the ends of fewer events, those of its first nodes, and whether one of these isn't over
pub record Gathers (s : Scene) (level : Level) (i : ℕ) (old now : Ends) (cut : Bool) : Type 0 where
  pub earlier : (journal : List Entry) → IsEndBelow s level.made journal → Contains (journals now.ends) journal
  pub sound : (journal : List Entry) → Contains (journals now.ends) journal → IsEndBelow s (level.made + 1) journal
  pub here : All (λ node. is_over s (run_by s node.items) ≡ true → Contains (journals now.ends) (journal_of (run_by s node.items))) (take i level.nodes)
  pub once : AllPairs ◌≢◌ (journals now.ends)
  pub shown : IsShown s now
  pub open_there : cut ≡ true → IsCut s level.made
  pub all_over : cut ≡ false → All (λ node. is_over s (run_by s node.items) ≡ true) (take i level.nodes)

later_end : (s : Scene) (n : ℕ) (journal : List Entry) → IsEndBelow s n journal → IsEndBelow s (n + 1) journal
later_end s n journal (events, run, short, over, ends) = (events, run, omega (arith, short), over, ends)

pub gathers_start : (s : Scene) (level : Level) (found : Ends) → IsFound s level.made found → Gathers s level 0 found found false
gathers_start s level found is = record {
  earlier = λ journal ends. (is.listed journal).1 ends;
  sound = λ journal there. later_end s level.made journal ((is.listed journal).0 there);
  here = All-nil (λ node. is_over s (run_by s node.items) ≡ true → Contains (journals found.ends) (journal_of (run_by s node.items)));
  once = is.once;
  shown = is.shown;
  open_there = λ e. absurd (true≢false (sym e));
  all_over = λ e. All-nil (λ node. is_over s (run_by s node.items) ≡ true);
}

-- a node whose run isn't over
pub gathers_open : (s : Scene) (level : Level) (i : ℕ) (node : Node) (old now : Ends) (cut : Bool) → InRange s → IsLevel s level → slice_get level.nodes i ≡ Some node → Gathers s level i old now cut →
    is_over s (run_by s node.items) ≡ false → Gathers s level (i + 1) old now true
gathers_open s level i node old now cut good is at_i before going = record {
  earlier = before.earlier;
  sound = before.sound;
  here = subst (All (λ n. is_over s (run_by s n.items) ≡ true → Contains (journals now.ends) (journal_of (run_by s n.items)))) (sym (take_next level.nodes i node at_i))
      (All-push (λ n. is_over s (run_by s n.items) ≡ true → Contains (journals now.ends) (journal_of (run_by s n.items))) (take i level.nodes) node before.here (λ over. absurd (true≢false (sym over ∙ going))));
  once = before.once;
  shown = before.shown;
  open_there = λ e. let of = node_at s level i node is at_i in (run_by s node.items, node_run s node good of.kept, of.made, going);
  all_over = λ e. absurd (true≢false e);
}

-- a node whose run is over, and whose end was noted
pub gathers_over : (s : Scene) (level : Level) (i : ℕ) (node : Node) (old now new : Ends) (cut : Bool) → InRange s → IsLevel s level → slice_get level.nodes i ≡ Some node → Gathers s level i old now cut →
    is_over s (run_by s node.items) ≡ true → Notes s now new (journal_of (run_by s node.items)) → Gathers s level (i + 1) old new cut
gathers_over s level i node old now new cut good is at_i before over notes = record {
  earlier = λ journal ends. grows journal (before.earlier journal ends);
  sound = λ journal there. by_end journal (cases journal there);
  here = subst (All (λ n. is_over s (run_by s n.items) ≡ true → Contains (journals new.ends) (journal_of (run_by s n.items)))) (sym (take_next level.nodes i node at_i))
      (All-push (λ n. is_over s (run_by s n.items) ≡ true → Contains (journals new.ends) (journal_of (run_by s n.items))) (take i level.nodes) node
      (All-weaker (λ n. is_over s (run_by s n.items) ≡ true → Contains (journals now.ends) (journal_of (run_by s n.items))) (λ n. is_over s (run_by s n.items) ≡ true → Contains (journals new.ends) (journal_of (run_by s n.items)))
      (λ n h e. grows (journal_of (run_by s n.items)) (h e)) (take i level.nodes) before.here)
      (λ e. itself notes.ends));
  once = once notes.ends;
  shown = notes.shown;
  open_there = before.open_there;
  all_over = λ e. subst (All (λ n. is_over s (run_by s n.items) ≡ true)) (sym (take_next level.nodes i node at_i)) (All-push (λ n. is_over s (run_by s n.items) ≡ true) (take i level.nodes) node (before.all_over e) over);
}
  where
    j : List Entry
    j = journal_of (run_by s node.items)

    Noted : Type 0
    Noted = (Contains (journals now.ends) j × (new.ends ≡ now.ends)) ⊎ ((Contains (journals now.ends) j → ⊥) × (journals new.ends ≡ journals now.ends ++ j ∷ []))

    of : IsNodeOf s level.made node
    of = node_at s level i node is at_i

    grows : (journal : List Entry) → Contains (journals now.ends) journal → Contains (journals new.ends) journal
    grows journal there = elim notes.ends [ inl h ↦ subst (λ ends. Contains (journals ends) journal) (sym h.1) there | inr h ↦ subst (λ js. Contains js journal) (sym h.1) (Contains-append_left (journals now.ends) (j ∷ []) journal there) ]

    itself : (Contains (journals now.ends) j × (new.ends ≡ now.ends)) ⊎ ((Contains (journals now.ends) j → ⊥) × (journals new.ends ≡ journals now.ends ++ j ∷ [])) → Contains (journals new.ends) j
    itself (inl h) = subst (λ ends. Contains (journals ends) j) (sym h.1) h.0
    itself (inr h) = subst (λ js. Contains js j) (sym h.1) (Contains-push (journals now.ends) j)

    once : (Contains (journals now.ends) j × (new.ends ≡ now.ends)) ⊎ ((Contains (journals now.ends) j → ⊥) × (journals new.ends ≡ journals now.ends ++ j ∷ [])) → AllPairs ◌≢◌ (journals new.ends)
    once (inl h) = subst (λ ends. AllPairs ◌≢◌ (journals ends)) (sym h.1) before.once
    once (inr h) = subst (AllPairs ◌≢◌) (sym h.1) (all_pairs_push ◌≢◌ (journals now.ends) j before.once (λ k d l same. h.0 (subst (Contains (journals now.ends)) same (Contains-get_or (journals now.ends) k d l))))

    cases : (journal : List Entry) → Contains (journals new.ends) journal → Contains (journals now.ends) journal ⊎ (j ≡ journal)
    cases journal there = elim notes.ends [ inl h ↦ inl (subst (λ ends. Contains (journals ends) journal) h.1 there) | inr h ↦ Contains-push_cases (journals now.ends) j journal (subst (λ js. Contains js journal) h.1 there) ]

    by_end : (journal : List Entry) → Contains (journals now.ends) journal ⊎ (j ≡ journal) → IsEndBelow s (level.made + 1) journal
    by_end journal (inl there) = before.sound journal there
    by_end journal (inr same) = (run_by s node.items, node_run s node good of.kept, (let m = of.made in omega (arith, m)), over, same)

-- once all nodes were gone through
short_cases : (n m : ℕ) → n < m + 1 → (n < m) ⊎ (n ≡ m)
short_cases zero zero l = inr refl
short_cases zero (suc m) l = inl (omega arith)
short_cases (suc n) zero l = absurd (omega (arith, l))
short_cases (suc n) (suc m) l = elim (short_cases n m (omega (arith, l))) [ inl a ↦ inl (omega (arith, a)) | inr e ↦ inr (ap suc e) ]

module _ (s : Scene) (level : Level) (i : ℕ) (old now : Ends) (cut : Bool) (is : IsLevel s level) (all : length level.nodes ≤ i) (gathers : Gathers s level i old now cut) where
  here_all : All (λ node. is_over s (run_by s node.items) ≡ true → Contains (journals now.ends) (journal_of (run_by s node.items))) level.nodes
  here_all = subst (All (λ node. is_over s (run_by s node.items) ≡ true → Contains (journals now.ends) (journal_of (run_by s node.items)))) (take_all i level.nodes all) gathers.here

  -- the end of a run of the level's number of events is there
  end_here : (events : List Event) → IsRun s events → length events ≡ level.made → is_over s events ≡ true → Contains (journals now.ends) (journal_of events)
  end_here events run made over =
      let has = is.all events run made in
      subst (Contains (journals now.ends)) has.2.0 (All-contains (λ node. is_over s (run_by s node.items) ≡ true → Contains (journals now.ends) (journal_of (run_by s node.items))) level.nodes has.0 here_all has.1 (over_same s (run_by s has.0.items) events has.2 ∙ over))

  pub gathered : IsFound s (level.made + 1) now
  gathered = record {
    listed = λ journal. (gathers.sound journal, λ ends. by_short journal ends (short_cases (length ends.0) level.made ends.2));
    once = gathers.once;
    shown = gathers.shown;
  }
    where
      by_short : (journal : List Entry) (ends : IsEndBelow s (level.made + 1) journal) → (length ends.0 < level.made) ⊎ (length ends.0 ≡ level.made) → Contains (journals now.ends) journal
      by_short journal (events, run, short, over, same) (inl l) = gathers.earlier journal (events, run, l, over, same)
      by_short journal (events, run, short, over, same) (inr e) = subst (Contains (journals now.ends)) same (end_here events run e over)

  pub cut_told : TellsCut s level.made cut
  cut_told = (gathers.open_there, by_cut cut refl)
    where
      by_cut : (b : Bool) → cut ≡ b → IsCut s level.made → cut ≡ true
      by_cut true e going = e
      by_cut false e (events, run, made, going) =
          let has = is.all events run made in
          let over = All-contains (λ node. is_over s (run_by s node.items) ≡ true) level.nodes has.0 (subst (All (λ node. is_over s (run_by s node.items) ≡ true)) (take_all i level.nodes all) (gathers.all_over e)) has.1 in
          absurd (true≢false (sym over ∙ over_same s (run_by s has.0.items) events has.2 ∙ going))

-- the first of some events
split_at : (events : List Event) (n : ℕ) → n ≤ length events → (past : List Event) × (more : List Event) × (events ≡ past ++ more) × (length past ≡ n)
split_at events zero l = ([], events, refl, refl)
split_at [] (suc n) l = absurd (omega (arith, l))
split_at (e ∷ events) (suc n) l = let r = split_at events n (omega (arith, l)) in (e ∷ r.0, r.1, ap (λ t. e ∷ t) r.2, ap suc r.3)

front_legal : (s : Scene) (k : Core) (past more : List Event) → LegalEvents s k (past ++ more) → LegalEvents s k past
front_legal s k [] more all = tt
front_legal s k (e ∷ past) more all = (all.0, front_legal s (after_event s k e) past more all.1)

-- where a level has no nodes no run has as many events
none_longer : (s : Scene) (level : Level) (events : List Event) → IsLevel s level → level.nodes ≡ [] → IsRun s events → level.made ≤ length events → ⊥
none_longer s level events is empty run le =
    let parts = split_at events level.made le in
    let has = is.all parts.0 (front_legal s (opening_core s) parts.0 parts.1 (subst (IsRun s) parts.2 run)) parts.3 in
    let inside = (subst (λ nodes. Contains nodes has.0) empty has.1).1 in
    omega (arith, inside)

-- no ends at the start
pub found_start : (s : Scene) (found : Ends) → found ≡ record { ends = []; pictures = []; cut = false } → IsFound s 0 found
found_start s found is = subst (IsFound s 0) (sym is) (record {
  listed = λ journal. (λ there. absurd (let l = there.1 in omega (arith, l)), λ ends. absurd (let l = ends.2 in omega (arith, l)));
  once = λ i j d l r. absurd (omega (arith, r));
  shown = record { shown = All-nil (λ e. slice_get [] e.picture ≡ Some (screen s e.journal)); apart = λ i j d l r. absurd (omega (arith, r)); ordered = refl };
})

-- at the last level, or at one with no nodes, all ends are there
pub found_all : (s : Scene) (most : ℕ) (level : Level) (found told : Ends) (cut : Bool) → IsLevel s level → level.made ≤ most → (level.made ≡ most) ⊎ (level.nodes ≡ []) →
    IsFound s (level.made + 1) found → TellsCut s level.made cut → told ≡ record found { cut = cut } → AreEnds s most told
found_all s most level found told cut is le last all tells same = subst (AreEnds s most) (sym same) (record {
  listed = λ journal. (λ there. sound journal ((all.listed journal).0 there), λ ends. (all.listed journal).1 (complete journal ends last));
  once = all.once;
  pictures = record { shown = all.shown.shown; apart = all.shown.apart; ordered = all.shown.ordered };
  cut = cuts last;
})
  where
    sound : (journal : List Entry) → IsEndBelow s (level.made + 1) journal → IsEnd s most journal
    sound journal (events, run, short, over, ends) = (events, record { run = run; short = omega (arith, short, le); over = over }, ends)

    complete : (journal : List Entry) → IsEnd s most journal → (level.made ≡ most) ⊎ (level.nodes ≡ []) → IsEndBelow s (level.made + 1) journal
    complete journal (events, is_complete, ends) (inl at_most) = (events, is_complete.run, (let l = is_complete.short in omega (arith, l, at_most)), is_complete.over, ends)
    complete journal (events, is_complete, ends) (inr empty) = by (below (length events) level.made)
      where
        below : (n m : ℕ) → (n < m) ⊎ (m ≤ n)
        below n zero = inr (omega arith)
        below zero (suc m) = inl (omega arith)
        below (suc n) (suc m) = elim (below n m) [ inl a ↦ inl (omega (arith, a)) | inr b ↦ inr (omega (arith, b)) ]

        by : (length events < level.made) ⊎ (level.made ≤ length events) → IsEndBelow s (level.made + 1) journal
        by (inl l) = (events, is_complete.run, omega (arith, l), is_complete.over, ends)
        by (inr l) = absurd (none_longer s level events is empty is_complete.run l)

    cuts : (level.made ≡ most) ⊎ (level.nodes ≡ []) → (cut ≡ true) ↔ IsCut s most
    cuts (inl at_most) = subst (λ n. (cut ≡ true) ↔ IsCut s n) at_most tells
    cuts (inr empty) = (
      λ e. let going = tells.0 e in absurd (none_longer s level going.0 is empty going.1 (let m = going.2 in omega (arith, m))),
      λ going. absurd (none_longer s level going.0 is empty going.1 (let m = going.2 in omega (arith, m, le))),
    )
