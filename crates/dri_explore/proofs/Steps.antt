-- From one level to the next: what goes on from a node, what a push keeps, and that nothing is forgotten.
use Rattle.std.proofs.Common.{◌≡◌, ◌<◌, ◌≤◌, ◌+◌, ◌-◌, ◌++◌, ◌∙◌, ℕ, List, [], ◌∷◌, length, map, take, Bool, true, false, Option, Some, None, arith, refl, sym, ap, subst, inl, inr, get_or}
use Rattle.std.specs.Prelude.{◌==◌, ◌⊎◌, All, AllPairs, Contains, slice_get}
use Rattle.std.proofs.lemmas.Bool.{true≢false}
use Rattle.std.proofs.lemmas.Bool.Decides.{nat_tests}
use Rattle.std.proofs.lemmas.List.{get_or-map, length-append, length-map, take_all, take_more}
use Rattle.std.proofs.lemmas.List.Elements.{All-contains, All-head, All-map, All-nil, All-push, All-tail, All-weaker, Contains-append_left, Contains-get_or, Contains-push, Contains-push_cases}
use Rattle.std.proofs.lemmas.List.Quantifiers.{all_pairs_push}
use Rattle.std.proofs.lemmas.Option.{get_or_from_slice_get, same_Some, slice_get_within}
use Rattle.dri_base.specs.Ranges.{InRange}
use Rattle.dri_base.specs.Scenes.{is_named, kills_in}
use Rattle.dri_base.specs.declared.command.Item.{Item}
use Rattle.dri_base.specs.declared.command.Item.TheVariants.{Kill, Turn}
use Rattle.dri_base.specs.declared.journal.Event.{Event}
use Rattle.dri_base.specs.declared.scene.Scene.{Scene}
use Rattle.dri_core.specs.CoreRuns.{IsRun, after_events}
use Rattle.dri_core.specs.Cores.{journal_of, opening_core}
use Rattle.dri_core.specs.EventTable.{LegalEvent, after_event}
use Rattle.dri_core.specs.TurnLaws.{IsScheduled}
use Rattle.dri_core.specs.Turns.{item_event}
use Rattle.dri_core.proofs.CoreLaws.{journal-append}
use Rattle.dri_core.proofs.OneTurn.{LegalEvents-append}
use Rattle.dri_core.proofs.Rounds.{after_append}
use Rattle.dri_core.proofs.RunLaws.{items_run}
use Rattle.dri_explore.specs.Ends.{HasMore, LeaveSame}
use Rattle.dri_explore.specs.Levels.{GoesOnFrom, Has, HasKey, HasNext, IsLevel, IsPart, Keeps, KeepsNext}
use Rattle.dri_explore.specs.Nodes.{IsAfter, IsAfterBy, IsNode, IsNodeOf, IsSameKey}
use Rattle.dri_explore.specs.Runs.{choices, core_by, run_by}
use Rattle.dri_explore.specs.declared.level.Level.{Level}
use Rattle.dri_explore.specs.declared.node.Node.{Node}
use Rattle.dri_explore.proofs.Choosing.{chosen}
use Rattle.dri_explore.proofs.Keys.{leave_same, same_leave}
use Rattle.dri_world.specs.Courses.{MayTake}

-- items that may be taken kill nobody but whom the schedule kills
scheduled_by : (s : Scene) (items : List Item) → All (MayTake s) items → IsScheduled s items
scheduled_by s [] may c e = absurd (true≢false (sym e))
scheduled_by s (Turn a ∷ items) may c e = scheduled_by s items (All-tail (MayTake s) (Turn a) items may) c e
scheduled_by s (Kill d ∷ items) may c e = by_name (d == c) refl (scheduled_by s items (All-tail (MayTake s) (Kill d) items may) c)
  where
    by_name : (b : Bool) → (d == c) ≡ b → (kills_in items c ≡ true → is_named s c ≡ true) → is_named s c ≡ true
    by_name true n rest = let same : d ≡ c = grind (arith, nat_tests, n) in subst (λ m. is_named s m ≡ true) same (All-head (MayTake s) (Kill d) items may)
    by_name false n rest = rest (rw n at e)

-- a node's items make a run
pub node_run : (s : Scene) (node : Node) → InRange s → IsNode s node → IsRun s (run_by s node.items)
node_run s node good is = items_run s node.items good (scheduled_by s node.items is.may)

-- what leaves the same leaves the same
pub same_on : (s : Scene) (a b c : List Event) → LeaveSame s a b → LeaveSame s b c → LeaveSame s a c
same_on s a b c first second = (first.0 ∙ second.0, first.1 ∙ second.1)

pub same_has : (s : Scene) (nodes : List Node) (a b : List Event) → Has s nodes a → LeaveSame s a b → Has s nodes b
same_has s nodes a b (node, there, same) more = (node, there, same_on s (run_by s node.items) a b same more)

-- also after one event more
same_more : (s : Scene) (a b : List Event) (e : Event) → LeaveSame s a b → LeaveSame s (a ++ e ∷ []) (b ++ e ∷ [])
same_more s a b e same = (
  journal-append a (e ∷ []) ∙ ap (λ j. j ++ journal_of (e ∷ [])) same.0 ∙ sym (journal-append b (e ∷ [])),
  after_append s (opening_core s) a (e ∷ []) ∙ ap (λ k. after_event s k e) same.1 ∙ sym (after_append s (opening_core s) b (e ∷ [])),
)

-- the last of some events
pub split_last : (es : List Event) (n : ℕ) → length es ≡ n + 1 → (past : List Event) × (e : Event) × (es ≡ past ++ e ∷ []) × (length past ≡ n)
split_last [] n h = absurd (omega (arith, h))
split_last (x ∷ []) n h = ([], x, refl, omega (arith, h))
split_last (x ∷ y ∷ es) n h =
    let r = split_last (y ∷ es) (n - 1) (omega (arith, h)) in
    (x ∷ r.0, r.1, ap (λ t. x ∷ t) {y = r.0 ++ r.1 ∷ []} r.2, omega (arith, h, r.3))

-- where what goes on from each node by each choice is there, each run of one event more is
pub level_step : (s : Scene) (level : Level) (next : List Node) → InRange s → IsLevel s level → All (λ node. HasNext s node (choices s) next) level.nodes →
    (events : List Event) → IsRun s events → length events ≡ level.made + 1 → Has s next events
level_step s level next good is nexts events run made = subst (Has s next) (sym last.2) (same_has s next (run_by s node.items ++ last.1 ∷ []) (last.0 ++ last.1 ∷ []) found (same_more s (run_by s node.items) last.0 last.1 before.2))
  where
    last : (past : List Event) × (e : Event) × (events ≡ past ++ e ∷ []) × (length past ≡ level.made)
    last = split_last events level.made made

    parts : IsRun s last.0 × (LegalEvent s (after_events s (opening_core s) last.0) last.1 × Unit {0})
    parts = LegalEvents-append s (opening_core s) last.0 (last.1 ∷ []) (subst (IsRun s) last.2 run)

    before : Has s level.nodes last.0
    before = is.all last.0 parts.0 last.3

    node : Node
    node = before.0

    kept : IsNode s node
    kept = (All-contains (IsNodeOf s level.made) level.nodes node is.part.each before.1).kept

    legal : LegalEvent s (core_by s node.items) last.1
    legal = subst (λ k. LegalEvent s k last.1) (sym before.2.1) parts.1.0

    choice : (item : Item) × Contains (choices s) item × (item_event s (core_by s node.items) item ≡ Some last.1)
    choice = chosen s (run_by s node.items) last.1 good (node_run s node good kept) legal

    found : Has s next (run_by s node.items ++ last.1 ∷ [])
    found = All-contains (λ n. HasNext s n (choices s) next) level.nodes node nexts before.1 choice.0 last.1 choice.1 choice.2

-- one node more
part_push : (s : Scene) (number : ℕ) (nodes : List Node) (node : Node) → IsPart s number nodes → IsNodeOf s number node → (HasKey nodes node → ⊥) → IsPart s number (nodes ++ node ∷ [])
part_push s number nodes node part is none = record {
  each = All-push (IsNodeOf s number) nodes node part.each is;
  apart = all_pairs_push (λ a b. IsSameKey a b → ⊥) nodes node part.apart (λ k d l same. none (get_or nodes k d, Contains-get_or nodes k d l, same));
}

push_has : (s : Scene) (nodes : List Node) (node : Node) (events : List Event) → Has s nodes events → Has s (nodes ++ node ∷ []) events
push_has s nodes node events (other, there, same) = (other, Contains-append_left nodes (node ∷ []) other there, same)

-- nodes with no room for one more
pairs_map : {X Y : Type 0} (f : X → Y) (R : Y → Y → Type 0) (xs : List X) → AllPairs (λ a b. R (f a) (f b)) xs → AllPairs R (map f xs)
pairs_map f R [] all i j d l r = absurd (omega (arith, r))
pairs_map f R (x ∷ xs) all i j d l r =
    let e = length-map (x ∷ xs) f in
    let right : j < length (x ∷ xs) = omega (arith, r, e) in
    let left : i < length (x ∷ xs) = omega (arith, l, right) in
    subst (λ a. R a (get_or (map f (x ∷ xs)) j d)) (sym (get_or-map f (x ∷ xs) i x d left)) (subst (R (f (get_or (x ∷ xs) i x))) (sym (get_or-map f (x ∷ xs) j x d right)) (all i j x l right))

differ : (s : Scene) (number : ℕ) (nodes : List Node) → All (IsNodeOf s number) nodes → AllPairs (λ a b. IsSameKey a b → ⊥) nodes → AllPairs (λ a b. LeaveSame s (run_by s a.items) (run_by s b.items) → ⊥) nodes
differ s number nodes each apart i j d l r same =
    let left : i < length nodes = omega (arith, l, r) in
    apart i j d l r (leave_same s (get_or nodes i d) (get_or nodes j d) (each i d left).kept (each j d r).kept same)

too_many : (s : Scene) (number limit : ℕ) (nodes : List Node) → InRange s → IsPart s number nodes → limit < length nodes → HasMore s number limit
too_many s number limit nodes good part more = record {
  number = number;
  within = omega arith;
  runs = map (λ node. run_by s node.items) nodes;
  more = omega (arith, more, length-map nodes (λ node. run_by s node.items));
  each = All-map (λ events. IsRun s events × (length events ≡ number)) (λ (node : Node). run_by s node.items) nodes
      (All-weaker (IsNodeOf s number) (λ node. IsRun s (run_by s node.items) × (length (run_by s node.items) ≡ number)) (λ node is. (node_run s node good is.kept, is.made)) nodes part.each);
  apart = pairs_map (λ (node : Node). run_by s node.items) (λ a b. LeaveSame s a b → ⊥) nodes (differ s number nodes part.each part.apart);
}

pub more_within : (s : Scene) (number most limit : ℕ) → number ≤ most → HasMore s number limit → HasMore s most limit
more_within s number most limit le has = record { number = has.number; within = omega (arith, le, has.within); runs = has.runs; more = has.more; each = has.each; apart = has.apart }

-- a list, one more
pub take_next : {X : Type 0} (xs : List X) (i : ℕ) (x : X) → slice_get xs i ≡ Some x → take (i + 1) xs ≡ take i xs ++ x ∷ []
take_next xs i x at_i = take_more xs i x (slice_get_within xs i x at_i) ∙ ap (λ t. take i xs ++ t ∷ []) (get_or_from_slice_get xs i x x at_i)

-- going on by no item yet
pub goes_start : (s : Scene) (node : Node) (items : List Item) (old : Level) → IsPart s old.made old.nodes → GoesOnFrom s node (take 0 items) old old
goes_start s node items old part = record { made = refl; part = part; kept = λ events has. has; next = λ item e there makes. absurd (let l = there.1 in omega (arith, l)) }

-- by one item more
next_push : (s : Scene) (node : Node) (items : List Item) (i : ℕ) (item : Item) (nodes : List Node) → slice_get items i ≡ Some item → HasNext s node (take i items) nodes →
    ((e : Event) → item_event s (core_by s node.items) item ≡ Some e → Has s nodes (run_by s node.items ++ e ∷ [])) → HasNext s node (take (i + 1) items) nodes
next_push s node items i item nodes at_i before last x e there makes = by (Contains-push_cases (take i items) item x (subst (λ xs. Contains xs x) (take_next items i item at_i) there))
  where
    by : Contains (take i items) x ⊎ (item ≡ x) → Has s nodes (run_by s node.items ++ e ∷ [])
    by (inl earlier) = before x e earlier makes
    by (inr same) = last e (subst (λ y. item_event s (core_by s node.items) y ≡ Some e) (sym same) makes)

-- by an item that is passed over
none_makes : (s : Scene) (node : Node) (item : Item) (o : Option Event) (e : Event) → IsAfterBy s node item o None → o ≡ Some e → ⊥
none_makes s node item None e after h = grind arith
none_makes s node item (Some x) e after h = after

pub goes_none : (s : Scene) (node : Node) (items : List Item) (i : ℕ) (item : Item) (old now : Level) → slice_get items i ≡ Some item → GoesOnFrom s node (take i items) old now → IsAfter s node item None → GoesOnFrom s node (take (i + 1) items) old now
goes_none s node items i item old now at_i before after = record {
  made = before.made;
  part = before.part;
  kept = before.kept;
  next = next_push s node items i item now.nodes at_i before.next (λ e makes. absurd (none_makes s node item (item_event s (core_by s node.items) item) e after makes));
}

-- what comes after a node by an item that makes an event
record Comes (s : Scene) (node next : Node) (item : Item) : Type 0 where
  kept : IsNode s next
  event : Event
  run : run_by s next.items ≡ run_by s node.items ++ event ∷ []
  makes : (e : Event) → item_event s (core_by s node.items) item ≡ Some e → event ≡ e

comes : (s : Scene) (node next : Node) (item : Item) → IsAfter s node item (Some next) → Comes s node next item
comes s node next item after = by (item_event s (core_by s node.items) item) refl after
  where
    by : (o : Option Event) → item_event s (core_by s node.items) item ≡ o → IsAfterBy s node item o (Some next) → Comes s node next item
    by None h is = absurd is
    by (Some x) h is = record { kept = is.0; event = x; run = is.2; makes = λ e makes. same_Some x e (sym h ∙ makes) }

made_more : (s : Scene) (node next : Node) (item : Item) (number : ℕ) → length (run_by s node.items) + 1 ≡ number → Comes s node next item → IsNodeOf s number next
made_more s node next item number is come = record { kept = come.kept; made = ap length come.run ∙ length-append (run_by s node.items) (come.event ∷ []) ∙ is }

-- by an item that makes an event, whose node is there or was put last
pub goes_some : (s : Scene) (node next : Node) (items : List Item) (i limit : ℕ) (item : Item) (old now new : Level) → InRange s → slice_get items i ≡ Some item → length (run_by s node.items) + 1 ≡ old.made →
    GoesOnFrom s node (take i items) old now → IsAfter s node item (Some next) → new.made ≡ now.made → Keeps true now.nodes new.nodes next limit → GoesOnFrom s node (take (i + 1) items) old new
goes_some s node next items i limit item old now new good at_i number before after made keeps = by keeps
  where
    come : Comes s node next item
    come = comes s node next item after

    of : IsNodeOf s now.made next
    of = made_more s node next item now.made (number ∙ sym before.made) come

    ends : (nodes : List Node) → Has s nodes (run_by s next.items) → (e : Event) → item_event s (core_by s node.items) item ≡ Some e → Has s nodes (run_by s node.items ++ e ∷ [])
    ends nodes has e makes = subst (Has s nodes) (come.run ∙ ap (λ x. run_by s node.items ++ x ∷ []) (come.makes e makes)) has

    there : HasKey now.nodes next → Has s now.nodes (run_by s next.items)
    there (other, inside, same) =
        let is = (All-contains (IsNodeOf s now.made) now.nodes other before.part.each inside).kept in
        (other, inside, same_leave s other next good (node_run s other good is) (node_run s next good come.kept) is come.kept same)

    by : (HasKey now.nodes next × (new.nodes ≡ now.nodes)) ⊎ ((HasKey now.nodes next → ⊥) × (new.nodes ≡ now.nodes ++ next ∷ [])) → GoesOnFrom s node (take (i + 1) items) old new
    by (inl (has, same)) = record {
      made = made ∙ before.made;
      part = subst (λ n. IsPart s n new.nodes) (sym made) (subst (IsPart s now.made) (sym same) before.part);
      kept = λ events h. subst (λ nodes. Has s nodes events) (sym same) (before.kept events h);
      next = subst (HasNext s node (take (i + 1) items)) (sym same) (next_push s node items i item now.nodes at_i before.next (ends now.nodes (there has)));
    }
    by (inr (none, more)) = record {
      made = made ∙ before.made;
      part = subst (λ n. IsPart s n new.nodes) (sym made) (subst (IsPart s now.made) (sym more) (part_push s now.made now.nodes next before.part of none));
      kept = λ events h. subst (λ nodes. Has s nodes events) (sym more) (push_has s now.nodes next events (before.kept events h));
      next = subst (HasNext s node (take (i + 1) items)) (sym more) (next_push s node items i item (now.nodes ++ next ∷ []) at_i
          (λ x e inside makes. push_has s now.nodes next (run_by s node.items ++ e ∷ []) (before.next x e inside makes))
          (ends (now.nodes ++ next ∷ []) (next, Contains-push now.nodes next, (refl, refl))));
    }

-- and where there is no room for it
pub goes_full : (s : Scene) (node next : Node) (items : List Item) (i limit : ℕ) (item : Item) (old now new : Level) → InRange s → length (run_by s node.items) + 1 ≡ old.made →
    GoesOnFrom s node (take i items) old now → IsAfter s node item (Some next) → Keeps false now.nodes new.nodes next limit → HasMore s old.made limit
goes_full s node next items i limit item old now new good number before after keeps =
    subst (λ n. HasMore s n limit) before.made (too_many s now.made limit (now.nodes ++ next ∷ []) good
    (part_push s now.made now.nodes next before.part (made_more s node next item now.made (number ∙ sym before.made) (comes s node next item after)) keeps.0)
    (let l = keeps.1 in omega (arith, l, length-append now.nodes (next ∷ []))))

pub goes_all : (s : Scene) (node : Node) (items : List Item) (i : ℕ) (old new : Level) → length items ≤ i → GoesOnFrom s node (take i items) old new → GoesOnFrom s node items old new
goes_all s node items i old new le goes = subst (λ xs. GoesOnFrom s node xs old new) (take_all i items le) goes

-- what goes on from the first nodes of a level is there
pub record NextOf (s : Scene) (level : Level) (i : ℕ) (next : Level) : Type 0 where
  pub made : next.made ≡ level.made + 1
  pub part : IsPart s next.made next.nodes
  pub nexts : All (λ node. HasNext s node (choices s) next.nodes) (take i level.nodes)

pub next_start : (s : Scene) (level next : Level) → next ≡ record { made = level.made + 1; nodes = [] } → NextOf s level 0 next
next_start s level next is = subst (NextOf s level 0) (sym is) (record {
  made = refl;
  part = record { each = All-nil (IsNodeOf s (level.made + 1)); apart = λ i j d l r. absurd (omega (arith, r)) };
  nexts = All-nil (λ node. HasNext s node (choices s) []);
})

pub next_goes : (s : Scene) (level : Level) (i : ℕ) (node : Node) (now new : Level) → slice_get level.nodes i ≡ Some node → NextOf s level i now → GoesOnFrom s node (choices s) now new → NextOf s level (i + 1) new
next_goes s level i node now new at_i before goes = record {
  made = goes.made ∙ before.made;
  part = goes.part;
  nexts = subst (All (λ n. HasNext s n (choices s) new.nodes)) (sym (take_next level.nodes i node at_i))
      (All-push (λ n. HasNext s n (choices s) new.nodes) (take i level.nodes) node
      (All-weaker (λ n. HasNext s n (choices s) now.nodes) (λ n. HasNext s n (choices s) new.nodes) (λ n h item e there makes. goes.kept (run_by s n.items ++ e ∷ []) (h item e there makes)) (take i level.nodes) before.nexts)
      goes.next);
}

pub next_level : (s : Scene) (level next : Level) (i : ℕ) → InRange s → IsLevel s level → length level.nodes ≤ i → NextOf s level i next → IsLevel s next
next_level s level next i good is le all = record {
  part = all.part;
  all = λ events run made. level_step s level next.nodes good is (subst (All (λ n. HasNext s n (choices s) next.nodes)) (take_all i level.nodes le) all.nexts) events run (made ∙ all.made);
}

-- the node at a place of a level
pub node_at : (s : Scene) (level : Level) (i : ℕ) (node : Node) → IsLevel s level → slice_get level.nodes i ≡ Some node → IsNodeOf s level.made node
node_at s level i node is at_i = subst (IsNodeOf s level.made) (get_or_from_slice_get level.nodes i node node at_i) (is.part.each i node (slice_get_within level.nodes i node at_i))

-- the level of no events
pub opening_level : (s : Scene) (node : Node) (level : Level) → IsNode s node → node.items ≡ [] → level ≡ record { made = 0; nodes = node ∷ [] } → IsLevel s level
opening_level s node level is empty same = subst (IsLevel s) (sym same) (record {
  part = record {
    each = All-push (IsNodeOf s 0) [] node (All-nil (IsNodeOf s 0)) (record { kept = is; made = ap (λ items. length (run_by s items)) empty });
    apart = λ i j d l r. absurd (omega (arith, l, r));
  };
  all = λ events run made. (node, (0, omega arith, refl), ends events made);
})
  where
    none : (events : List Event) → length events ≡ 0 → [] ≡ events
    none [] e = refl
    none (x ∷ xs) e = absurd (omega (arith, e))

    ends : (events : List Event) → length events ≡ 0 → LeaveSame s (run_by s node.items) events
    ends events made = let e : run_by s node.items ≡ events = ap (run_by s) empty ∙ none events made in (ap journal_of e, ap (after_events s (opening_core s)) e)

-- by what was kept of what comes next
pub goes_kept : (s : Scene) (node : Node) (items : List Item) (i limit : ℕ) (item : Item) (old now new : Level) (next : Option Node) (b : Bool) → InRange s → slice_get items i ≡ Some item → length (run_by s node.items) + 1 ≡ old.made →
    GoesOnFrom s node (take i items) old now → IsAfter s node item next → KeepsNext b now new next limit → b ≡ true → GoesOnFrom s node (take (i + 1) items) old new
goes_kept s node items i limit item old now new None b good at_i number before after keeps holds = subst (GoesOnFrom s node (take (i + 1) items) old) (sym keeps.1) (goes_none s node items i item old now at_i before after)
goes_kept s node items i limit item old now new (Some next) b good at_i number before after keeps holds =
    goes_some s node next items i limit item old now new good at_i number before after keeps.0 (subst (λ k. Keeps k now.nodes new.nodes next limit) holds keeps.1)

-- or not kept
pub goes_over : (s : Scene) (node : Node) (items : List Item) (i limit : ℕ) (item : Item) (old now new : Level) (next : Option Node) (b : Bool) → InRange s → length (run_by s node.items) + 1 ≡ old.made →
    GoesOnFrom s node (take i items) old now → IsAfter s node item next → KeepsNext b now new next limit → b ≡ false → HasMore s old.made limit
goes_over s node items i limit item old now new None b good number before after keeps fails = absurd (true≢false (sym keeps.0 ∙ fails))
goes_over s node items i limit item old now new (Some next) b good number before after keeps fails =
    goes_full s node next items i limit item old now new good number before after (subst (λ k. Keeps k now.nodes new.nodes next limit) fails keeps.1)
