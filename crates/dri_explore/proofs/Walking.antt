-- Items one after another, and lists as far as they are gone through.
use Rattle.std.proofs.Common.{◌≡◌, ◌≢◌, ◌<◌, ◌≤◌, ◌+◌, ◌++◌, ◌∙◌, ℕ, zero, suc, List, [], ◌∷◌, length, map, take, Bool, true, false, Option, Some, None, arith, refl, sym, ap, subst, inl, inr}
use Rattle.std.specs.Prelude.{◌&&◌, All, AllPairs, Contains, is_none, slice_get}
use Rattle.std.specs.List.{filter}
use Rattle.std.proofs.lemmas.Bool.{true≢false}
use Rattle.std.proofs.lemmas.List.{append-nil, get_or-map, length-append, length-map, map-append, take_all}
use Rattle.std.proofs.lemmas.List.Elements.{All-head, All-push, All-tail, All-weaker, Contains-get_or, filter-append}
use Rattle.std.proofs.lemmas.List.Quantifiers.{all_pairs_push}
use Rattle.std.proofs.lemmas.Option.{get_or_from_slice_get, same_Some, slice_get_within}
use Rattle.dri_base.specs.Ranges.{client_numbers}
use Rattle.dri_base.specs.declared.command.Item.{Item}
use Rattle.dri_base.specs.declared.journal.Entry.{Entry}
use Rattle.dri_base.specs.declared.journal.Event.{Event}
use Rattle.dri_base.specs.declared.scene.ClientScript.{ClientScript}
use Rattle.dri_base.specs.declared.scene.Scene.{Scene}
use Rattle.dri_core.specs.Cores.{Core, opening_core}
use Rattle.dri_core.specs.Turns.{all_pass, item_event, one_event, played}
use Rattle.dri_core.proofs.Rounds.{played_append}
use Rattle.dri_explore.specs.Ends.{InOrder, IsShown, journals, numbers, screen}
use Rattle.dri_explore.specs.Gathering.{Notes, Places}
use Rattle.dri_explore.specs.Nodes.{IsAfter, IsAfterBy, IsNode}
use Rattle.dri_explore.specs.Runs.{core_by, course_of, is_kill, run_by}
use Rattle.dri_explore.specs.declared.ends.End.{End}
use Rattle.dri_explore.specs.declared.ends.Ends.{Ends}
use Rattle.dri_explore.specs.declared.node.Node.{Node}
use Rattle.dri_explore.proofs.Steps.{take_next}
use Rattle.dri_world.specs.Courses.{Course, GoesOn, core_of, turned}
use Rattle.dri_world.specs.declared.turned.Turned.TheVariants.{Did, Passed}
use Rattle.dri_world.proofs.Rounding.{item_on}

-- the course of one item more
pub course_step : (s : Scene) (now new : Course) (items : List Item) (i : ℕ) (item : Item) → slice_get items i ≡ Some item → now ≡ course_of s (take i items) → GoesOn now new (one_event (item_event now.scene (core_of now) item)) → new ≡ course_of s (take (i + 1) items)
course_step s now new items i item at_i same goes = λ t. record { scene = on.scene t; events = on.events t }
  where
    on : GoesOn (record { scene = s; events = [] }) new (played s (opening_core s) (take (i + 1) items))
    on = item_on (record { scene = s; events = [] }) now new items i item at_i (record { scene = ap (λ (c : Course). c.scene) same; events = ap (λ (c : Course). c.events) same }) goes

run_more : (s : Scene) (items : List Item) (item : Item) → run_by s (items ++ item ∷ []) ≡ run_by s items ++ one_event (item_event s (core_by s items) item)
run_more s items item = played_append s (opening_core s) items (item ∷ []) ∙ ap (λ t. run_by s items ++ t) (append-nil (one_event (item_event s (core_by s items) item)))

pub course_more : (s : Scene) (now new : Course) (items : List Item) (item : Item) → now ≡ course_of s items → GoesOn now new (one_event (item_event now.scene (core_of now) item)) → new ≡ course_of s (items ++ item ∷ [])
course_more s now new items item same goes = λ t. record { scene = scenes t; events = events t }
  where
    scenes : new.scene ≡ s
    scenes = goes.scene ∙ ap (λ (c : Course). c.scene) same

    events : new.events ≡ run_by s (items ++ item ∷ [])
    events = subst (λ (c : Course). new.events ≡ c.events ++ one_event (item_event c.scene (core_of c) item)) same goes.events ∙ sym (run_more s items item)

-- which event was told
pub did_event : (o : Option Event) (e : Event) → Did e ≡ turned o → o ≡ Some e
did_event None e h = absurd (grind arith)
did_event (Some x) e h = sym (grind arith)

pub passed_event : (o : Option Event) → Passed ≡ turned o → o ≡ None
passed_event None h = refl
passed_event (Some x) h = absurd (grind arith)

-- what comes after a node by an item
pub after_some : (s : Scene) (node next : Node) (now : Course) (item : Item) (e : Event) → now ≡ course_of s node.items → Did e ≡ turned (item_event now.scene (core_of now) item) → IsNode s next → next.items ≡ node.items ++ item ∷ [] → IsAfter s node item (Some next)
after_some s node next now item e same told is items = by (item_event s (core_by s node.items) item) refl (did_event _ e (subst (λ (c : Course). Did e ≡ turned (item_event c.scene (core_of c) item)) same told))
  where
    by : (o : Option Event) → item_event s (core_by s node.items) item ≡ o → item_event s (core_by s node.items) item ≡ Some e → IsAfterBy s node item o (Some next)
    by None h t = absurd (none_some (sym h ∙ t))
      where
        none_some : None ≡ Some e → ⊥
        none_some x = grind arith
    by (Some x) h t = (is, items, ap (run_by s) items ∙ run_more s node.items item ∙ ap (λ u. run_by s node.items ++ one_event u) h)

pub after_none : (s : Scene) (node : Node) (now : Course) (item : Item) → now ≡ course_of s node.items → Passed ≡ turned (item_event now.scene (core_of now) item) → IsAfter s node item None
after_none s node now item same told = by (item_event s (core_by s node.items) item) refl (passed_event _ (subst (λ (c : Course). Passed ≡ turned (item_event c.scene (core_of c) item)) same told))
  where
    by : (o : Option Event) → item_event s (core_by s node.items) item ≡ o → item_event s (core_by s node.items) item ≡ None → IsAfterBy s node item o None
    by None h t = tt
    by (Some x) h t = absurd (some_none (sym h ∙ t))
      where
        some_none : Some x ≡ None → ⊥
        some_none y = grind arith

-- where an item makes an event not all are passed over
and_false : (b : Bool) → (b && false) ≡ false
and_false true = refl
and_false false = refl

pub passes_not : (s : Scene) (k : Core) (items : List Item) (i : ℕ) (item : Item) (e : Event) → slice_get items i ≡ Some item → item_event s k item ≡ Some e → all_pass s k items ≡ false
passes_not s k [] i item e at_i makes = absurd (let l = slice_get_within {A = Item} [] i item at_i in omega (arith, l))
passes_not s k (x ∷ xs) zero item e at_i makes = let first : x ≡ item = same_Some x item at_i in rw (ap (item_event s k) first ∙ makes) refl
passes_not s k (x ∷ xs) (suc i) item e at_i makes = rw (passes_not s k xs i item e at_i makes) (and_false (is_none (item_event s k x)))

passes_push : (s : Scene) (k : Core) (items : List Item) (item : Item) → all_pass s k items ≡ true → item_event s k item ≡ None → all_pass s k (items ++ item ∷ []) ≡ true
passes_push s k [] item before none = rw none refl
passes_push s k (x ∷ xs) item before none = by (is_none (item_event s k x)) refl before (λ rest. passes_push s k xs item rest none)
  where
    by : (b : Bool) → is_none (item_event s k x) ≡ b → (b && all_pass s k xs) ≡ true → (all_pass s k xs ≡ true → all_pass s k (xs ++ item ∷ []) ≡ true) → (is_none (item_event s k x) && all_pass s k (xs ++ item ∷ [])) ≡ true
    by true h rest on = rw (h, on rest) refl
    by false h rest on = absurd (true≢false (sym rest))

pub passes_more : (s : Scene) (k : Core) (items : List Item) (i : ℕ) (item : Item) → slice_get items i ≡ Some item → all_pass s k (take i items) ≡ true → item_event s k item ≡ None → all_pass s k (take (i + 1) items) ≡ true
passes_more s k items i item at_i before none = subst (λ xs. all_pass s k xs ≡ true) (sym (take_next items i item at_i)) (passes_push s k (take i items) item before none)

-- a turn that is passed over leaves the course
pub stays : (now new : Course) (o : Option Event) → o ≡ None → GoesOn now new (one_event o) → new ≡ now
stays now new o none goes = λ t. record { scene = goes.scene t; events = events t }
  where
    events : new.events ≡ now.events
    events = goes.events ∙ ap (λ u. now.events ++ one_event u) none ∙ append-nil now.events

-- lists as far as they are gone through
pub map_next : {X Y : Type 0} (f : X → Y) (xs : List X) (i : ℕ) (x : X) (ys zs : List Y) → slice_get xs i ≡ Some x → ys ≡ map f (take i xs) → zs ≡ ys ++ f x ∷ [] → zs ≡ map f (take (i + 1) xs)
map_next f xs i x ys zs at_i before more = more ∙ ap (λ t. t ++ f x ∷ []) before ∙ sym (map-append f (take i xs) (x ∷ [])) ∙ sym (ap (map f) (take_next xs i x at_i))

pub kill_next : (turns : List Item) (i : ℕ) (item : Item) (front items more : List Item) → slice_get turns i ≡ Some item → items ≡ front ++ filter is_kill (take i turns) → is_kill item ≡ true → more ≡ items ++ item ∷ [] → more ≡ front ++ filter is_kill (take (i + 1) turns)
kill_next turns i item front items more at_i before kills grows =
    grows ∙ ap (λ t. t ++ item ∷ []) before ∙ three front (filter is_kill (take i turns)) (item ∷ []) ∙ ap (λ t. front ++ t) (sym kept)
  where
    three : (xs ys zs : List Item) → (xs ++ ys) ++ zs ≡ xs ++ (ys ++ zs)
    three [] ys zs = refl
    three (x ∷ xs) ys zs = ap (λ t. x ∷ t) (three xs ys zs)

    one : filter is_kill (item ∷ []) ≡ item ∷ []
    one = rw kills refl

    kept : filter is_kill (take (i + 1) turns) ≡ filter is_kill (take i turns) ++ item ∷ []
    kept = ap (filter is_kill) (take_next turns i item at_i) ∙ filter-append is_kill (take i turns) (item ∷ []) ∙ ap (λ t. filter is_kill (take i turns) ++ t) one

pub kill_skipped : (turns : List Item) (i : ℕ) (item : Item) (front items : List Item) → slice_get turns i ≡ Some item → items ≡ front ++ filter is_kill (take i turns) → is_kill item ≡ false → items ≡ front ++ filter is_kill (take (i + 1) turns)
kill_skipped turns i item front items at_i before none = before ∙ ap (λ t. front ++ t) (sym kept)
  where
    empty : filter is_kill (item ∷ []) ≡ []
    empty = rw none refl

    kept : filter is_kill (take (i + 1) turns) ≡ filter is_kill (take i turns)
    kept = ap (filter is_kill) (take_next turns i item at_i) ∙ filter-append is_kill (take i turns) (item ∷ []) ∙ ap (λ t. filter is_kill (take i turns) ++ t) empty ∙ append-nil (filter is_kill (take i turns))

pub all_next : {X : Type 0} (P : X → Type 0) (xs : List X) (i : ℕ) (x : X) → slice_get xs i ≡ Some x → All P (take i xs) → P x → All P (take (i + 1) xs)
all_next P xs i x at_i all is = subst (All P) (sym (take_next xs i x at_i)) (All-push P (take i xs) x all is)

pub all_of : {X : Type 0} (P : X → Type 0) (xs : List X) (i : ℕ) → length xs ≤ i → All P (take i xs) → All P xs
all_of P xs i le all = subst (All P) (take_all i xs le) all

-- a client's number is among all
pub number_there : (ps : List ClientScript) (i : ℕ) (p : ClientScript) → slice_get ps i ≡ Some p → Contains (client_numbers ps) p.number
number_there ps i p at_i =
    let l = slice_get_within ps i p at_i in
    (i, omega (arith, l, length-map ps (λ (q : ClientScript). q.number)), get_or-map (λ (q : ClientScript). q.number) ps i p p.number l ∙ ap (λ (q : ClientScript). q.number) (get_or_from_slice_get ps i p p at_i))

-- a journal that no end has
pub none_listed : (ends : List End) (j : List Entry) → All (λ e. e.journal ≡ j → ⊥) ends → Contains (journals ends) j → ⊥
none_listed [] j all (k, l, e) = omega (arith, l)
none_listed (x ∷ xs) j all (zero, l, e) = All-head (λ (e : End). e.journal ≡ j → ⊥) x xs all e
none_listed (x ∷ xs) j all (suc k, l, e) = none_listed xs j (All-tail (λ (e : End). e.journal ≡ j → ⊥) x xs all) (k, omega (arith, l), e)

pub journal_there : (ends : List End) (i : ℕ) (end : End) (j : List Entry) → slice_get ends i ≡ Some end → end.journal ≡ j → Contains (journals ends) j
journal_there ends i end j at_i same =
    let l = slice_get_within ends i end at_i in
    (i, omega (arith, l, length-map ends (λ (e : End). e.journal)), get_or-map (λ (e : End). e.journal) ends i end j l ∙ ap (λ (e : End). e.journal) (get_or_from_slice_get ends i end end at_i) ∙ same)

-- numbers in order, one more
order_old : (seen : ℕ) (ns : List ℕ) (all n : ℕ) → InOrder seen ns all → n < all → InOrder seen (ns ++ n ∷ []) all
order_old seen [] all n order l = inl (omega (arith, order, l), order)
order_old seen (m ∷ ns) all n (inl h) l = inl (h.0, order_old seen ns all n h.1 l)
order_old seen (m ∷ ns) all n (inr h) l = inr (h.0, order_old (suc seen) ns all n h.1 l)

order_new : (seen : ℕ) (ns : List ℕ) (all : ℕ) → InOrder seen ns all → InOrder seen (ns ++ all ∷ []) (suc all)
order_new seen [] all order = inr (sym order, ap suc order)
order_new seen (m ∷ ns) all (inl h) = inl (h.0, order_new seen ns all h.1)
order_new seen (m ∷ ns) all (inr h) = inr (h.0, order_new (suc seen) ns all h.1)

-- a place of a list with more behind it
get_front : {X : Type 0} (xs ys : List X) (i : ℕ) (x : X) → slice_get xs i ≡ Some x → slice_get (xs ++ ys) i ≡ Some x
get_front {X = X} [] ys i x at_i = absurd (let l = slice_get_within {A = X} [] i x at_i in omega (arith, l))
get_front (y ∷ xs) ys zero x at_i = at_i
get_front (y ∷ xs) ys (suc i) x at_i = get_front xs ys i x at_i

get_last : {X : Type 0} (xs : List X) (x : X) → slice_get (xs ++ x ∷ []) (length xs) ≡ Some x
get_last [] x = refl
get_last (y ∷ xs) x = get_last xs x

-- an end is noted
pub noted : (s : Scene) (old new : Ends) (journal : List Entry) (end : End) → IsShown s old → (Contains (journals old.ends) journal → ⊥) → end.journal ≡ journal → Places old.pictures new.pictures (screen s journal) end.picture →
    new.ends ≡ old.ends ++ end ∷ [] → Notes s old new journal
noted s old new journal end shown none same (inl (place, pictures)) grows = record {
  ends = inr (none, ap journals grows ∙ map-append (λ (e : End). e.journal) old.ends (end ∷ []) ∙ ap (λ j. journals old.ends ++ j ∷ []) same);
  shown = record {
    shown = subst (All (λ e. slice_get new.pictures e.picture ≡ Some (screen s e.journal))) (sym grows)
        (All-push (λ e. slice_get new.pictures e.picture ≡ Some (screen s e.journal)) old.ends end (subst (λ ps. All (λ e. slice_get ps e.picture ≡ Some (screen s e.journal)) old.ends) (sym pictures) shown.shown)
        (ap (λ ps. slice_get ps end.picture) pictures ∙ place ∙ ap (λ j. Some (screen s j)) (sym same)));
    apart = subst (AllPairs ◌≢◌) (sym pictures) shown.apart;
    ordered = subst (λ ps. InOrder 0 (numbers new.ends) (length ps)) (sym pictures) (subst (λ ns. InOrder 0 ns (length old.pictures)) (sym (ap numbers grows ∙ map-append (λ (e : End). e.picture) old.ends (end ∷ [])))
        (order_old 0 (numbers old.ends) (length old.pictures) end.picture shown.ordered (slice_get_within old.pictures end.picture (screen s journal) place)));
  };
}
noted s old new journal end shown none same (inr (fresh, pictures, last)) grows = record {
  ends = inr (none, ap journals grows ∙ map-append (λ (e : End). e.journal) old.ends (end ∷ []) ∙ ap (λ j. journals old.ends ++ j ∷ []) same);
  shown = record {
    shown = subst (All (λ e. slice_get new.pictures e.picture ≡ Some (screen s e.journal))) (sym grows)
        (All-push (λ e. slice_get new.pictures e.picture ≡ Some (screen s e.journal)) old.ends end
        (subst (λ ps. All (λ e. slice_get ps e.picture ≡ Some (screen s e.journal)) old.ends) (sym pictures)
        (All-weaker (λ e. slice_get old.pictures e.picture ≡ Some (screen s e.journal)) (λ e. slice_get (old.pictures ++ screen s journal ∷ []) e.picture ≡ Some (screen s e.journal)) (λ e h. get_front old.pictures (screen s journal ∷ []) e.picture (screen s e.journal) h) old.ends shown.shown))
        (ap (λ ps. slice_get ps end.picture) pictures ∙ ap (slice_get (old.pictures ++ screen s journal ∷ [])) last ∙ get_last old.pictures (screen s journal) ∙ ap (λ j. Some (screen s j)) (sym same)));
    apart = subst (AllPairs ◌≢◌) (sym pictures) (all_pairs_push ◌≢◌ old.pictures (screen s journal) shown.apart (λ k d l e. fresh (subst (Contains old.pictures) e (Contains-get_or old.pictures k d l))));
    ordered = subst (λ n. InOrder 0 (numbers new.ends) n) (sym (ap length pictures ∙ length-append old.pictures (screen s journal ∷ []) ∙ one_more (length old.pictures)))
        (subst (λ ns. InOrder 0 ns (suc (length old.pictures))) (sym (ap numbers grows ∙ map-append (λ (e : End). e.picture) old.ends (end ∷ []) ∙ ap (λ n. numbers old.ends ++ n ∷ []) last))
        (order_new 0 (numbers old.ends) (length old.pictures) shown.ordered));
  };
}
  where
    one_more : (n : ℕ) → n + 1 ≡ suc n
    one_more n = omega arith
