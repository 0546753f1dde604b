-- Items that are taken one after another, and their lines.
use Rattle.std.proofs.Common.{◌≡◌, ◌<◌, ◌+◌, ℕ, List, [], ◌∷◌, ◌++◌, All, map, length, take, Option, Some, None, refl, sym, ap, ◌∙◌, append_assoc, inl, inr, subst}
use Rattle.std.proofs.Math.ListN.{get_or}
use Rattle.std.proofs.lemmas.List.{append-nil, map_push, take_more}
use Rattle.std.proofs.lemmas.List.Elements.{All-append, All-cons, All-from_get_or, All-get_or, All-map, All-nil}
use Rattle.std.proofs.lemmas.Option.{slice_get-get_or}
use Rattle.dri_base.specs.Ranges.{InRange, client_numbers}
use Rattle.dri_base.specs.declared.command.Item.{Item}
use Rattle.dri_base.specs.declared.command.Item.TheVariants.{Turn}
use Rattle.dri_base.specs.declared.journal.Event.{Event}
use Rattle.dri_base.specs.declared.scene.ClientScript.{ClientScript}
use Rattle.dri_base.specs.declared.scene.Scene.{Scene}
use Rattle.dri_core.specs.CoreRuns.{after_events}
use Rattle.dri_core.specs.Cores.{Core}
use Rattle.dri_core.specs.Turns.{core_after, item_event, one_event, played, round}
use Rattle.dri_core.proofs.Lists.{number_at}
use Rattle.dri_scene.proofs.Joins.{adds_same, joined}
use Rattle.dri_scene.specs.Texts.{Adds}
use Rattle.dri_world.proofs.Places.{stands}
use Rattle.dri_world.proofs.Rounding.{core_on, item_on, may_take}
use Rattle.dri_world.specs.Courses.{Course, GoesOn, MayTake, core_of}
use Rattle.dri_lab_run.specs.EventLines.{core_behind, item_line, item_lines}

-- the core after one item
pub core_one : (old new : Course) (o : Option Event) → GoesOn old new (one_event o) → core_of new ≡ core_after old.scene (core_of old) o
core_one old new None on = core_on old new [] on
core_one old new (Some e) on = core_on old new (e ∷ []) on

-- the lines of items, and of those behind them
pub lines_append : (s : Scene) (k : Core) (xs ys : List Item) → item_lines s k (xs ++ ys) ≡ item_lines s k xs ++ item_lines s (core_behind s k xs) ys
lines_append s k [] ys = refl
lines_append s k (x ∷ xs) ys =
    ap (λ t. item_line s k x ++ t) (by_event (item_event s k x) (λ m. lines_append s m xs ys)) ∙ sym (append_assoc (item_line s k x) (item_lines s (core_after s k (item_event s k x)) xs) (item_lines s (core_behind s k (x ∷ xs)) ys))
  where
    by_event : (o : Option Event) → ((m : Core) → item_lines s m (xs ++ ys) ≡ item_lines s m xs ++ item_lines s (core_behind s m xs) ys) →
        item_lines s (core_after s k o) (xs ++ ys) ≡ item_lines s (core_after s k o) xs ++ item_lines s (after_events s k (one_event o ++ played s (core_after s k o) xs)) ys
    by_event None on = on k
    by_event (Some e) on = on (core_after s k (Some e))

-- the line of one more
pub lines_on : (old now : Course) (items : List Item) (i : ℕ) (d : Item) {t u v : List ℕ} → i < length items → GoesOn old now (played old.scene (core_of old) (take i items)) → Adds t (item_lines old.scene (core_of old) (take i items)) u →
    Adds u (item_line now.scene (core_of now) (get_or items i d)) v → Adds t (item_lines old.scene (core_of old) (take (i + 1) items)) v
lines_on old now items i d less on first then =
    adds_same (joined first then) (sym (ap (item_lines s k) (take_more items i d less) ∙ lines_append s k (take i items) (item ∷ []) ∙ ap (λ t. item_lines s k (take i items) ++ t) (append-nil (item_line s (core_behind s k (take i items)) item) ∙ sym same)))
  where
    s : Scene
    s = old.scene

    k : Core
    k = core_of old

    item : Item
    item = get_or items i d

    same : item_line now.scene (core_of now) item ≡ item_line s (core_behind s k (take i items)) item
    same = ap (λ z. item_line z (core_of now) item) on.scene ∙ ap (λ c. item_line s c item) (core_on old now (played s k (take i items)) on)

-- the events of one more
pub events_on : (old now new : Course) (items : List Item) (i : ℕ) (d : Item) → i < length items → GoesOn old now (played old.scene (core_of old) (take i items)) → GoesOn now new (one_event (item_event now.scene (core_of now) (get_or items i d))) →
    GoesOn old new (played old.scene (core_of old) (take (i + 1) items))
events_on old now new items i d less first second = item_on old now new items i (get_or items i d) (slice_get-get_or items i d less) first second

-- it may be taken
pub may_on : (old now : Course) (items : List Item) (i : ℕ) (d : Item) {events : List Event} → i < length items → GoesOn old now events → All (MayTake old.scene) items → MayTake now.scene (get_or items i d)
may_on old now items i d less on all = subst (λ (s : Scene). MayTake s (get_or items i d)) (sym on.scene) (All-get_or (MayTake old.scene) items i d less all)

-- the items of a schedule may be taken
pub schedule_may : (s : Scene) → InRange s → All (MayTake s) s.turns
schedule_may s good = All-from_get_or (MayTake s) s.turns (Turn 0) (λ i less. may_take s i (get_or s.turns i (Turn 0)) good (slice_get-get_or s.turns i (Turn 0) less))

-- and the turns of a round
pub round_may : (s : Scene) → All (MayTake s) (round s)
round_may s = All-append (MayTake s) (map turn_of s.clients) (Turn 0 ∷ []) (All-map (MayTake s) turn_of s.clients each) (All-cons (MayTake s) (Turn 0) [] (inl refl) (All-nil (MayTake s)))
  where
    turn_of : ClientScript → Item
    turn_of p = Turn p.number

    each : All (λ p. MayTake s (turn_of p)) s.clients
    each i d less = inr (stands (client_numbers s.clients) i (get_or s.clients i d).number (number_at s.clients i (get_or s.clients i d) (slice_get-get_or s.clients i d less)))

-- one turn more
pub turns_more : (clients : List ClientScript) (i : ℕ) (d : ClientScript) → i < length clients → map (λ p. Turn p.number) (take (i + 1) clients) ≡ map (λ p. Turn p.number) (take i clients) ++ Turn (get_or clients i d).number ∷ []
turns_more clients i d less = ap (map (λ (p : ClientScript). Turn p.number)) (take_more clients i d less) ∙ map_push (λ (p : ClientScript). Turn p.number) (take i clients) (get_or clients i d)
