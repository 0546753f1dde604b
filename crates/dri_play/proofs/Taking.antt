-- One item after another, and which are passed over.
use Rattle.std.proofs.Common.{◌≡◌, ◌+◌, ◌++◌, ◌∙◌, ◌∷◌, [], ℕ, List, Option, Some, None, ap, refl, sym, subst, take}
use Rattle.std.specs.Prelude.{slice_get}
use Rattle.std.proofs.lemmas.List.{take_more}
use Rattle.std.proofs.lemmas.Option.{get_or_from_slice_get, slice_get_within}
use Rattle.dri_base.specs.declared.command.Item.{Item}
use Rattle.dri_base.specs.declared.journal.Event.{Event}
use Rattle.dri_base.specs.declared.scene.Scene.{Scene}
use Rattle.dri_core.specs.CoreRuns.{after_events}
use Rattle.dri_core.specs.Cores.{Core, opening_core}
use Rattle.dri_core.specs.Turns.{core_after, item_event, one_event, played}
use Rattle.dri_play.specs.Plays.{flag, passed_over}
use Rattle.dri_world.proofs.Rounding.{core_on, item_on}
use Rattle.dri_world.specs.Courses.{Course, GoesOn, core_of}

-- one item more at the end
more_passed : (s : Scene) (k : Core) (xs : List Item) (item : Item) → passed_over s k (xs ++ item ∷ []) ≡ passed_over s k xs ++ flag (item_event s (after_events s k (played s k xs)) item) ∷ []
more_passed s k [] item = refl
more_passed s k (x ∷ xs) item = ap (λ t. flag (item_event s k x) ∷ t) (by_event (item_event s k x) (λ m. more_passed s m xs item))
  where
    by_event : (o : Option Event) → ((m : Core) → passed_over s m (xs ++ item ∷ []) ≡ passed_over s m xs ++ flag (item_event s (after_events s m (played s m xs)) item) ∷ []) → passed_over s (core_after s k o) (xs ++ item ∷ []) ≡ passed_over s (core_after s k o) xs ++ flag (item_event s (after_events s k (one_event o ++ played s (core_after s k o) xs)) item) ∷ []
    by_event None on = on k
    by_event (Some e) on = on (core_after s k (Some e))

take_one : (items : List Item) (i : ℕ) (item : Item) → slice_get items i ≡ Some item → take (i + 1) items ≡ take i items ++ item ∷ []
take_one items i item at_i =
    take_more items i item (slice_get_within items i item at_i) ∙ ap (λ t. take i items ++ t ∷ []) (get_or_from_slice_get items i item item at_i)

-- the flags of so many items, and of one more
pub passed_on : (s : Scene) (k : Core) (items : List Item) (i : ℕ) (item : Item) → slice_get items i ≡ Some item → passed_over s k (take (i + 1) items) ≡ passed_over s k (take i items) ++ flag (item_event s (after_events s k (played s k (take i items))) item) ∷ []
passed_on s k items i item at_i = ap (passed_over s k) (take_one items i item at_i) ∙ more_passed s k (take i items) item

-- the events of so many items from the opening, and of one more
pub events_on : (s : Scene) (old now new : Course) (items : List Item) (i : ℕ) (item : Item) → old ≡ record { scene = s; events = [] } → slice_get items i ≡ Some item → GoesOn old now (played s (opening_core s) (take i items)) → GoesOn now new (one_event (item_event now.scene (core_of now) item)) → GoesOn old new (played s (opening_core s) (take (i + 1) items))
events_on s old now new items i item opens at_i first second =
    subst (λ w. GoesOn w new (played s (opening_core s) (take (i + 1) items))) (sym opens)
    (item_on (record { scene = s; events = [] }) now new items i item at_i (subst (λ w. GoesOn w now (played s (opening_core s) (take i items))) opens first) second)

-- and whether that one is passed over
pub flags_on : (s : Scene) (old now : Course) (items : List Item) (i : ℕ) (item : Item) (flags more : List ℕ) (f : ℕ) → old ≡ record { scene = s; events = [] } → slice_get items i ≡ Some item → GoesOn old now (played s (opening_core s) (take i items)) → flags ≡ passed_over s (opening_core s) (take i items) → f ≡ flag (item_event now.scene (core_of now) item) → more ≡ flags ++ f ∷ [] → more ≡ passed_over s (opening_core s) (take (i + 1) items)
flags_on s old now items i item flags more f opens at_i first were told grows =
    grows ∙ ap (λ t. t ++ f ∷ []) were ∙ ap (λ x. passed_over s (opening_core s) (take i items) ++ x ∷ []) (told ∙ ap flag same) ∙ sym (passed_on s (opening_core s) items i item at_i)
  where
    core : core_of now ≡ after_events s (opening_core s) (played s (opening_core s) (take i items))
    core = subst (λ w. core_of now ≡ after_events w.scene (core_of w) (played s (opening_core s) (take i items))) opens (core_on old now (played s (opening_core s) (take i items)) first)

    same : item_event now.scene (core_of now) item ≡ item_event s (after_events s (opening_core s) (played s (opening_core s) (take i items))) item
    same = ap (λ t. item_event t (core_of now) item) (first.scene ∙ ap (λ w. w.scene) opens) ∙ ap (λ k. item_event s k item) core
