-- Rounds that are taken one after another until one makes no event.
use Rattle.std.proofs.Common.{◌≡◌, ◌<◌, ◌+◌, ◌⊎◌, ℕ, List, [], ◌∷◌, ◌++◌, length, arith, refl, sym, ap, ◌∙◌, inl, inr, subst}
use Rattle.std.proofs.lemmas.List.{append-nil}
use Rattle.dri_base.specs.declared.command.Item.{Item}
use Rattle.dri_base.specs.declared.journal.Event.{Event}
use Rattle.dri_base.specs.declared.scene.Scene.{Scene}
use Rattle.dri_core.specs.Cores.{Core, opening_core}
use Rattle.dri_core.specs.Turns.{played, round, rounds}
use Rattle.dri_core.proofs.RoundsEnd.{more_rounds}
use Rattle.dri_scene.proofs.Joins.{added_none, adds_same, joined}
use Rattle.dri_scene.specs.Texts.{Adds}
use Rattle.dri_world.proofs.Rounding.{core_on, round_on}
use Rattle.dri_world.specs.Courses.{Course, GoesOn, core_of}
use Rattle.dri_lab_run.proofs.Items.{lines_append}
use Rattle.dri_lab_run.specs.EventLines.{GivesEvents, PutRounds, core_behind, item_lines}

-- so many rounds were taken, each made an event, and their lines were put
pub record Rounded (old now : Course) (before text : List ℕ) (n : ℕ) : Type 0 where
  pub made : GoesOn old now (played old.scene (core_of old) (rounds old.scene n))
  pub put : Adds before (item_lines old.scene (core_of old) (rounds old.scene n)) text
  pub busy : (m : ℕ) → m < n → played old.scene (core_behind old.scene (core_of old) (rounds old.scene m)) (round old.scene) ≡ [] → ⊥

pub rounded_none : (old : Course) (t : List ℕ) → Rounded old old t t 0
rounded_none old t = record {
  made = record { scene = refl; events = sym (append-nil old.events) };
  put = added_none t;
  busy = λ m less. absurd (let none : m < 0 = less in omega (arith, none));
}

-- a round that makes no event leaves as many
none_added : (xs ys : List Event) → length (xs ++ ys) ≡ length xs → ys ≡ []
none_added [] [] same = refl
none_added [] (y ∷ ys) same = absurd (omega (arith, same))
none_added (x ∷ xs) ys same = none_added xs ys (omega (arith, same))

-- what a round makes, by the core that it finds
round_made : (old now : Course) (n : ℕ) (turns : List Item) → turns ≡ round old.scene → GoesOn old now (played old.scene (core_of old) (rounds old.scene n)) →
    played now.scene (core_of now) turns ≡ played old.scene (core_behind old.scene (core_of old) (rounds old.scene n)) (round old.scene)
round_made old now n turns same on =
    ap (played now.scene (core_of now)) same ∙ ap (λ (s : Scene). played s (core_of now) (round old.scene)) on.scene
    ∙ ap (λ (k : Core). played old.scene k (round old.scene)) (core_on old now (played old.scene (core_of old) (rounds old.scene n)) on)

-- and its lines
round_lines : (old now : Course) (n : ℕ) (turns : List Item) → turns ≡ round old.scene → GoesOn old now (played old.scene (core_of old) (rounds old.scene n)) →
    item_lines now.scene (core_of now) turns ≡ item_lines old.scene (core_behind old.scene (core_of old) (rounds old.scene n)) (round old.scene)
round_lines old now n turns same on =
    ap (item_lines now.scene (core_of now)) same ∙ ap (λ (s : Scene). item_lines s (core_of now) (round old.scene)) on.scene
    ∙ ap (λ (k : Core). item_lines old.scene k (round old.scene)) (core_on old now (played old.scene (core_of old) (rounds old.scene n)) on)

-- one round more
one_more : (s : Scene) (n : ℕ) → rounds s (n + 1) ≡ rounds s n ++ round s
one_more s n = more_rounds s n 1 ∙ ap (λ t. rounds s n ++ t) (append-nil (round s))

below_or : (a b : ℕ) → a < b + 1 → (a < b) ⊎ (a ≡ b)
below_or a b less = grind arith

pub rounded_more : (old now new : Course) (t u lines v : List ℕ) (n : ℕ) (turns : List Item) → turns ≡ round old.scene → Rounded old now t u n → GoesOn now new (played now.scene (core_of now) turns) → Adds [] (item_lines now.scene (core_of now) turns) lines →
    (length new.events ≡ length now.events → ⊥) → v ≡ u ++ lines → Rounded old new t v (n + 1)
rounded_more old now new t u lines v n turns same was made put more grows = record {
  made = round_on old now new n was.made (subst (λ (items : List Item). GoesOn now new (played now.scene (core_of now) items)) (same ∙ ap round (sym was.made.scene)) made);
  put = adds_same (joined was.put (record { is = grows ∙ ap (λ l. u ++ l) (put.is ∙ round_lines old now n turns same was.made) }))
      (sym (ap (item_lines old.scene (core_of old)) (one_more old.scene n) ∙ lines_append old.scene (core_of old) (rounds old.scene n) (round old.scene)));
  busy = λ m less none. elim (below_or m n less) as (λ _. ⊥) [
    | inl below ↦ was.busy m below none
    | inr last ↦ more (ap length (made.events ∙ ap (λ es. now.events ++ es) (round_made old now n turns same was.made ∙ subst (λ k. played old.scene (core_behind old.scene (core_of old) (rounds old.scene k)) (round old.scene) ≡ []) last none) ∙ append-nil now.events))
  ];
}

-- one round more makes no event
pub rounded_all : (old now new : Course) (t u : List ℕ) (n : ℕ) (turns : List Item) → turns ≡ round old.scene → Rounded old now t u n → GoesOn now new (played now.scene (core_of now) turns) → length new.events ≡ length now.events →
    PutRounds old.scene (core_of old) t u
rounded_all old now new t u n turns same was made still = record {
  number = n;
  are = record {
    busy = was.busy;
    idle = sym (round_made old now n turns same was.made) ∙ none_added now.events (played now.scene (core_of now) turns) (sym (ap length made.events) ∙ still);
  };
  put = was.put;
}

-- the schedule, and then rounds
from_opening : (s : Scene) (scheduled : Course) (t u : List ℕ) → GoesOn (record { scene = s; events = [] }) scheduled (played s (opening_core s) s.turns) → t ≡ item_lines s (opening_core s) s.turns →
    PutRounds scheduled.scene (core_of scheduled) t u → GivesEvents s u []
from_opening s scheduled t u on first rounded =
    let core = core_on (record { scene = s; events = [] }) scheduled (played s (opening_core s) s.turns) on in
    let put = subst (λ (z : Scene). PutRounds z (core_of scheduled) t u) on.scene rounded in
    let rest = subst (λ (k : Core). PutRounds s k t u) core put in
    record {
      number = rest.number;
      are = rest.are;
      picture = rest.put.is ∙ ap (λ l. l ++ item_lines s (core_behind s (opening_core s) s.turns) (rounds s rest.number)) first ∙ sym (lines_append s (opening_core s) s.turns (rounds s rest.number));
      notes = refl;
    }

pub all_put : (s : Scene) (opened scheduled : Course) (turns : List Item) (none t u : List ℕ) → opened ≡ record { scene = s; events = [] } → turns ≡ s.turns → none ≡ [] → GoesOn opened scheduled (played opened.scene (core_of opened) turns) →
    Adds none (item_lines opened.scene (core_of opened) turns) t → PutRounds scheduled.scene (core_of scheduled) t u → GivesEvents s u []
all_put s opened scheduled turns none t u opens same empty on put rounded =
    let start : Course = record { scene = s; events = [] } in
    let made = subst (λ (w : Course). GoesOn w scheduled (played w.scene (core_of w) turns)) opens on in
    let said = subst (λ (w : Course). Adds none (item_lines w.scene (core_of w) turns) t) opens put in
    from_opening s scheduled t u (subst (λ (items : List Item). GoesOn start scheduled (played s (opening_core s) items)) same made)
    (said.is ∙ ap (λ l. l ++ item_lines s (opening_core s) turns) empty ∙ ap (item_lines s (opening_core s)) same) rounded
