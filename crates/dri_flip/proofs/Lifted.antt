-- What a deed makes of the card is what its entry makes of the world.
use Rattle.std.proofs.Common.{◌≡◌, ◌<◌, ℕ, List, [], ◌∷◌, ◌++◌, false, Option, Some, None, refl, ◌∙◌, sym, ap, subst}
use Rattle.std.specs.Prelude.{slice_get}
use Rattle.std.proofs.lemmas.Bool.{true≢false}
use Rattle.dri_base.proofs.PlaneLists.{plane_same}
use Rattle.dri_base.specs.Ranges.{InRange}
use Rattle.dri_base.specs.Scenes.{command_at}
use Rattle.dri_base.specs.declared.command.Command.{Command}
use Rattle.dri_base.specs.declared.command.Command.TheVariants as Command_is
use Rattle.dri_base.specs.declared.journal.Entry.{Entry}
use Rattle.dri_base.specs.declared.journal.Entry.TheVariants as Entry_is
use Rattle.dri_base.specs.declared.scene.Scene.{Scene}
use Rattle.dri_core.specs.EntryTable.{LegalEntry}
use Rattle.dri_core.specs.Restacks.{next_moved, next_stack}
use Rattle.dri_core.specs.Runs.{HoldRun, after, client_of}
use Rattle.dri_flip.specs.Follows.{IsAfter, IsMade, counted, owing_made}
use Rattle.dri_flip.specs.Meanings.{HaveSides, Holds, IsOpening, Shows}
use Rattle.dri_flip.specs.Owings.{Owing, alters, flipped_where, nothing_owed, owing, owing_after, paid_where}
use Rattle.dri_flip.specs.Places.{has_all, has_some}
use Rattle.dri_flip.specs.declared.counted.CountedCard.{CountedCard}
use Rattle.dri_flip.proofs.Changed.{change_is, unchanged}
use Rattle.dri_flip.proofs.Counting.{owing-push}
use Rattle.dri_journal.specs.Deeds.{Does, deed_by}
use Rattle.dri_journal.specs.Replays.{world_of}
use Rattle.dri_journal.specs.declared.deed.Deed.{Deed}
use Rattle.dri_journal.specs.declared.deed.Deed.TheVariants as Deed_is
use Rattle.dri_model.specs.Stacks.{without_owner}
use Rattle.dri_replay.proofs.Lifted.{back_after, clips_same, front_after, refused_stays, with_entry}
use Rattle.dri_replay.specs.Makings.{front_made}

module _ (s : Scene) (j : List Entry) (good : InRange s) (run : HoldRun s j) where
  -- what is owed after it
  owing_ran : (c i : ℕ) → LegalEntry s (after s j) (Entry_is.Run c i) → (o : Option Command) → command_at s c i ≡ o → (a : Owing) → owing_made (with_entry s j (Entry_is.Run c i)) c (deed_by o) a ≡ owing_after s (after s j) (Entry_is.Run c i) a
  owing_ran c i legal (Some (Command_is.Clear colour depth)) e a = rw e (λ k. paid_where (has_some s.width s.height (λ x y. clips_same s j good run c i legal x y k)) (has_all s.width s.height (λ x y. clips_same s j good run c i legal x y k)) a)
  owing_ran c i legal (Some (Command_is.Triangle t)) e a = rw e (λ k. paid_where (has_some s.width s.height (λ x y. clips_same s j good run c i legal x y k)) false a)
  owing_ran c i legal (Some Command_is.Swap) e a = rw e (λ k. flipped_where (has_all s.width s.height (λ x y. clips_same s j good run c i legal x y k)) (paid_where (has_some s.width s.height (λ x y. clips_same s j good run c i legal x y k)) false a))
  owing_ran c i legal (Some Command_is.Yield) e a = rw e refl
  owing_ran c i legal (Some Command_is.Die) e a = rw e refl
  owing_ran c i legal (Some (Command_is.Set setting)) e a = rw e refl
  owing_ran c i legal None e a = rw e refl

  owing_changed : (i : ℕ) (deed : Deed) → Does s (after s j) (Entry_is.Change i) deed → (a : Owing) → owing_made (with_entry s j (Entry_is.Change i)) 0 deed a ≡ owing_after s (after s j) (Entry_is.Change i) a
  owing_changed i (Deed_is.Touched touched) does a = λ k. paid_where (change_is s (after s j) (next_moved s (after s j)) (next_stack s (after s j)) touched does.1 k) false a
  owing_changed i Deed_is.Nothing does a =
      let stays = refused_stays (after s j).stack (slice_get s.changes (after s j).made) does in
      ap (λ b. paid_where b false a) (sym (unchanged s (after s j))) ∙ (λ k. paid_where (has_some s.width s.height (alters s (after s j) (sym stays.0 k) (sym stays.1 k))) false a)
  owing_changed i (Deed_is.Clear colour depth) does a = absurd does
  owing_changed i (Deed_is.Triangle t) does a = absurd does
  owing_changed i Deed_is.Swap does a = absurd does

  owing_gone : (c : ℕ) (deed : Deed) → Does s (after s j) (Entry_is.Gone c) deed → (a : Owing) → owing_made (with_entry s j (Entry_is.Gone c)) c deed a ≡ owing_after s (after s j) (Entry_is.Gone c) a
  owing_gone c (Deed_is.Touched touched) does a = λ k. paid_where (change_is s (after s j) None (without_owner c (after s j).stack) touched does.1 k) false a
  owing_gone c Deed_is.Nothing does a = absurd (true≢false (sym does))
  owing_gone c (Deed_is.Clear colour depth) does a = absurd does
  owing_gone c (Deed_is.Triangle t) does a = absurd does
  owing_gone c Deed_is.Swap does a = absurd does

  nothing_owes : (e : Entry) (a : Owing) → owing_after s (after s j) e a ≡ a → (deed : Deed) → deed ≡ Deed_is.Nothing → owing_made (with_entry s j e) (client_of e) deed a ≡ owing_after s (after s j) e a
  nothing_owes e a stays deed does = ap (λ d. owing_made (with_entry s j e) (client_of e) d a) does ∙ sym stays

  -- a deed makes of what is owed what its entry counts
  owing_lifted : (e : Entry) (deed : Deed) → LegalEntry s (after s j) e → Does s (after s j) e deed → (a : Owing) → owing_made (with_entry s j e) (client_of e) deed a ≡ owing_after s (after s j) e a
  owing_lifted (Entry_is.Run c i) deed legal does a = ap (λ d. owing_made (with_entry s j (Entry_is.Run c i)) c d a) does ∙ owing_ran c i legal (command_at s c i) refl a
  owing_lifted (Entry_is.Change i) deed legal does a = owing_changed i deed does a
  owing_lifted (Entry_is.Gone c) deed legal does a = owing_gone c deed does a
  owing_lifted (Entry_is.Light c) deed legal does a = nothing_owes (Entry_is.Light c) a refl deed does
  owing_lifted (Entry_is.Kernel c found) deed legal does a = nothing_owes (Entry_is.Kernel c found) a refl deed does
  owing_lifted (Entry_is.Stale c) deed legal does a = nothing_owes (Entry_is.Stale c) a refl deed does
  owing_lifted (Entry_is.Emit c groups) deed legal does a = nothing_owes (Entry_is.Emit c groups) a refl deed does
  owing_lifted (Entry_is.Place c t first count) deed legal does a = nothing_owes (Entry_is.Place c t first count) a refl deed does
  owing_lifted (Entry_is.Leave c) deed legal does a = nothing_owes (Entry_is.Leave c) a refl deed does
  owing_lifted (Entry_is.Info c) deed legal does a = nothing_owes (Entry_is.Info c) a refl deed does

  module _ (e : Entry) (deed : Deed) (legal : LegalEntry s (after s j) e) (does : Does s (after s j) e deed) where
    -- a card that followed the entries before follows this one too
    pub made_after : (old new : CountedCard) → IsAfter (record { scene = s; entries = j }) old → IsMade (with_entry s j e) (client_of e) deed old new → IsAfter (with_entry s j e) new
    made_after old new before made = record { follows = record { sides = sides; shown = shown; held = held }; owes = owes }
      where
        sides : HaveSides new.card s.width s.height
        sides = made.sides s.width s.height before.follows.sides

        shown : Shows new.card (world_of (with_entry s j e)).front
        shown = made.shown (after s j).back (after s j).front before.follows.held before.follows.shown ∙
            plane_same new.card.front.width new.card.front.height (front_made (with_entry s j e) (client_of e) deed (after s j).back (after s j).front) (world_of (with_entry s j e)).front
            (λ x y column row. front_after s j good run e deed legal does x y (subst (λ n. x < n) sides.front_width column) (subst (λ n. y < n) sides.front_height row))

        held : Holds new.card (world_of (with_entry s j e)).back
        held = subst (Holds new.card) (λ k x y. back_after s j good run e deed legal does x y k) (made.held (after s j).back before.follows.held)

        owes : counted new ≡ owing s (j ++ e ∷ [])
        owes = made.owes ∙ ap (owing_made (with_entry s j e) (client_of e) deed) before.owes ∙ owing_lifted e deed legal does (owing s j) ∙ sym (owing-push s j e)

-- the card of a scene's opening follows no entry
pub opened : (s : Scene) (card : CountedCard) → IsOpening s card.card → counted card ≡ nothing_owed → IsAfter (record { scene = s; entries = [] }) card
opened s card is none = record { follows = record { sides = is.sides; shown = is.shown; held = is.held }; owes = none }
