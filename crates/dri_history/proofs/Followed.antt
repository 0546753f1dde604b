-- One entry more on the card.
use Rattle.std.proofs.Common.{◌≡◌, ◌<◌, ℕ, List, [], Err, ◌∙◌, sym, subst}
use Rattle.dri_base.proofs.PlaneLists.{plane_same}
use Rattle.dri_base.specs.Ranges.{InRange}
use Rattle.dri_base.specs.declared.journal.Entry.{Entry}
use Rattle.dri_base.specs.declared.scene.Scene.{Scene}
use Rattle.dri_card.specs.Contents.{Contents, HaveSides, Holds, IsOpening, Shows}
use Rattle.dri_core.specs.EntryTable.{LegalEntry}
use Rattle.dri_core.specs.Runs.{HoldRun, after, client_of}
use Rattle.dri_history.specs.Follows.{IsFollowing, IsMade, IsTelling}
use Rattle.dri_journal.specs.Deeds.{Does}
use Rattle.dri_journal.specs.Replays.{MayTake, ReplayState, Steps, Took, world_of}
use Rattle.dri_journal.specs.declared.deed.Deed.{Deed}
use Rattle.dri_journal.specs.declared.refusal.StepFault.{StepFault}
use Rattle.dri_journal.specs.declared.refusal.StepFault.TheVariants as faults
use Rattle.dri_replay.proofs.Lifted.{back_after, front_after, taken, with_entry}
use Rattle.dri_replay.specs.Cards.{Follows}
use Rattle.dri_replay.specs.Makings.{front_made}

-- a card that followed the entries before follows this one too
made_after : (s : Scene) (j : List Entry) (good : InRange s) (run : HoldRun s j) (e : Entry) (deed : Deed) (legal : LegalEntry s (after s j) e) (does : Does s (after s j) e deed) (old new : Contents) →
    Follows s (after s j) old → IsMade (with_entry s j e) (client_of e) deed old new → Follows s (world_of (with_entry s j e)) new
made_after s j good run e deed legal does old new before made = record { sides = sides; bytes = made.bytes ∙ before.bytes; shown = shown; held = held }
  where
    sides : HaveSides new s.width s.height
    sides = made.sides s.width s.height before.sides

    shown : Shows new (world_of (with_entry s j e)).front
    shown = made.shown (after s j).back (after s j).front before.held before.shown ∙
        plane_same new.front.width new.front.height (front_made (with_entry s j e) (client_of e) deed (after s j).back (after s j).front) (world_of (with_entry s j e)).front
        (λ x y column row. front_after s j good run e deed legal does x y (subst (λ n. x < n) sides.front_width column) (subst (λ n. y < n) sides.front_height row))

    held : Holds new (world_of (with_entry s j e)).back
    held = subst (Holds new) (λ k x y. back_after s j good run e deed legal does x y k) (made.held (after s j).back before.held)

module _ (old new : ReplayState) (e : Entry) (deed : Deed) (n : ℕ) (good : InRange old.scene) (run : HoldRun old.scene old.entries) (legal : MayTake old e) (took : Took old new e) (does : Does old.scene (world_of old) e deed) (client : n ≡ client_of e) where
  -- the card that made it follows
  pub follows : (card made : Contents) → Follows old.scene (world_of old) card → IsMade new n deed card made → Follows new.scene (world_of new) made
  follows card made before is =
      subst (λ (v : ReplayState). Follows v.scene (world_of v) made) (taken old new e took) (made_after old.scene old.entries good run e deed legal does card made before
      (subst (λ k. IsMade (with_entry old.scene old.entries e) k deed card made) client (subst (λ v. IsMade v n deed card made) (sym (taken old new e took)) is)))

  pub sides : (card : Contents) → Follows old.scene (world_of old) card → HaveSides card new.scene.width new.scene.height
  sides card before = subst (λ (s : Scene). HaveSides card s.width s.height) (sym took.scene) before.sides

-- an entry that wasn't taken
pub not_followed : (old new : ReplayState) (e : Entry) (card : Contents) (fault : StepFault) → Steps old new e (Err fault) → IsFollowing old new e card (Err fault)
not_followed old new e card (faults.Refused refusal) steps = steps.0
not_followed old new e card faults.OutOfMemory steps = tt

pub not_told : (old new : ReplayState) (e : Entry) (card : Contents) (n x y : ℕ) (fault : StepFault) → IsFollowing old new e card (Err fault) → IsTelling old new e card n x y (Err fault)
not_told old new e card n x y (faults.Refused refusal) refused = refused
not_told old new e card n x y faults.OutOfMemory refused = tt

-- before the first
pub opened : (s : Scene) (v : ReplayState) (card : Contents) → v ≡ record { scene = s; entries = [] } → IsOpening s card → Follows v.scene (world_of v) card
opened s v card e is = subst (λ (u : ReplayState). Follows u.scene (world_of u) card) (sym e) (record { sides = is.sides; bytes = is.bytes; shown = is.shown; held = is.held })
