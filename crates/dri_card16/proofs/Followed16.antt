-- One entry more on the card, and the picture of all.
use Rattle.std.proofs.Common.{◌≡◌, ◌≤◌, ◌<◌, ℕ, List, [], ◌∷◌, ◌++◌, length, Ok, Err, Result, ◌∙◌, sym, ap, subst}
use Rattle.std.specs.Prelude.{IfOk}
use Rattle.std.proofs.lemmas.List.{take_all}
use Rattle.dri_base.proofs.PlaneLists.{plane_same}
use Rattle.dri_base.specs.Planes.{plane}
use Rattle.dri_base.specs.Ranges.{InRange}
use Rattle.dri_base.specs.declared.colour.Rgb.{Rgb}
use Rattle.dri_base.specs.declared.journal.Entry.{Entry}
use Rattle.dri_base.specs.declared.scene.Scene.{Scene}
use Rattle.dri_card.specs.Contents.{Contents, HaveSides, Holds, Shows}
use Rattle.dri_card16.proofs.Differing.{with_push}
use Rattle.dri_card16.proofs.Good16.{good16}
use Rattle.dri_card16.proofs.Making.{back_after, front_made}
use Rattle.dri_card16.proofs.Planes.{kept_after}
use Rattle.dri_card16.specs.Following.{Follows16, IsFollowing16, IsMade16, back_made_with, front_made_with}
use Rattle.dri_card16.specs.Replays.{IsPicture16, Replays16}
use Rattle.dri_card16.specs.RuleRuns.{PlanesAreKept}
use Rattle.dri_card16.specs.Sixteen.{after16, rule16}
use Rattle.dri_card16.specs.Widened.{IsOpening16}
use Rattle.dri_core.proofs.FirstBad.{bad_is_no_run}
use Rattle.dri_core.specs.EntryTable.{LegalEntry}
use Rattle.dri_core.specs.FirstBad.{IsFirstBad}
use Rattle.dri_core.specs.Runs.{HoldRun, after, client_of}
use Rattle.dri_core.specs.Worlds.{World}
use Rattle.dri_journal.specs.Deeds.{Does}
use Rattle.dri_journal.specs.Replays.{MayTake, ReplayState, Steps, Took, world_of}
use Rattle.dri_journal.specs.declared.deed.Deed.{Deed}
use Rattle.dri_journal.specs.declared.refusal.StepFault.{StepFault}
use Rattle.dri_journal.specs.declared.refusal.StepFault.TheVariants as faults
use Rattle.dri_meaning.specs.declared.picture.Picture.{Picture}
use Rattle.dri_plane.specs.Grids.{Grid}
use Rattle.dri_replay.proofs.Lifted.{taken, with_entry}
use Rattle.dri_replay.proofs.Taken.{AreTaken}
use Rattle.dri_replay.specs.Cards.{Follows}
use Rattle.dri_replay.specs.Pictures.{IsPictureOf}
use Rattle.dri_replay.specs.declared.fault.ReplayFault.{ReplayFault}
use Rattle.dri_replay.specs.declared.fault.ReplayFault.TheVariants as replay_faults

-- a card that followed the entries before follows this one too
made_after : (s : Scene) (j : List Entry) (good : InRange s) (run : HoldRun s j) (e : Entry) (deed : Deed) (legal : LegalEntry s (after s j) e) (does : Does s (after s j) e deed) (old new : Contents) →
    Follows s (after16 s j) old → IsMade16 (with_entry s j e) (client_of e) deed old new → Follows16 (with_entry s j e) new
made_after s j good run e deed legal does old new before made = record { sides = sides; bytes = made.bytes ∙ before.bytes; shown = shown; held = held }
  where
    w : World
    w = after16 s j

    are : PlanesAreKept rule16 w
    are = kept_after rule16 s j good16

    sides : HaveSides new s.width s.height
    sides = made.sides s.width s.height before.sides

    front : (x y : ℕ) → x < s.width → y < s.height → front_made_with rule16 (with_entry s j e) (client_of e) deed w.back w.front x y ≡ (after16 s (j ++ e ∷ [])).front x y
    front x y column row = front_made rule16 good16 s j good run e deed legal does x y column row ∙ ap (λ (u : World). u.front x y) (sym (with_push rule16 s j e))

    back : (x y : ℕ) → back_made_with rule16 (with_entry s j e) (client_of e) deed w.back x y ≡ (after16 s (j ++ e ∷ [])).back x y
    back x y = back_after rule16 good16 s j good run e deed legal does x y ∙ ap (λ (u : World). u.back x y) (sym (with_push rule16 s j e))

    shown : Shows new (after16 s (j ++ e ∷ [])).front
    shown = made.shown w.back w.front are.back are.front before.held before.shown ∙
        plane_same new.front.width new.front.height (front_made_with rule16 (with_entry s j e) (client_of e) deed w.back w.front) (after16 s (j ++ e ∷ [])).front
        (λ x y column row. front x y (subst (λ n. x < n) sides.front_width column) (subst (λ n. y < n) sides.front_height row))

    held : Holds new (after16 s (j ++ e ∷ [])).back
    held = subst (Holds new) (λ k x y. back x y k) (made.held w.back are.back before.held)

module _ (old new : ReplayState) (e : Entry) (deed : Deed) (n : ℕ) (good : InRange old.scene) (run : HoldRun old.scene old.entries) (legal : MayTake old e) (took : Took old new e) (does : Does old.scene (world_of old) e deed) (client : n ≡ client_of e) where
  -- the card that made it follows
  pub follows : (card made : Contents) → Follows16 old card → IsMade16 new n deed card made → Follows16 new made
  follows card made before is =
      subst (λ (v : ReplayState). Follows16 v made) (taken old new e took) (made_after old.scene old.entries good run e deed legal does card made before
      (subst (λ k. IsMade16 (with_entry old.scene old.entries e) k deed card made) client (subst (λ v. IsMade16 v n deed card made) (sym (taken old new e took)) is)))

  pub sides : (card : Contents) → Follows16 old card → HaveSides card new.scene.width new.scene.height
  sides card before = subst (λ (s : Scene). HaveSides card s.width s.height) (sym took.scene) before.sides

-- an entry that wasn't taken
pub not_followed : (A : Type 0) (old new : ReplayState) (e : Entry) (card : Contents) (fault : StepFault) → Steps old new e (Err fault) → IsFollowing16 {A = A} old new e card (Err fault)
not_followed A old new e card (faults.Refused refusal) steps = steps.0
not_followed A old new e card faults.OutOfMemory steps = tt

-- before the first
pub opened : (s : Scene) (v : ReplayState) (card : Contents) → v ≡ record { scene = s; entries = [] } → IsOpening16 s card → Follows16 v card
opened s v card e is = subst (λ (u : ReplayState). Follows16 u card) (sym e) (record { sides = is.sides; bytes = is.bytes; shown = is.shown; held = is.held })

-- the picture of what the card shows
pub picture_is : (v : ReplayState) (card : Contents) (front : Grid Rgb) (picture : Picture) → Follows16 v card → HoldRun v.scene v.entries → front ≡ card.front → IsPictureOf front picture → IsPicture16 v.scene v.entries picture
picture_is v card front picture is run same of = record {
  run = run;
  width = of.width ∙ ap (λ (g : Grid Rgb). g.width) same ∙ is.sides.front_width;
  height = of.height ∙ ap (λ (g : Grid Rgb). g.height) same ∙ is.sides.front_height;
  pixels = of.pixels ∙ ap (λ (g : Grid Rgb). g.pixels) same ∙ is.shown ∙ (λ k. plane (is.sides.front_width k) (is.sides.front_height k) (after16 v.scene v.entries).front);
}

pub all_shown : (s : Scene) (xs : List Entry) (n : ℕ) (v : ReplayState) (picture : Picture) → length xs ≤ n → AreTaken s xs n v → IsPicture16 v.scene v.entries picture → IsPicture16 s xs picture
all_shown s xs n v picture le are is = subst (λ t. IsPicture16 t xs picture) are.scene (subst (λ ys. IsPicture16 v.scene ys picture) (are.entries ∙ take_all n xs le) is)

-- an answer that names an entry
pub names_bad : (s : Scene) (xs : List Entry) (r : Result Picture ReplayFault) (entry : ℕ) → Replays16 s xs r → r ≡ Err (replay_faults.NotARun entry) → IsFirstBad s xs entry
names_bad s xs r entry replays is = subst (Replays16 s xs) is replays

pub never_bad : (s : Scene) (xs : List Entry) (r : Result Picture ReplayFault) (entry : ℕ) → Replays16 s xs r → HoldRun s xs → r ≡ Err (replay_faults.NotARun entry) → ⊥
never_bad s xs r entry replays run is = bad_is_no_run s xs entry run (names_bad s xs r entry replays is)

-- what follows of a run, where there is a picture
pub picture_then : (s : Scene) (xs : List Entry) (P : Type 0) (r : Result Picture ReplayFault) → Replays16 s xs r → (HoldRun s xs → P) → IfOk r (λ picture. P)
picture_then s xs P (Ok picture) is then = then is.run
picture_then s xs P (Err fault) is then = tt
