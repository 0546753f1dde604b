-- One entry more on the card, and the entries of a journal one after the other.
use Rattle.std.proofs.Common.{◌≡◌, ◌≤◌, ℕ, List, [], length, Err, Result, ◌∙◌, sym, ap, subst, arith}
use Rattle.std.proofs.lemmas.List.{take_all}
use Rattle.dri_base.specs.Planes.{plane}
use Rattle.dri_base.specs.Ranges.{InRange}
use Rattle.dri_base.specs.declared.journal.Entry.{Entry}
use Rattle.dri_base.specs.declared.scene.Scene.{Scene}
use Rattle.dri_core.proofs.FirstBad.{bad_is_no_run}
use Rattle.dri_core.specs.FirstBad.{IsFirstBad}
use Rattle.dri_core.specs.Runs.{HoldRun, client_of}
use Rattle.dri_flip.proofs.Lifted.{made_after, opened}
use Rattle.dri_flip.proofs.Counting.{few_owed}
use Rattle.dri_flip.specs.Follows.{IsAfter, IsFollowing, IsMade, counted}
use Rattle.dri_flip.specs.Meanings.{HaveSides, IsOpening}
use Rattle.dri_flip.specs.Owings.{Owing, nothing_owed}
use Rattle.dri_flip.specs.Replays.{IsShown, Replays}
use Rattle.dri_flip.specs.declared.counted.CountedCard.{CountedCard}
use Rattle.dri_flip.specs.declared.shown.Shown.{Shown}
use Rattle.dri_journal.specs.Deeds.{Does}
use Rattle.dri_journal.specs.Replays.{MayTake, ReplayState, Steps, Took, world_of}
use Rattle.dri_journal.specs.declared.deed.Deed.{Deed}
use Rattle.dri_journal.specs.declared.refusal.StepFault.{StepFault}
use Rattle.dri_journal.specs.declared.refusal.StepFault.TheVariants as faults
use Rattle.dri_replay.proofs.Lifted.{taken, with_entry}
use Rattle.dri_replay.proofs.Taken.{AreTaken}
use Rattle.dri_replay.specs.declared.fault.ReplayFault.{ReplayFault}
use Rattle.dri_replay.specs.declared.fault.ReplayFault.TheVariants as replay_faults

module _ (old new : ReplayState) (e : Entry) (deed : Deed) (n : ℕ) (good : InRange old.scene) (run : HoldRun old.scene old.entries) (legal : MayTake old e) (took : Took old new e) (does : Does old.scene (world_of old) e deed) (client : n ≡ client_of e) where
  -- the card that made it follows
  pub follows : (card made : CountedCard) → IsAfter old card → IsMade new n deed card made → IsAfter new made
  follows card made before is =
      subst (λ v. IsAfter v made) (taken old new e took) (made_after old.scene old.entries good run e deed legal does card made before
      (subst (λ k. IsMade (with_entry old.scene old.entries e) k deed card made) client (subst (λ v. IsMade v n deed card made) (sym (taken old new e took)) is)))

  pub sides : (card : CountedCard) → IsAfter old card → HaveSides card.card new.scene.width new.scene.height
  sides card before = subst (λ (s : Scene). HaveSides card.card s.width s.height) (sym took.scene) before.follows.sides

-- the counts are no higher than the number of entries
pub few_flips : (v : ReplayState) (card : CountedCard) → IsAfter v card → card.flips ≤ length v.entries
few_flips v card is = omega (arith, ap (λ (o : Owing). o.flips) is.owes, (few_owed v.scene v.entries).0)

pub few_copies : (v : ReplayState) (card : CountedCard) → IsAfter v card → card.copies ≤ length v.entries
few_copies v card is = omega (arith, ap (λ (o : Owing). o.copies) is.owes, (few_owed v.scene v.entries).1)

-- an entry that wasn't taken
pub not_followed : (A : Type 0) (old new : ReplayState) (e : Entry) (card : CountedCard) (fault : StepFault) → Steps old new e (Err fault) → IsFollowing {A = A} old new e card (Err fault)
not_followed A old new e card (faults.Refused refusal) steps = steps.0
not_followed A old new e card faults.OutOfMemory steps = tt

-- before the first
pub begun : (s : Scene) (v : ReplayState) (card : CountedCard) → v ≡ record { scene = s; entries = [] } → IsOpening s card.card → counted card ≡ nothing_owed → IsAfter v card
begun s v card e is none = subst (λ (u : ReplayState). IsAfter u card) (sym e) (opened s card is none)

-- what is shown of all entries
pub shown_is : (v : ReplayState) (card : CountedCard) (shown : Shown) → IsAfter v card → HoldRun v.scene v.entries → shown.picture.width ≡ card.card.front.width → shown.picture.height ≡ card.card.front.height → shown.picture.pixels ≡ card.card.front.pixels →
    shown.flips ≡ card.flips → shown.copies ≡ card.copies → IsShown v.scene v.entries shown
shown_is v card shown is run wide high same flips copies = record {
  run = run;
  width = wide ∙ is.follows.sides.front_width;
  height = high ∙ is.follows.sides.front_height;
  pixels = same ∙ is.follows.shown ∙ (λ k. plane (is.follows.sides.front_width k) (is.follows.sides.front_height k) (world_of v).front);
  flips = flips ∙ ap (λ (o : Owing). o.flips) is.owes;
  copies = copies ∙ ap (λ (o : Owing). o.copies) is.owes;
}

pub all_shown : (s : Scene) (xs : List Entry) (n : ℕ) (v : ReplayState) (shown : Shown) → length xs ≤ n → AreTaken s xs n v → IsShown v.scene v.entries shown → IsShown s xs shown
all_shown s xs n v shown le are is = subst (λ t. IsShown t xs shown) are.scene (subst (λ ys. IsShown v.scene ys shown) (are.entries ∙ take_all n xs le) is)

-- an answer that names an entry
pub names_bad : (s : Scene) (xs : List Entry) (r : Result Shown ReplayFault) (entry : ℕ) → Replays s xs r → r ≡ Err (replay_faults.NotARun entry) → IsFirstBad s xs entry
names_bad s xs r entry replays is = subst (Replays s xs) is replays

pub never_bad : (s : Scene) (xs : List Entry) (r : Result Shown ReplayFault) (entry : ℕ) → Replays s xs r → HoldRun s xs → r ≡ Err (replay_faults.NotARun entry) → ⊥
never_bad s xs r entry replays run is = bad_is_no_run s xs entry run (names_bad s xs r entry replays is)
