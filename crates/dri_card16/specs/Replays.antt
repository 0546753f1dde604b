-- What a replay by a card of sixteen bits answers.
use Rattle.std.specs.Prelude.{◌≡◌, ◌∷◌, ◌++◌, ℕ, List, [], Result, Ok, Err}
use Rattle.dri_base.specs.Planes.{plane}
use Rattle.dri_base.specs.declared.journal.Entry.{Entry}
use Rattle.dri_base.specs.declared.journal.Entry.TheVariants.{Run}
use Rattle.dri_base.specs.declared.scene.Scene.{Scene}
use Rattle.dri_card16.specs.Sixteen.{Shows16, after16}
use Rattle.dri_core.specs.FirstBad.{IsFirstBad}
use Rattle.dri_core.specs.Frames.{FrameStood}
use Rattle.dri_core.specs.Runs.{HoldRun}
use Rattle.dri_meaning.specs.declared.picture.Picture.{Picture}
use Rattle.dri_replay.specs.declared.fault.ReplayFault.{ReplayFault}
use Rattle.dri_replay.specs.declared.fault.ReplayFault.TheVariants as faults

-- the picture of a hold-run: the front that it leaves
pub record IsPicture16 (s : Scene) (journal : List Entry) (picture : Picture) : Type 0 where
  pub run : HoldRun s journal
  pub width : picture.width ≡ s.width
  pub height : picture.height ≡ s.height
  pub pixels : picture.pixels ≡ plane s.width s.height (after16 s journal).front

-- a replay answers that picture, or names the first entry that isn't legal, unless memory ran out
abbrev pub Replays16 : Scene → List Entry → Result Picture ReplayFault → Type 0
Replays16 s journal (Ok picture) = IsPicture16 s journal picture
Replays16 s journal (Err (faults.NotARun entry)) = IsFirstBad s journal entry
Replays16 s journal (Err faults.OutOfMemory) = Unit {0}

-- each frame that stood is shown right after its swap as it is drawn alone
abbrev pub StoodIsShown16 : Scene → List Entry → Type 0
StoodIsShown16 s journal =
    (c k : ℕ) (stood : FrameStood s journal c k) → Shows16 s c k (after16 s (stood.past ++ Run c stood.first ∷ (stood.middle ++ Run c stood.last ∷ [])))
