-- What the words of the command line ask for: what an answer says, when it comes, and what the sinks have to take.
use Rattle.std.specs.Prelude.{◌≡◌, ℕ, List, Ok, Some, None}
use Rattle.std.specs.declared.option.Option.{Option}
use Rattle.dri_base.specs.declared.scene.Scene.{Scene}
use Rattle.dri_scene.specs.Readings.{scene_of}
use Rattle.dri_run.specs.Gains.{GainsNothing, Sunk}
use Rattle.dri_run.specs.Outcome.{AreTaken}
use Rattle.dri_run.specs.Readings.{scenes}
use Rattle.dri_run.specs.Recordings.{recording_of, recordings}
use Rattle.dri_run.specs.declared.recording.Recording.{Recording}
use Rattle.dri_run.specs.declared.status.Status.TheVariants as answers
use Rattle.dri_lab_run.specs.AllEnds.{GivesAll, RefusesAll}
use Rattle.dri_lab_run.specs.EventLines.{GivesEvents, RefusesNone}
use Rattle.dri_lab_run.specs.Outcome.{IsAnswer, Says}
use Rattle.dri_lab_run.specs.PlaceHistory.{GivesHistory, RefusesHistory}
use Rattle.dri_lab_run.specs.ScreenAfter.{GivesAfter, RefusesAfter}
use Rattle.dri_lab_run.specs.declared.form.Form.{Form}
use Rattle.dri_lab_run.specs.declared.form.Form.TheVariants.{Recorded, Events, All}
use Rattle.dri_lab_run.specs.declared.form.Look.{Look}
use Rattle.dri_lab_run.specs.declared.form.Look.TheVariants.{After, Pixel}
use Rattle.dri_lab_run.specs.declared.status.LabStatus.{LabStatus}
use Rattle.dri_lab_run.specs.declared.status.LabStatus.TheVariants as lab

-- what picture and notes gain of a recording
abbrev pub GivesLook : Look → Recording → List ℕ → List ℕ → Type 0
GivesLook (After n) recording image text = GivesAfter n recording image text
GivesLook (Pixel x y) recording image text = GivesHistory x y recording image text

-- by which status a recording is refused
abbrev pub RefusesLook : Look → Recording → LabStatus → Type 0
RefusesLook (After n) recording status = RefusesAfter n recording status
RefusesLook (Pixel x y) recording status = RefusesHistory x y recording status

-- an answer to the words: those of no form say nothing of the bytes
abbrev pub SaysTo : Option Form → LabStatus → List ℕ → Option (List ℕ) → Sunk → Sunk → Type 0
SaysTo (Some (Recorded look)) status given left picture notes = Says recordings (GivesLook look) (RefusesLook look) status given left picture notes
SaysTo (Some Events) status given left picture notes = Says scenes GivesEvents RefusesNone status given left picture notes
SaysTo (Some (All n)) status given left picture notes = Says scenes (GivesAll n) (RefusesAll n) status given left picture notes
SaysTo None (lab.Common answers.Usage) given left picture notes = GainsNothing picture × GainsNothing notes
SaysTo None _ given left picture notes = ⊥

-- the answer to all the bytes of a source where nothing fails
abbrev pub IsAnswerTo : Form → LabStatus → List ℕ → Type 0
IsAnswerTo (Recorded look) status bytes = IsAnswer recordings (GivesLook look) (RefusesLook look) status bytes
IsAnswerTo Events status bytes = IsAnswer scenes GivesEvents RefusesNone status bytes
IsAnswerTo (All n) status bytes = IsAnswer scenes (GivesAll n) (RefusesAll n) status bytes

-- two sinks take, without a fault, whatever is written for these bytes
abbrev pub TakesAllOf : Form → List ℕ → (ℕ → Type 0) → (ℕ → Type 0) → Type 0
TakesAllOf (Recorded look) bytes picture notes = (recording : Recording) → recording_of bytes ≡ Ok recording → AreTaken (GivesLook look) picture notes recording
TakesAllOf Events bytes picture notes = (scene : Scene) → scene_of bytes ≡ Ok scene → AreTaken GivesEvents picture notes scene
TakesAllOf (All n) bytes picture notes = (scene : Scene) → scene_of bytes ≡ Ok scene → AreTaken (GivesAll n) picture notes scene
