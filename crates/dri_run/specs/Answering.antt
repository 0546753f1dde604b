-- What the words of the command line ask for: what an answer says, when it comes, and what the sinks have to take.
use Rattle.std.specs.Prelude.{◌≡◌, ℕ, List, [], Some, None, Ok}
use Rattle.std.specs.declared.option.Option.{Option}
use Rattle.dri_base.specs.declared.scene.Scene.{Scene}
use Rattle.dri_scene.specs.Readings.{scene_of}
use Rattle.dri_run.specs.FrameAlone.{GivesImage, HasNoImage, IsImageOf, IsImageRead, frame_answer_to}
use Rattle.dri_run.specs.GroupedRun.{GivesGrouped, grouped_of, grouped_scenes}
use Rattle.dri_run.specs.Gains.{GainsNothing, Sunk}
use Rattle.dri_run.specs.MadeScene.{GivesMade}
use Rattle.dri_run.specs.Outcome.{AreTaken, Runs, Says, SaysOf}
use Rattle.dri_run.specs.Readings.{answer_to, scenes}
use Rattle.dri_run.specs.Recordings.{recording_of}
use Rattle.dri_run.specs.Replays.{GivesReplay, IsReplayAnswer, SaysReplay}
use Rattle.dri_run.specs.ScheduledRun.{GivesByForm}
use Rattle.dri_run.specs.declared.form.Form.{Form}
use Rattle.dri_run.specs.declared.form.Form.TheVariants.{Scheduled, Grouped, Replayed, Solo, Make}
use Rattle.dri_run.specs.declared.grouped.GroupedScene.{GroupedScene}
use Rattle.dri_run.specs.declared.recording.Recording.{Recording}
use Rattle.dri_run.specs.declared.status.Status.{Status}
use Rattle.dri_run.specs.declared.status.Status.TheVariants as answers

-- an answer of solo: the picture of the frame was written; else nothing was
abbrev pub SaysAlone : ℕ → ℕ → Status → List ℕ → Option (List ℕ) → Sunk → Sunk → Type 0
SaysAlone c k status given left picture notes = SaysOf (IsImageRead c k) (HasNoImage c k) GivesImage status given left picture notes

-- an answer to the words: those of no form say nothing of the bytes, and make asks for none
abbrev pub SaysTo : Option Form → Status → List ℕ → Option (List ℕ) → Sunk → Sunk → Type 0
SaysTo (Some (Scheduled shown)) status given left picture notes = Says scenes (GivesByForm shown) status given left picture notes
SaysTo (Some Grouped) status given left picture notes = Says grouped_scenes GivesGrouped status given left picture notes
SaysTo (Some (Replayed word)) status given left picture notes = SaysReplay word status given left picture notes
SaysTo (Some (Solo c k)) status given left picture notes = SaysAlone c k status given left picture notes
SaysTo (Some (Make n)) status given left picture notes = (given ≡ []) × Runs GivesMade status n picture notes
SaysTo None answers.Usage given left picture notes = GainsNothing picture × GainsNothing notes
SaysTo None _ given left picture notes = ⊥

-- nothing is read for these words: they are of no form, or ask for a scene that is made
abbrev pub ReadsNothing : Option Form → Type 0
ReadsNothing None = Unit {0}
ReadsNothing (Some (Make n)) = Unit {0}
ReadsNothing _ = ⊥

-- the answer to all the bytes of a source where nothing fails
abbrev pub IsAnswerTo : Form → List ℕ → Status → Type 0
IsAnswerTo (Scheduled shown) bytes status = status ≡ answer_to scenes bytes
IsAnswerTo Grouped bytes status = status ≡ answer_to grouped_scenes bytes
IsAnswerTo (Replayed word) bytes status = IsReplayAnswer status bytes
IsAnswerTo (Solo c k) bytes status = status ≡ frame_answer_to c k bytes
IsAnswerTo (Make n) bytes status = status ≡ answers.Done

-- two sinks take, without a fault, whatever is written for these bytes
abbrev pub TakesAllOf : Form → List ℕ → (ℕ → Type 0) → (ℕ → Type 0) → Type 0
TakesAllOf (Scheduled shown) bytes picture notes = (scene : Scene) → scene_of bytes ≡ Ok scene → AreTaken (GivesByForm shown) picture notes scene
TakesAllOf Grouped bytes picture notes = (grouped : GroupedScene) → grouped_of bytes ≡ Ok grouped → AreTaken GivesGrouped picture notes grouped
TakesAllOf (Replayed word) bytes picture notes = (recording : Recording) → recording_of bytes ≡ Ok recording → AreTaken (GivesReplay word) picture notes recording
TakesAllOf (Solo c k) bytes picture notes = (image : List ℕ) → IsImageOf c k image bytes → AreTaken GivesImage picture notes image
TakesAllOf (Make n) bytes picture notes = AreTaken GivesMade picture notes n
