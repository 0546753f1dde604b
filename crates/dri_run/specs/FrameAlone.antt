-- What drawing a client's frame alone gives.
use Rattle.std.specs.Prelude.{◌≡◌, ℕ, zero, ◌⊎◌, pos, List, [], length, map, Bool, true, false, is_some, nat_lt, if◌then◌else◌, Some, Result, Ok, Err}
use Rattle.std.specs.declared.option.Option.{Option}
use Rattle.dri_base.specs.declared.colour.Rgb.{Rgb}
use Rattle.dri_base.specs.declared.scene.Scene.{Scene}
use Rattle.dri_base.specs.declared.scene.Window.{Window}
use Rattle.dri_base.specs.Planes.{plane}
use Rattle.dri_base.specs.Ranges.{InRange}
use Rattle.dri_base.specs.Scenes.{commands_of, script_of, window_of}
use Rattle.dri_core.specs.Solo.{frame, solo_frame}
use Rattle.dri_model.specs.Stacks.{window_in}
use Rattle.dri_ppm.specs.Ppm.{ppm}
use Rattle.dri_scene.specs.Readings.{Refusal, scene_of}
use Rattle.dri_words.specs.declared.reason.Reason.TheVariants as reasons
use Rattle.dri_run.specs.Readings.{HasNone, IsReadWithin, IsTextOf, most_text, scenes}
use Rattle.dri_run.specs.declared.status.Status.{Status}
use Rattle.dri_run.specs.declared.status.Status.TheVariants as answers

-- client c has a frame k, which begins with a clear; a client that isn't there has no commands, and so no frame
abbrev pub has_frame : ℕ → ℕ → Scene → Bool
has_frame c k scene = is_some (frame (commands_of scene c) k)

-- these are the pixels of frame k of client c drawn alone, with the sides that the client's window has in the scene
pub record IsShot (c k : ℕ) (scene : Scene) (width height : ℕ) (pixels : List Rgb) : Type 0 where
  pub window : Window
  pub own : window_in scene.windows (window_of scene c) ≡ Some window
  pub wide : width ≡ window.width
  pub high : height ≡ window.height
  pub drawn : map Some pixels ≡ plane width height (λ x y. solo_frame (script_of scene c) k (pos x) (pos y))

-- this is the picture of that frame, in the P6 form
pub record IsDrawnAlone (c k : ℕ) (scene : Scene) (image : List ℕ) : Type 0 where
  pub width : ℕ
  pub height : ℕ
  pub pixels : List Rgb
  pub shot : IsShot c k scene width height pixels
  pub picture : image ≡ ppm width height pixels

-- the frame of a scene, or why it isn't drawn: it isn't there
abbrev pub DrawsAlone : ℕ → ℕ → Result (List ℕ) Status → Scene → Type 0
DrawsAlone c k (Ok image) scene = (has_frame c k scene ≡ true) × IsDrawnAlone c k scene image
DrawsAlone c k (Err (answers.Refused line reason)) scene = (line ≡ 0) × (reason ≡ reasons.Frame) × (has_frame c k scene ≡ false)
DrawsAlone c k (Err answers.OutOfMemory) scene = Unit {0}
DrawsAlone c k (Err _) scene = ⊥

-- the bytes are the text of one scene, and this is the picture of its frame
pub record IsImageOf (c k : ℕ) (image bytes : List ℕ) : Type 0 where
  pub scene : Scene
  pub spelled : scene_of bytes ≡ Ok scene
  pub in_range : InRange scene
  pub there : has_frame c k scene ≡ true
  pub alone : IsDrawnAlone c k scene image

-- the bytes were read whole, and have this picture
pub record IsImageRead (c k : ℕ) (image given : List ℕ) (left : Option (List ℕ)) : Type 0 where
  pub read : IsReadWithin most_text given left
  pub is : IsImageOf c k image given

-- the bytes were read whole, and are the text of a scene that hasn't the frame
pub record IsFrameless (c k : ℕ) (given : List ℕ) (left : Option (List ℕ)) : Type 0 where
  pub scene : Scene
  pub text : IsTextOf scenes scene given left
  pub missing : has_frame c k scene ≡ false

-- why the bytes that were given have no picture: line 0, which no text has, says that the frame isn't there
abbrev pub HasNoImage : ℕ → ℕ → Status → List ℕ → Option (List ℕ) → Type 0
HasNoImage c k (answers.Refused zero reason) given left = (reason ≡ reasons.Frame) × IsFrameless c k given left
HasNoImage c k status given left = HasNone scenes status given left

-- the picture of the bytes that were given, or why they have none
abbrev pub ReadsImage : ℕ → ℕ → Result (List ℕ) Status → List ℕ → Option (List ℕ) → Type 0
ReadsImage c k (Ok image) given left = IsImageRead c k image given left
ReadsImage c k (Err status) given left = HasNoImage c k status given left

-- the picture gains the frame's picture, and the notes nothing
abbrev pub GivesImage : List ℕ → List ℕ → List ℕ → Type 0
GivesImage alone image text = (image ≡ alone) × (text ≡ [])

-- the answer to a scene that has the frame, or hasn't
abbrev pub answer_to_frame : Bool → Status
answer_to_frame true = answers.Done
answer_to_frame false = answers.Refused 0 reasons.Frame

-- the answer to a text where nothing fails
abbrev pub frame_answer_to_text : ℕ → ℕ → Result Scene Refusal → Status
frame_answer_to_text c k (Ok scene) = answer_to_frame (has_frame c k scene)
frame_answer_to_text c k (Err refusal) = answers.Refused refusal.line refusal.reason

-- the answer to all the bytes of a source where nothing fails
abbrev pub frame_answer_to : ℕ → ℕ → List ℕ → Status
frame_answer_to c k bytes = if nat_lt most_text (length bytes) then answers.TooLong else frame_answer_to_text c k (scene_of bytes)

-- a reading of a picture where nothing fails, want of memory aside
abbrev pub IsImageDecided : ℕ → ℕ → Result (List ℕ) Status → List ℕ → Type 0
IsImageDecided c k (Ok image) bytes = IsImageOf c k image bytes × (frame_answer_to c k bytes ≡ answers.Done)
IsImageDecided c k (Err status) bytes = (status ≡ frame_answer_to c k bytes) ⊎ (status ≡ answers.OutOfMemory)
