-- What touched a place of the screen by a recording's journal: a line for each touch.
use Rattle.std.specs.Prelude.{◌≡◌, ℕ, ◌<◌, ◌⊎◌, ◌≤◌, List, [], ◌∷◌, ◌++◌, codes, Option, Some, None}
use Rattle.std.specs.Fmt.{decimal, signed_decimal}
use Rattle.std.specs.List.{flat_map}
use Rattle.dri_core.specs.FirstBad.{IsFirstBad}
use Rattle.dri_core.specs.Runs.{HoldRun}
use Rattle.dri_core.specs.Worlds.{opening}
use Rattle.dri_history.specs.Touches.{AreTouches}
use Rattle.dri_history.specs.declared.touch.Clip.{Clip}
use Rattle.dri_history.specs.declared.touch.Kind.{Kind}
use Rattle.dri_history.specs.declared.touch.Kind.TheVariants as Kind_is
use Rattle.dri_history.specs.declared.touch.Touch.{Touch}
use Rattle.dri_run.specs.declared.recording.Recording.{Recording}
use Rattle.dri_run.specs.declared.status.Status.TheVariants as answers
use Rattle.dri_scene.specs.Texts.{colour_word}
use Rattle.dri_words.specs.Lines.{line_bytes}
use Rattle.dri_lab_run.specs.declared.status.LabStatus.{LabStatus}
use Rattle.dri_lab_run.specs.declared.status.LabStatus.TheVariants as lab

-- the word for what is done to a place
abbrev pub kind_word : Kind → List ℕ
kind_word Kind_is.Clear = codes "clear"
kind_word Kind_is.Triangle = codes "triangle"
kind_word Kind_is.Swap = codes "swap"
kind_word Kind_is.Carry = codes "carry"
kind_word Kind_is.Paint = codes "paint"

-- the stamp of a client's window, and the rectangle of its clip list that the place lies in, where there is one
abbrev pub clip_words : Option Clip → List (List ℕ)
clip_words None = []
clip_words (Some clip) =
    codes "stamp" ∷ decimal clip.stamp ∷ codes "clip" ∷ signed_decimal clip.rect.x1 ∷ signed_decimal clip.rect.y1 ∷ signed_decimal clip.rect.x2 ∷ signed_decimal clip.rect.y2 ∷ []

-- what stood at the place before the touch and after it: in front, in back, and in depth
abbrev pub sample_words : Touch → List (List ℕ)
sample_words t =
    codes "front" ∷ colour_word t.before.front ∷ colour_word t.after.front ∷
    codes "back" ∷ colour_word t.before.back.colour ∷ colour_word t.after.back.colour ∷
    codes "depth" ∷ decimal t.before.back.depth ∷ decimal t.after.back.depth ∷ []

-- a touch's line: the entry's number, what it did, whose it is, the clip, and what stood there
abbrev pub touch_words : Touch → List (List ℕ)
touch_words t = codes "entry" ∷ decimal t.entry ∷ kind_word t.kind ∷ codes "client" ∷ decimal t.client ∷ (clip_words t.clip ++ sample_words t)

-- the lines of touches
abbrev pub touch_lines : List Touch → List ℕ
touch_lines touches = flat_map (λ t. line_bytes (touch_words t)) touches

-- the place is on the screen, and the journal is a hold-run of the scene: the picture gains a line for each of its entries that touches the place, and the notes nothing
pub record GivesHistory (x y : ℕ) (recording : Recording) (image text : List ℕ) : Type 0 where
  pub column : x < recording.scene.width
  pub row : y < recording.scene.height
  pub run : HoldRun recording.scene recording.journal
  pub touches : List Touch
  pub are : AreTouches recording.scene (opening recording.scene) 1 recording.journal x y touches
  pub picture : image ≡ touch_lines touches
  pub notes : text ≡ []

-- the place isn't on the screen, whose sides are told; or this entry isn't legal after those before it
abbrev pub RefusesHistory : ℕ → ℕ → Recording → LabStatus → Type 0
RefusesHistory x y recording (lab.NoPlace width height) = (width ≡ recording.scene.width) × (height ≡ recording.scene.height) × ((width ≤ x) ⊎ (height ≤ y))
RefusesHistory x y recording (lab.Common (answers.NotARun entry)) = (x < recording.scene.width) × (y < recording.scene.height) × IsFirstBad recording.scene recording.journal entry
RefusesHistory x y recording _ = ⊥
