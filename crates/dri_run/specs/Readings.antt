-- What a source's bytes spell: a text of some kind, as that of a scene. Each kind is read in the same way.
use Rattle.std.specs.Prelude.{◌≡◌, ℕ, ◌<◌, ◌≤◌, ◌⊎◌, List, drop, length, nat_lt, if◌then◌else◌, Result, Ok, Err}
use Rattle.std.specs.Io.KnownBytes.{IsAtEnd}
use Rattle.std.specs.declared.option.Option.{Option}
use Rattle.dri_base.specs.declared.scene.Scene.{Scene}
use Rattle.dri_base.specs.Ranges.{InRange}
use Rattle.dri_scene.specs.Readings.{part_of, scene_of}
use Rattle.dri_scene.specs.declared.fault.SceneFault.{SceneFault}
use Rattle.dri_scene.specs.declared.fault.SceneFault.TheVariants as faults
use Rattle.dri_words.specs.Lines.{◌>>=◌}
use Rattle.dri_words.specs.declared.lines.Refusal.{Refusal}
use Rattle.dri_words.specs.declared.reason.Reason.{Reason}
use Rattle.dri_run.specs.declared.status.Status.{Status}
use Rattle.dri_run.specs.declared.status.Status.TheVariants as answers

-- the bytes were read whole, within a limit
pub record IsReadWithin (limit : ℕ) (given : List ℕ) (left : Option (List ℕ)) : Type 0 where
  pub ended : IsAtEnd left
  pub within : length given ≤ limit

-- the bytes that were given, or why they weren't read whole
abbrev pub ReadsBytes : ℕ → Result (List ℕ) Status → List ℕ → Option (List ℕ) → Type 0
ReadsBytes limit (Ok bytes) given left = (bytes ≡ given) × IsReadWithin limit given left
ReadsBytes limit (Err answers.TooLong) given left = limit < length given
ReadsBytes limit (Err answers.ReadFault) given left = length given ≤ limit
ReadsBytes limit (Err answers.OutOfMemory) given left = Unit {0}
ReadsBytes limit (Err _) given left = ⊥

-- all the bytes where nothing fails, want of memory aside; or there are more than the limit
abbrev pub AreDecided : ℕ → Result (List ℕ) Status → List ℕ → Type 0
AreDecided limit (Ok read) bytes = (read ≡ bytes) × (length bytes ≤ limit)
AreDecided limit (Err status) bytes = ((status ≡ answers.TooLong) × (limit < length bytes)) ⊎ (status ≡ answers.OutOfMemory)

-- a kind of text: how many bytes it may have; what bytes spell, or the first line that is refused; and the scene in what was read
pub record Kind (A : Type 0) : Type 0 where
  pub most : ℕ
  pub spelled : List ℕ → Result A Refusal
  pub scene : A → Scene

-- how many bytes a scene's text may have
abbrev pub most_text : ℕ
most_text = 16777216

-- the texts of scenes
abbrev pub scenes : Kind Scene
scenes = record { most = most_text; spelled = scene_of; scene = λ scene. scene }

-- bytes give what the definition says, unless memory ran out
abbrev pub Spells : {A : Type 0} → Result A Status → Result A Refusal → Type 0
Spells (Ok x) read = read ≡ Ok x
Spells (Err (answers.Refused line reason)) read = read ≡ Err (record { line = line; reason = reason })
Spells (Err answers.OutOfMemory) read = Unit {0}
Spells (Err _) read = ⊥

-- the bytes were read whole, and spell this
pub record IsTextOf {A : Type 0} (kind : Kind A) (x : A) (given : List ℕ) (left : Option (List ℕ)) : Type 0 where
  pub read : IsReadWithin kind.most given left
  pub spelled : kind.spelled given ≡ Ok x
  pub in_range : InRange (kind.scene x)

-- the bytes are no such text: its first refused line and the first reason are named
pub record IsRefused {A : Type 0} (kind : Kind A) (line : ℕ) (reason : Reason) (given : List ℕ) (left : Option (List ℕ)) : Type 0 where
  pub read : IsReadWithin kind.most given left
  pub refused : kind.spelled given ≡ Err (record { line = line; reason = reason })

-- why the bytes that were given spell nothing
abbrev pub HasNone : {A : Type 0} → Kind A → Status → List ℕ → Option (List ℕ) → Type 0
HasNone kind (answers.Refused line reason) given left = IsRefused kind line reason given left
HasNone kind answers.TooLong given left = kind.most < length given
HasNone kind answers.ReadFault given left = length given ≤ kind.most
HasNone kind answers.OutOfMemory given left = Unit {0}
HasNone kind _ given left = ⊥

-- what the bytes that were given spell, or why they spell nothing
abbrev pub Reads : {A : Type 0} → Kind A → Result A Status → List ℕ → Option (List ℕ) → Type 0
Reads kind (Ok x) given left = IsTextOf kind x given left
Reads kind (Err status) given left = HasNone kind status given left

-- a status that all the bytes of a source have where nothing fails: they are too many, or no such text
abbrev pub IsRefusalOf : {A : Type 0} → Kind A → Status → List ℕ → Type 0
IsRefusalOf kind answers.TooLong bytes = kind.most < length bytes
IsRefusalOf kind (answers.Refused line reason) bytes = (length bytes ≤ kind.most) × (kind.spelled bytes ≡ Err (record { line = line; reason = reason }))
IsRefusalOf kind _ bytes = ⊥

-- a reading where nothing fails, want of memory aside
abbrev pub IsDecided : {A : Type 0} → Kind A → Result A Status → List ℕ → Type 0
IsDecided kind (Ok x) bytes = (length bytes ≤ kind.most) × (kind.spelled bytes ≡ Ok x)
IsDecided kind (Err status) bytes = IsRefusalOf kind status bytes ⊎ (status ≡ answers.OutOfMemory)

-- the answer to a text where nothing fails
abbrev pub answer_to_text : {A : Type 0} → Result A Refusal → Status
answer_to_text (Ok x) = answers.Done
answer_to_text (Err refusal) = answers.Refused refusal.line refusal.reason

-- the answer to all the bytes of a source where nothing fails
abbrev pub answer_to : {A : Type 0} → Kind A → List ℕ → Status
answer_to kind bytes = if nat_lt kind.most (length bytes) then answers.TooLong else answer_to_text (kind.spelled bytes)

-- how many bytes a text may have in which more stands behind a scene
abbrev pub most_behind : ℕ
most_behind = 33554432

-- a scene that begins the bytes, and what is made of it, of how many lines it has, and of the bytes behind its done line
abbrev pub with_scene : {A : Type 0} → (Scene → ℕ → List ℕ → Result A Refusal) → List ℕ → Result A Refusal
with_scene rest bytes = part_of bytes >>= λ begun. rest begun.0 begun.1.lines (drop begun.1.bytes bytes)

-- the status for a text that has no scene
abbrev pub refusal : SceneFault → Status
refusal (faults.Refused line reason) = answers.Refused line reason
refusal faults.OutOfMemory = answers.OutOfMemory
