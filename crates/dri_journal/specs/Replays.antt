-- What contracts see of a replay.
use Rattle.std.specs.Prelude.{◌≡◌, ◌++◌, ◌∷◌, ℕ, ℤ, List, [], Result, Ok, Err, Bool, true, false}
use Rattle.dri_base.specs.Scenes.{window_of}
use Rattle.dri_base.specs.declared.journal.Entry.{Entry}
use Rattle.dri_base.specs.declared.scene.Scene.{Scene}
use Rattle.dri_base.specs.declared.shape.Rect.{Rect}
use Rattle.dri_clips.specs.Boards.{shows}
use Rattle.dri_core.specs.EntryTable.{LegalEntry}
use Rattle.dri_core.specs.Runs.{after}
use Rattle.dri_core.specs.Worlds.{World}
use Rattle.dri_journal.specs.Deeds.{Does}
use Rattle.dri_journal.specs.Reasons.{Fails}
use Rattle.dri_journal.specs.declared.deed.Deed.{Deed}
use Rattle.dri_journal.specs.declared.refusal.Refusal.{Refusal}
use Rattle.dri_journal.specs.declared.refusal.StepFault.{StepFault}
use Rattle.dri_journal.specs.declared.refusal.StepFault.TheVariants as faults
use Rattle.dri_rect.specs.Pixels.{inside}

-- the scene, and the entries that were taken
pub record ReplayState : Type 0 where
  pub scene : Scene
  pub entries : List Entry

-- the world that the entries leave
abbrev pub world_of : ReplayState → World
world_of v = after v.scene v.entries

-- the entry is legal after those that were taken
abbrev pub MayTake : ReplayState → Entry → Type 0
MayTake v e = LegalEntry v.scene (world_of v) e

-- the rectangles have just the pixels at which the window of client c shows after the entries
abbrev pub AreCurrentClips : ReplayState → ℕ → List Rect → Type 0
AreCurrentClips v c rects = (x y : ℤ) → inside rects x y ≡ shows v.scene.width v.scene.height (world_of v).stack (window_of v.scene c) x y

-- one entry more was taken
pub record Took (old new : ReplayState) (e : Entry) : Type 0 where
  pub scene : new.scene ≡ old.scene
  pub entries : new.entries ≡ old.entries ++ e ∷ []

-- nothing is refused
abbrev pub allows : {A : Type 0} → Result A Refusal → Bool
allows (Ok x) = true
allows (Err refusal) = false

-- a legal entry is taken, and what it does is told; another is refused for its reason, and then, as where memory ran out, nothing is changed
abbrev pub Steps : ReplayState → ReplayState → Entry → Result Deed StepFault → Type 0
Steps old new e (Ok deed) = MayTake old e × Took old new e × Does old.scene (world_of old) e deed
Steps old new e (Err (faults.Refused refusal)) = (MayTake old e → ⊥) × Fails old.scene (world_of old) e refusal × (new ≡ old)
Steps old new e (Err faults.OutOfMemory) = new ≡ old
