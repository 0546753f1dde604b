-- What a scene's run by its schedule gives.
use Rattle.std.specs.Prelude.{◌≡◌, ℕ, List, []}
use Rattle.dri_base.specs.declared.journal.Event.{Event}
use Rattle.dri_base.specs.declared.scene.Scene.{Scene}
use Rattle.dri_base.specs.Planes.{plane}
use Rattle.dri_core.specs.CoreRuns.{ConfinedRun, OwnRun, SoloLeftRun, after_events, world_of}
use Rattle.dri_core.specs.Cores.{journal_of, opening_core, word_number}
use Rattle.dri_core.specs.Runs.{Whole}
use Rattle.dri_core.specs.Turns.{IsTurns}
use Rattle.dri_sarea.specs.Images.{area_bytes}
use Rattle.dri_shared.specs.Areas.{area_of}
use Rattle.dri_journal.specs.Journals.{journal_text}
use Rattle.dri_ppm.specs.Ppm.{ppm}
use Rattle.dri_run.specs.declared.form.Shown.{Shown}
use Rattle.dri_run.specs.declared.form.Shown.TheVariants.{Turns, Sarea}

-- what holds of a run of the scene to its end
pub record Holds (scene : Scene) (events : List Event) : Type 0 where
  -- no command changes a pixel outside its client's clips of that moment
  pub confined : ConfinedRun scene events
  -- each triangle is drawn with its own client's registers and texels
  pub own : OwnRun scene events
  -- each frame that begins with a clear and whose window was at most moved whole until its swap leaves in its clips exactly that client's frame drawn alone
  pub solo_left : SoloLeftRun scene events
  -- nobody holds, every client is ended or dead, and all changes were made
  pub whole : Whole scene (journal_of events)

-- the run of a scene's schedule, and then of rounds until nothing is left to do
pub record IsRunOf (scene : Scene) (events : List Event) : Type 0 where
  pub turns : IsTurns scene events
  pub holds : Holds scene events

-- what the picture gains: the screen in the P6 form, or the image of the shared area
abbrev pub picture_of : Shown → Scene → List Event → List ℕ
picture_of Turns scene events = ppm scene.width scene.height (plane scene.width scene.height (world_of scene events).front)
picture_of Sarea scene events = area_bytes (area_of scene (world_of scene events) (word_number (after_events scene (opening_core scene) events).word))

-- what the notes gain: the journal, or nothing
abbrev pub notes_of : Shown → List Event → List ℕ
notes_of Turns events = journal_text (journal_of events)
notes_of Sarea events = []

-- what is shown of the run
pub record GivesByForm (shown : Shown) (scene : Scene) (image text : List ℕ) : Type 0 where
  pub events : List Event
  pub run : IsRunOf scene events
  pub picture : image ≡ picture_of shown scene events
  pub notes : text ≡ notes_of shown events
