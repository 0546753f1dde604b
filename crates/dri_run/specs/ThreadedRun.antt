-- What a scene's run in threads gives.
use Rattle.std.specs.Prelude.{◌≡◌, ℕ, List, All}
use Rattle.dri_base.specs.declared.journal.Entry.{Entry}
use Rattle.dri_base.specs.declared.scene.Scene.{Scene}
use Rattle.dri_base.specs.Planes.{plane}
use Rattle.dri_core.specs.Frames.{Own, SoloLeft}
use Rattle.dri_core.specs.Runs.{Confined, HoldRun, Whole, after, plain}
use Rattle.dri_journal.specs.Journals.{FitsWords, journal_text}
use Rattle.dri_ppm.specs.Ppm.{ppm}

-- the journal of a run of this scene to its end
pub record IsJournalOf (scene : Scene) (journal : List Entry) : Type 0 where
  pub run : HoldRun scene journal
  -- no command changes a pixel outside its client's clips of that moment
  pub confined : Confined scene journal
  -- each triangle is drawn with its own client's registers and texels
  pub own : Own scene journal
  -- each frame that begins with a clear and whose window was at most moved whole until its swap leaves in its clips exactly that client's frame drawn alone
  pub solo_left : SoloLeft scene journal
  -- nobody holds, every client is ended or dead, and all changes were made
  pub whole : Whole scene journal

-- the journal's numbers have 32 bits, and the bytes are the text of this journal and of no other such
pub record Determines (text : List ℕ) (journal : List Entry) : Type 0 where
  pub fits : All FitsWords journal
  pub spelled : text ≡ journal_text journal
  pub alone : (other : List Entry) → All FitsWords other → text ≡ journal_text other → other ≡ journal

-- the scene ran without its schedule: the picture is the screen after the journal, in the P6 form, and the notes determine the journal
pub record GivesInThreads (scene : Scene) (image text : List ℕ) : Type 0 where
  pub journal : List Entry
  pub run : IsJournalOf (plain scene) journal
  pub picture : image ≡ ppm scene.width scene.height (plane scene.width scene.height (after (plain scene) journal).front)
  pub notes : Determines text journal
