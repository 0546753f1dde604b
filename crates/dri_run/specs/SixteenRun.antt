-- What a recording gives that is drawn by the card of sixteen bits.
use Rattle.std.specs.Prelude.{◌≡◌, List, [], ℕ}
use Rattle.dri_base.specs.Planes.{plane}
use Rattle.dri_card16.specs.Sixteen.{after16}
use Rattle.dri_core.specs.Runs.{HoldRun}
use Rattle.dri_ppm.specs.Ppm.{ppm}
use Rattle.dri_run.specs.declared.recording.Recording.{Recording}

-- what the screen shows after a recording on that card, in the P6 form
abbrev pub screen_after16 : Recording → List ℕ
screen_after16 r = ppm r.scene.width r.scene.height (plane r.scene.width r.scene.height (after16 r.scene r.journal).front)

-- the recording's journal is a hold-run of its scene: the picture is that screen, and the notes gain nothing
pub record GivesSixteen (recording : Recording) (image text : List ℕ) : Type 0 where
  pub run : HoldRun recording.scene recording.journal
  pub picture : image ≡ screen_after16 recording
  pub notes : text ≡ []
