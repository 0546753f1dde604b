-- What a recording gives that is drawn by the card that flips.
use Rattle.std.specs.Prelude.{◌≡◌, ℕ, List, ◌++◌, codes}
use Rattle.std.specs.Fmt.{decimal}
use Rattle.dri_core.specs.Runs.{HoldRun}
use Rattle.dri_flip.specs.Owings.{owing}
use Rattle.dri_run.specs.Recordings.{screen_after}
use Rattle.dri_run.specs.declared.recording.Recording.{Recording}

-- the line of the flips and the copies
abbrev pub flip_line : ℕ → ℕ → List ℕ
flip_line flips copies = codes "flips " ++ (decimal flips ++ (codes " copies " ++ (decimal copies ++ codes "\n")))

-- the recording's journal is a hold-run of its scene: the picture is the screen after it, and the notes count its flips and its copies
pub record GivesFlipped (recording : Recording) (image text : List ℕ) : Type 0 where
  pub run : HoldRun recording.scene recording.journal
  pub picture : image ≡ screen_after recording
  pub notes : text ≡ flip_line (owing recording.scene recording.journal).flips (owing recording.scene recording.journal).copies
