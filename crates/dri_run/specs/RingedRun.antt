-- What a recording gives that is drawn through a ring.
use Rattle.std.specs.Prelude.{◌≡◌, ℕ, List, ◌++◌, codes}
use Rattle.std.specs.Fmt.{decimal}
use Rattle.dri_core.specs.Runs.{HoldRun}
use Rattle.dri_ring.specs.Counts.{Counts, ring_counts}
use Rattle.dri_run.specs.Recordings.{screen_after}
use Rattle.dri_run.specs.declared.recording.Recording.{Recording}

-- the line of the puts, of the waits until the ring was idle, and of the most that were pending
abbrev pub ring_line : ℕ → ℕ → ℕ → List ℕ
ring_line puts idles most = codes "puts " ++ (decimal puts ++ (codes " idles " ++ (decimal idles ++ (codes " most " ++ (decimal most ++ codes "\n")))))

-- and of a ring's counts
abbrev pub line_of_counts : Counts → List ℕ
line_of_counts counts = ring_line counts.puts counts.idles counts.most

-- the recording's journal is a hold-run of its scene: the picture is the screen after it, and the notes count its puts and idles, and the most pending, in a ring with so much room
pub record GivesRinged (room : ℕ) (recording : Recording) (image text : List ℕ) : Type 0 where
  pub run : HoldRun recording.scene recording.journal
  pub picture : image ≡ screen_after recording
  pub notes : text ≡ line_of_counts (ring_counts recording.scene room recording.journal)
