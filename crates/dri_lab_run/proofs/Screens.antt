-- The screen after the first entries of a recording.
use Rattle.std.proofs.Common.{◌≡◌, ℕ, List, take, subst}
use Rattle.dri_base.specs.declared.journal.Entry.{Entry}
use Rattle.dri_core.specs.Runs.{after}
use Rattle.dri_flip.specs.Replays.{IsShown}
use Rattle.dri_flip.specs.declared.shown.Shown.{Shown}
use Rattle.dri_run.proofs.Showing.{Shows}
use Rattle.dri_run.specs.declared.recording.Recording.{Recording}

-- what was replayed are the first entries of the recording
pub shows : (n : ℕ) (r : Recording) (entries : List Entry) (shown : Shown) → entries ≡ take n r.journal → IsShown r.scene entries shown → Shows r.scene (after r.scene (take n r.journal)).front shown.picture
shows n r entries shown same is =
    let shows = subst (λ (es : List Entry). IsShown r.scene es shown) same is in
    record { width = shows.width; height = shows.height; pixels = shows.pixels }
