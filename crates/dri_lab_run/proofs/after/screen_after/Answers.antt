-- The picture has a pixel for each place.
use Rattle.std.proofs.Common.{ap, take, ◌∙◌}
use Rattle.dri_core.specs.Runs.{after}
use Rattle.dri_run.proofs.Showing.{as_many}
use Rattle.dri_lab_run.proofs.Screens.{shows}
use Rattle.dri_lab_run.proofs.after.screen_after.Goals as goal

pub picture_bytes-requires-clause-pixels : goal.picture_bytes-requires-clause-pixels
picture_bytes-requires-clause-pixels c =
    let n = c.args.entries in
    let recording = c.args.recording.now in
    let shown = c.in_ok-shown.shown in
    as_many recording.scene (after recording.scene (take n recording.journal)).front shown.picture
    (shows n recording _ shown (c.split_at.ensures.front ∙ ap (take n) c.as_slice-journal.ensures) c.in_ok-shown.ensures.replays)
