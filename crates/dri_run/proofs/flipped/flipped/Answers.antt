-- The picture has a pixel for each place, and is the screen after the recording.
use Rattle.dri_core.specs.Runs.{after}
use Rattle.dri_run.proofs.Flipping.{flip_gives, flip_shows}
use Rattle.dri_run.proofs.Showing.{as_many}
use Rattle.dri_run.proofs.flipped.flipped.Goals as goal

pub pictured-requires-clause-pixels : goal.pictured-requires-clause-pixels
pictured-requires-clause-pixels c =
    as_many c.args.recording.now.scene (after c.args.recording.now.scene c.args.recording.now.journal).front c.in_ok-shown.shown.picture (flip_shows c.args.recording.now c.as_slice.result.now c.in_ok-shown.shown c.as_slice.ensures c.in_ok-shown.ensures.replays)

pub returns : goal.returns
returns c =
    flip_gives c.args.recording.now c.as_slice.result.now c.in_ok-shown.shown c.in_ok-output.output.picture c.in_ok-output.output.notes c.flip_line-line.result.bytes c.as_slice.ensures c.in_ok-shown.ensures.replays
    c.in_ok-output.ensures.picture c.in_ok-output.ensures.notes c.flip_line-line.ensures
