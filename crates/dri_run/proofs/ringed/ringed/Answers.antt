-- The picture has a pixel for each place, and is the screen after the recording.
use Rattle.dri_core.specs.Runs.{after}
use Rattle.dri_run.proofs.Ringing.{ring_gives, ring_shows}
use Rattle.dri_run.proofs.Showing.{as_many}
use Rattle.dri_run.proofs.ringed.ringed.Goals as goal

pub pictured-requires-clause-pixels : goal.pictured-requires-clause-pixels
pictured-requires-clause-pixels c =
    as_many c.args.recording.scene (after c.args.recording.scene c.args.recording.journal).front c.in_ok-ringed.ringed.picture (ring_shows c.args.room c.args.recording _ c.as_slice.result.now c.in_ok-ringed.ringed c.in-Ok.ensures.ok c.as_slice.ensures c.in_ok-ringed.ensures.replays)

pub returns : goal.returns
returns c =
    ring_gives c.args.room c.args.recording _ c.as_slice.result.now c.in_ok-ringed.ringed c.in_ok-output.output.picture c.in_ok-output.output.notes c.ring_line-line.result.bytes c.in-Ok.ensures.ok c.as_slice.ensures c.in_ok-ringed.ensures.replays
    c.in_ok-output.ensures.picture c.in_ok-output.ensures.notes c.ring_line-line.ensures
