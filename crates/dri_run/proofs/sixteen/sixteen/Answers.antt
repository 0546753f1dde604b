-- The picture has a pixel for each place, and is the screen after the recording.
use Rattle.dri_card16.specs.Sixteen.{after16}
use Rattle.dri_run.proofs.Showing.{as_many}
use Rattle.dri_run.proofs.SixteenShown.{sixteen_gives, sixteen_shows}
use Rattle.dri_run.proofs.sixteen.sixteen.Goals as goal

pub picture_bytes-requires-clause-pixels : goal.picture_bytes-requires-clause-pixels
picture_bytes-requires-clause-pixels c =
    as_many c.args.recording.now.scene (after16 c.args.recording.now.scene c.args.recording.now.journal).front c.in_ok-shown.shown (sixteen_shows c.args.recording.now c.as_slice.result.now c.in_ok-shown.shown c.as_slice.ensures c.in_ok-shown.ensures.replays)

pub returns : goal.returns
returns c =
    sixteen_gives c.args.recording.now c.as_slice.result.now c.in_ok-shown.shown c.in_ok-picture.picture _ c.as_slice.ensures c.in_ok-shown.ensures.replays
    c.in_ok-picture.ensures c.new.ensures
