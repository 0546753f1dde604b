use Rattle.dri_core.proofs.FrameNumbers.{is_frame, frame_is}
use Rattle.dri_core.proofs.hold_runs.frames.Goals as goal

pub returns-clause-found : goal.returns-clause-found
returns-clause-found c = is_frame

pub returns-clause-there : goal.returns-clause-there
returns-clause-there c = frame_is
