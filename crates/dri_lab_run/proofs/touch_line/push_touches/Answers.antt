-- One more.
use Rattle.std.proofs.Common.{rules}
use Rattle.dri_lab_run.specs.PlaceHistory.{touch_words}
use Rattle.dri_words.specs.Lines.{line_bytes}
use Rattle.dri_scene.proofs.Joins.{next_piece}
use Rattle.dri_lab_run.proofs.touch_line.push_touches.Goals as goal

pub loop-touch-preserved : goal.loop-touch-preserved
loop-touch-preserved c =
    next_piece (λ t. line_bytes (touch_words t)) c.args.touches.now c.loop-touch.touch-index _ (search rules) c.loop-touch.invariant c.in_ok-push_touch.ensures
