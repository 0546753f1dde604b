-- A dot covers its pixel, and has its quantities there.
use Rattle.dri_card16.proofs.LineDots.{dot_left}
use Rattle.dri_card16.proofs.line_drawing.dot_is_the_line.Goals as goal

pub returns : goal.returns
returns c kept r image l x y under on = dot_left kept r image l x y under on
