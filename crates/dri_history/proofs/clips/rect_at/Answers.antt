-- One rectangle more.
use Rattle.dri_history.proofs.Placing.{found_here, none_more}
use Rattle.dri_history.proofs.clips.rect_at.Goals as goal

pub loop-i-preserved : goal.loop-i-preserved
loop-i-preserved c = none_more c.args.clips.now c.loop-i.i c.rect-rect.result c.args.x c.args.y c.has_place.result c.rect-rect.ensures c.loop-i.invariant c.has_place.ensures c.if-has_place.false

pub returns-then-has_place-clause-found : goal.returns-then-has_place-clause-found
returns-then-has_place-clause-found c = found_here c.args.clips.now c.loop-i.i c.rect-rect.result c.args.x c.args.y c.has_place.result c.rect-rect.ensures c.has_place.ensures c.if-has_place.true
