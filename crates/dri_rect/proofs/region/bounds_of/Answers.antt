use Rattle.std.proofs.Common.{pos}
use Rattle.dri_base.specs.declared.shape.Rect.{Rect}
use Rattle.dri_rect.proofs.Bounds.{hold_more}
use Rattle.dri_rect.proofs.region.bounds_of.Goals as goal

abbrev none : Rect
none = record { x1 = pos 0; y1 = pos 0; x2 = pos 0; y2 = pos 0 }

pub loop-rect-preserved : goal.loop-rect-preserved
loop-rect-preserved c = rw c.hull-bounds.ensures (hold_more _ c.args.rects.now c.loop-rect.rect-index none c.loop-rect-test.true c.loop-rect.invariant)
