use Rattle.std.proofs.Common.{w32, pos}
use Rattle.std.proofs.lemmas.Int.{to_z-of_z}
use Rattle.dri_base.specs.declared.shape.Rect.{Rect}
use Rattle.dri_rect.specs.Walk.{Movable}
use Rattle.dri_rect.proofs.Regions.{all_at, moved_at}
use Rattle.dri_rect.proofs.region.move_all.Goals as goal

abbrev none : Rect
none = record { x1 = pos 0; y1 = pos 0; x2 = pos 0; y2 = pos 0 }

pub move_one-requires : goal.move_one-requires
move_one-requires c =
    rw (to_z-of_z w32 c.args.dx c.ranges.dx, to_z-of_z w32 c.args.dy c.ranges.dy) (all_at (Movable c.args.dx c.args.dy) c.args.rects.now c.loop-rect.rect-index none c.requires c.loop-rect-test.true)

pub loop-rect-preserved : goal.loop-rect-preserved
loop-rect-preserved c = moved_at _ _ c.args.rects.now _ _ c.loop-rect.rect-index none _ c.loop-rect-test.true c.loop-rect.invariant c.move_one.ensures c.in_ok-push.ensures.items
