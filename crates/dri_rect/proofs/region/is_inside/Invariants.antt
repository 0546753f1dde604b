use Rattle.std.proofs.Common.{◌≡◌, length}
use Rattle.dri_rect.specs.Pixels.{inside}
use Rattle.dri_rect.proofs.region.is_inside.Given as goal

abbrev pub invariant-loop-first : goal.invariant-loop-first
invariant-loop-first l = inside l.rects l.x l.y ≡ inside l.rest l.x l.y

abbrev pub decreases-loop-first : goal.decreases-loop-first
decreases-loop-first l = length l.rest
