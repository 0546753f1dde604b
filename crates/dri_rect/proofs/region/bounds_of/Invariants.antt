use Rattle.std.specs.Prelude.{take}
use Rattle.dri_rect.specs.Extents.{Holds}
use Rattle.dri_rect.proofs.region.bounds_of.Given as goal

abbrev pub invariant-loop-rect : goal.invariant-loop-rect
invariant-loop-rect l = Holds l.bounds (take l.rect-index l.rects)
