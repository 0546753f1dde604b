use Rattle.std.proofs.Common.{◌≡◌}
use Rattle.std.specs.Prelude.{take}
use Rattle.dri_rect.specs.Pixels.{moved}
use Rattle.dri_rect.proofs.region.move_all.Given as goal

abbrev pub invariant-loop-rect : goal.invariant-loop-rect
invariant-loop-rect l = l.out.items ≡ moved l.dx l.dy (take l.rect-index l.rects)
