-- The rectangles so far stay on the screen.
use Rattle.std.proofs.Common.{All, take}
use Rattle.dri_plane.specs.Moves.{StaysInside}
use Rattle.dri_card.proofs.screen.expect_all_stay.Given as goal

abbrev pub invariant-loop-rect : goal.invariant-loop-rect
invariant-loop-rect l = All (StaysInside l.dx l.dy l.width l.height) (take l.rect-index l.rects)
