-- No rectangle so far has the place.
use Rattle.std.proofs.Common.{◌≡◌, false, pos, take}
use Rattle.dri_rect.specs.Pixels.{inside}
use Rattle.dri_history.proofs.clips.rect_at.Given as goal

abbrev pub invariant-loop-i : goal.invariant-loop-i
invariant-loop-i l = inside (take l.i l.clips) (pos l.x) (pos l.y) ≡ false
