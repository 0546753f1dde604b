-- The rest is looked through as the whole would be.
use Rattle.std.proofs.Common.{◌≡◌, drop}
use Rattle.dri_shared.specs.Areas.{has_number}
use Rattle.dri_shared.proofs.area.has_number.Given as goal

abbrev pub invariant-loop-window : goal.invariant-loop-window
invariant-loop-window l = has_number (drop l.window-index l.windows) l.number ≡ has_number l.windows l.number
