-- The colours so far.
use Rattle.std.proofs.Common.{◌≡◌, take}
use Rattle.dri_lab_run.proofs.all.copied.Given as goal

abbrev pub invariant-loop-colour : goal.invariant-loop-colour
invariant-loop-colour l = l.screen ≡ take l.colour-index l.colours
