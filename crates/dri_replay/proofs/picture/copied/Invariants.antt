-- The colours so far.
use Rattle.std.proofs.Common.{◌≡◌, take}
use Rattle.dri_replay.proofs.picture.copied.Given as goal

abbrev pub invariant-loop-colour : goal.invariant-loop-colour
invariant-loop-colour l = l.pixels ≡ take l.colour-index l.colours
