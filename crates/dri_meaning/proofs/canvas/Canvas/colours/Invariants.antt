-- The colours so far.
use Rattle.std.proofs.Common.{◌≡◌, map, take}
use Rattle.dri_meaning.proofs.canvas.Canvas.colours.Given as goal

abbrev pub invariant-loop-pixel : goal.invariant-loop-pixel
invariant-loop-pixel l = l.colours ≡ map (λ p. p.colour) (take l.pixel-index l.pixels)
