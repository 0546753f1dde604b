-- The paints so far.
use Rattle.std.proofs.Common.{ℕ, take}
use Rattle.dri_base.specs.declared.colour.Rgb.{Rgb}
use Rattle.dri_clips.specs.Paints.{filled}
use Rattle.dri_ring.specs.Rings.{OnlyShown, Shows}
use Rattle.dri_ring.proofs.showing.paint.Given as goal

abbrev pub invariant-loop-paint : goal.invariant-loop-paint
invariant-loop-paint l = record {
  shown : (shown : ℕ → ℕ → Rgb) → Shows l.fn.engine shown → Shows l.engine (filled (take l.paint-index l.paints) shown);
  others : OnlyShown l.fn.engine l.engine;
}
