-- The paints so far.
use Rattle.std.proofs.Common.{ℕ, take}
use Rattle.dri_base.specs.declared.colour.Rgb.{Rgb}
use Rattle.dri_card.specs.Contents.{KeepSides}
use Rattle.dri_card.specs.Drawing.{OnlyShown}
use Rattle.dri_card16.specs.Following.{ShowsKept}
use Rattle.dri_clips.specs.Paints.{filled}
use Rattle.dri_card16.proofs.showing.paint.Given as goal

abbrev pub invariant-loop-paint : goal.invariant-loop-paint
invariant-loop-paint g l = record {
  shown : (front : ℕ → ℕ → Rgb) → ShowsKept l.fn.card front → ShowsKept l.card (filled (take l.paint-index l.paints) front);
  others : OnlyShown l.fn.card l.card;
  sides : KeepSides l.fn.card l.card;
}
