-- The rectangles so far.
use Rattle.std.proofs.Common.{ℕ, take}
use Rattle.dri_base.specs.declared.colour.Pixel.{Pixel}
use Rattle.dri_base.specs.declared.colour.Rgb.{Rgb}
use Rattle.dri_card.specs.Contents.{Holds, KeepSides, Shows}
use Rattle.dri_card.specs.Drawing.{OnlyShown}
use Rattle.dri_draw.specs.Drawing.{swapped_in}
use Rattle.dri_card16.proofs.clips.swap_clips.Given as goal

abbrev pub invariant-loop-i : goal.invariant-loop-i
invariant-loop-i g l = record {
  shown : (f : ℕ → ℕ → Pixel) (front : ℕ → ℕ → Rgb) → Holds l.fn.card f → Shows l.fn.card front → Shows l.card (swapped_in (take l.i l.clips) f front);
  others : OnlyShown l.fn.card l.card;
  sides : KeepSides l.fn.card l.card;
}
