-- The rectangles so far.
use Rattle.std.proofs.Common.{ℕ, take}
use Rattle.dri_base.specs.declared.colour.Pixel.{Pixel}
use Rattle.dri_card.specs.Contents.{Holds, KeepSides}
use Rattle.dri_card16.specs.Following.{drawn16_in}
use Rattle.dri_draw.specs.Drawing.{OnlyDrawnOn}
use Rattle.dri_card16.proofs.clips.draw_clips.Given as goal

abbrev pub invariant-loop-i : goal.invariant-loop-i
invariant-loop-i g l = record {
  held : (f : ℕ → ℕ → Pixel) → Holds l.fn.card f → Holds l.card (drawn16_in l.fn.card l.origin l.triangle (take l.i l.clips) f);
  others : OnlyDrawnOn l.fn.card l.card;
  sides : KeepSides l.fn.card l.card;
}
