-- The rectangles so far.
use Rattle.std.proofs.Common.{ℕ, take}
use Rattle.dri_base.specs.declared.colour.Pixel.{Pixel}
use Rattle.dri_card.specs.Contents.{Holds, KeepSides}
use Rattle.dri_card.specs.Drawing.{OnlyDrawn}
use Rattle.dri_card16.specs.Packing.{kept}
use Rattle.dri_draw.specs.Drawing.{cleared_in}
use Rattle.dri_card16.proofs.clips.clear_clips.Given as goal

abbrev pub invariant-loop-n : goal.invariant-loop-n
invariant-loop-n g l = record {
  held : (f : ℕ → ℕ → Pixel) → Holds l.fn.card f → Holds l.card (cleared_in (take l.n l.clips) (kept l.colour) l.depth f);
  others : OnlyDrawn l.fn.card l.card;
  sides : KeepSides l.fn.card l.card;
}
