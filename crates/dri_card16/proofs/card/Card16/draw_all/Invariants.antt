-- The triangles so far.
use Rattle.std.proofs.Common.{ℕ, ◌≤◌, ◌+◌, ◌*◌, take}
use Rattle.dri_base.specs.declared.colour.Pixel.{Pixel}
use Rattle.dri_card.specs.Contents.{Holds, KeepSides}
use Rattle.dri_card.specs.Drawing.{OnlyDrawn}
use Rattle.dri_card16.specs.Calls.{after_triangles16, covered16}
use Rattle.dri_card16.proofs.card.Card16.draw_all.Given as goal

abbrev pub invariant-loop-i : goal.invariant-loop-i
invariant-loop-i g l = record {
  drawn : (f : ℕ → ℕ → Pixel) → Holds l.fn.self f → Holds l.self (after_triangles16 l.fn.self l.fn.origin (take l.i l.triangles) f);
  others : OnlyDrawn l.fn.self l.self;
  sides : KeepSides l.fn.self l.self;
  bound : l.steps ≤ l.fn.steps + 4 * covered16 l.fn.self l.fn.origin (take l.i l.triangles);
}
