-- The columns so far.
use Rattle.std.proofs.Common.{◌≡◌, ◌≤◌, ◌+◌, ◌*◌}
use Rattle.dri_card16.specs.Dots.{before_column}
use Rattle.dri_card16.specs.Lines.{left_on, places_in}
use Rattle.dri_model.specs.Words.{card_image, rules_in}
use Rattle.dri_walk.specs.Samplings.{byte_in}
use Rattle.dri_walk.specs.Surfaces.{PairsBecome, drawn_at}
use Rattle.dri_card16.proofs.line_drawing.draw_line.Given as goal

abbrev pub invariant-loop-n : goal.invariant-loop-n
invariant-loop-n g l = record {
  width : g.S.Surface.width l.surface ≡ g.S.Surface.width l.fn.surface;
  height : g.S.Surface.height l.surface ≡ g.S.Surface.height l.fn.surface;
  pairs : PairsBecome g.S.Surface.holds l.fn.surface l.surface (drawn_at (before_column l.line l.clip l.n) l.origin (left_on g.S.Surface.kept (rules_in l.registers) (card_image (byte_in l.memory) l.registers.bound) l.line));
  bound : l.steps ≤ l.fn.steps + 4 * places_in l.line l.clip l.origin l.n;
}
