-- The pairs and the state after the commands so far.
use Rattle.std.proofs.Common.{◌≡◌, ◌+◌, pos}
use Rattle.dri_base.specs.States.{state_at}
use Rattle.dri_meaning.specs.Canvases.{HasPairs}
use Rattle.dri_meaning.proofs.SoloPixels.{solo_before}
use Rattle.dri_meaning.proofs.canvas.Canvas.draw_frame.Given as goal

abbrev pub invariant-loop-n : goal.invariant-loop-n
invariant-loop-n g l = record {
  pairs : HasPairs l.self.pairs (λ x y. solo_before l.script l.frame.clear l.n (pos x) (pos y));
  state : l.state ≡ state_at l.script.commands (l.frame.clear + l.n);
  width : l.self.pairs.width ≡ l.fn.self.pairs.width;
  height : l.self.pairs.height ≡ l.fn.self.pairs.height;
}
