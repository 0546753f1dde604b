-- The windows from some place of the stack on.
use Rattle.std.proofs.Common.{◌≡◌, drop}
use Rattle.dri_card.specs.Openings.{ShowsStack}
use Rattle.dri_card.proofs.opening.opening_front.Given as goal

abbrev pub invariant-loop-i : goal.invariant-loop-i
invariant-loop-i g l = record {
  width : l.front.width ≡ l.scene.width;
  height : l.front.height ≡ l.scene.height;
  shown : ShowsStack l.scene.root (drop l.i l.windows) l.front;
}
