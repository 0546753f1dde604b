use Rattle.std.proofs.Common.{◌-ℤ◌, ◌++◌}
use Rattle.std.specs.Prelude.{unsigned_abs}
use Rattle.dri_rect.specs.Pixels.{most}
use Rattle.dri_rect.specs.Walk.{Placing, CutsBand}
use Rattle.dri_rect.proofs.bands.combine.Given as goal

abbrev pub invariant-loop-above : goal.invariant-loop-above
invariant-loop-above l = record {
  walk : Placing l.operation l.first l.second (l.above.first.now ++ l.above.below.now) (l.below.first.now ++ l.below.below.now) l.out.items l.start l.y;
  cut_above : CutsBand l.above.first.now l.above.below.now;
  cut_below : CutsBand l.below.first.now l.below.below.now;
}

abbrev pub decreases-loop-above : goal.decreases-loop-above
decreases-loop-above l = unsigned_abs (most -ℤ l.y)
