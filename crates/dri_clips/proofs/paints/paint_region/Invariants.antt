use Rattle.std.specs.Prelude.{◌≡◌, ◌++◌, map, take}
use Rattle.dri_clips.specs.Gains.{paint_of}
use Rattle.dri_clips.proofs.paints.paint_region.Given as goal

abbrev pub invariant-loop-i : goal.invariant-loop-i
invariant-loop-i l = l.paints ≡ l.fn.paints ++ map (paint_of l.colour) (take l.i l.region)
