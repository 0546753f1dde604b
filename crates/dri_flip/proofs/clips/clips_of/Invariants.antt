-- The rectangles so far.
use Rattle.std.specs.Prelude.{◌≡◌, map, take}
use Rattle.dri_clips.specs.Gains.{clip_rect}
use Rattle.dri_flip.proofs.clips.clips_of.Given as goal

abbrev pub invariant-loop-i : goal.invariant-loop-i
invariant-loop-i l = l.rects.items ≡ map clip_rect (take l.i l.clips)
