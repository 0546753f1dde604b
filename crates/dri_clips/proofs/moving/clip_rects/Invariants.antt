use Rattle.std.specs.Prelude.{◌≡◌, map, take}
use Rattle.dri_clips.specs.Gains.{clip_rect}
use Rattle.dri_clips.proofs.moving.clip_rects.Given as goal

abbrev pub invariant-loop-i : goal.invariant-loop-i
invariant-loop-i l = l.rects ≡ map clip_rect (take l.i l.region)
