use Rattle.std.specs.Prelude.{◌≡◌, false, take}
use Rattle.dri_clips.specs.Areas.{meets}
use Rattle.dri_clips.proofs.area.meets.Given as goal

abbrev pub invariant-loop-i : goal.invariant-loop-i
invariant-loop-i l = meets (take l.i l.area) l.rect ≡ false
