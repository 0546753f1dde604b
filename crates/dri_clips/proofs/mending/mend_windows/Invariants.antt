use Rattle.std.specs.Prelude.{◌≤◌, ◌+◌, ◌*◌, filter, length, take}
use Rattle.dri_clips.specs.Areas.{names}
use Rattle.dri_clips.specs.Mends.{IsWalk, is_met}
use Rattle.dri_clips.proofs.mending.mend_windows.Given as goal

abbrev pub invariant-loop-at : goal.invariant-loop-at
invariant-loop-at g l = record {
  walk : IsWalk l.old.width l.old.height (names l.cause) l.old.stack l.new l.area l.at l.left l.lists.items;
  steps : l.steps ≤ l.fn.steps + 7 * length (filter (is_met (names l.cause) l.area) (take l.at l.new));
}
