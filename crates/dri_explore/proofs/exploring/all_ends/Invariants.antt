use Rattle.std.proofs.Common.{◌-◌, ◌≤◌}
use Rattle.std.specs.Arc.{arc_value}
use Rattle.dri_explore.specs.Gathering.{IsFound}
use Rattle.dri_explore.specs.Levels.{IsLevel}
use Rattle.dri_explore.proofs.exploring.all_ends.Given as goal

abbrev pub invariant-loop-level : goal.invariant-loop-level
invariant-loop-level l = record {
  level : IsLevel (arc_value l.scene) l.level;
  found : IsFound (arc_value l.scene) l.level.made l.found;
  within : l.level.made ≤ l.most;
}

abbrev pub decreases-loop-level : goal.decreases-loop-level
decreases-loop-level l = l.most - l.level.made
