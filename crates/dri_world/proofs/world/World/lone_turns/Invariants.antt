use Rattle.std.proofs.Common.{◌≡◌, length, map, take}
use Rattle.dri_base.specs.Ranges.{client_numbers}
use Rattle.dri_world.specs.GroupRuns.{Alone, PartiesOn, ungrouped}
use Rattle.dri_world.proofs.world.World.lone_turns.Given as goal

abbrev pub invariant-loop-i : goal.invariant-loop-i
invariant-loop-i l = record {
  last : l.i-end ≡ length l.fn.self.scene.clients;
  played : PartiesOn l.fn.self l.self (map Alone (ungrouped l.fn.groups (take l.i (client_numbers l.fn.self.scene.clients)))) l.moves;
}
