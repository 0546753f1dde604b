use Rattle.std.proofs.Common.{◌≡◌, length, map, take}
use Rattle.dri_world.specs.GroupRuns.{Group, PartiesOn}
use Rattle.dri_world.specs.Seats.{AreSeated}
use Rattle.dri_world.proofs.world.World.group_turns.Given as goal

abbrev pub invariant-loop-i : goal.invariant-loop-i
invariant-loop-i l = record {
  last : l.i-end ≡ length l.fn.groups;
  played : PartiesOn l.fn.self l.self (map Group (take l.i l.fn.groups)) l.moves;
  seated : AreSeated l.self.scene l.fn.groups l.self.events l.seats.items;
}
