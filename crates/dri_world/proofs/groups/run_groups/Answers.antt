use Rattle.std.proofs.Common.{◌≡◌, false, length, rules, subst}
use Rattle.std.specs.Prelude.{replicate}
use Rattle.std.specs.Arc.{arc_value}
use Rattle.dri_world.proofs.Parties.{PlaysGroups, groups_segmented, groups_whole, plays_opening, plays_round}
use Rattle.dri_world.proofs.groups.run_groups.Goals as goal

pub loop-moves-init : goal.loop-moves-init
loop-moves-init c =
    let same : c.in_ok-seats.seats.items ≡ replicate (length c.args.groups.now) (record { place = 0; ran = false }) = search rules in
    plays_opening (arc_value c.args.scene) c.args.groups.now c.in_ok-world.world c.in_ok-seats.seats.items c.requires.in_range c.requires.accepted c.in_ok-world.ensures same

pub loop-moves-preserved : goal.loop-moves-preserved
loop-moves-preserved c =
    plays_round (arc_value c.args.scene) c.args.groups.now c.loop-moves.world c.group_round.new.self c.loop-moves.seats.items c.group_round.new.seats.items c.loop-moves.moves c.in_ok-moves.moves c.loop-moves.invariant c.in_ok-moves.ensures.played c.in_ok-moves.ensures.seated

pub returns-clause-whole : goal.returns-clause-whole
returns-clause-whole c =
    groups_whole (arc_value c.args.scene) c.args.groups.now c.loop-moves.world c.loop-moves.seats.items c.requires.in_range c.requires.accepted
    (subst (PlaysGroups (arc_value c.args.scene) c.args.groups.now c.loop-moves.world c.loop-moves.seats.items) c.loop-moves-test.false c.loop-moves.invariant)

pub returns-clause-segments : goal.returns-clause-segments
returns-clause-segments c =
    groups_segmented (arc_value c.args.scene) c.args.groups.now c.loop-moves.world c.loop-moves.seats.items c.requires.in_range c.requires.accepted
    (subst (PlaysGroups (arc_value c.args.scene) c.args.groups.now c.loop-moves.world c.loop-moves.seats.items) c.loop-moves-test.false c.loop-moves.invariant)
