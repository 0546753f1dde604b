use Rattle.std.proofs.Common.{◌+◌, rules}
use Rattle.dri_world.proofs.Rounding.{part_on, passed_after, round_on, whole_by}
use Rattle.dri_world.proofs.world.World.finish.Goals as goal

pub returns-in_err-moves-clause-err : goal.returns-in_err-moves-clause-err
returns-in_err-moves-clause-err c =
    let played = part_on c.args.self.now c.loop-moves.self c.round.new.self c.loop-moves.invariant.number c.loop-moves.invariant.goes_on c.in_err-moves.ensures.err in
    search rules

pub loop-moves-preserved : goal.loop-moves-preserved
loop-moves-preserved c = record {
  number = c.loop-moves.invariant.number + 1;
  goes_on = round_on c.args.self.now c.loop-moves.self c.round.new.self c.loop-moves.invariant.number c.loop-moves.invariant.goes_on c.in_ok-moves.ensures.made;
  ended = λ e. passed_after c.loop-moves.self c.round.new.self c.in_ok-moves.ensures.made (c.in_ok-moves.ensures.moves.0 e);
  sound = λ e. c.in_ok-moves.ensures.sound;
}

pub returns-clause-whole : goal.returns-clause-whole
returns-clause-whole c = whole_by c.loop-moves.self (c.loop-moves.invariant.sound c.loop-moves-test.false) (c.loop-moves.invariant.ended c.loop-moves-test.false)
