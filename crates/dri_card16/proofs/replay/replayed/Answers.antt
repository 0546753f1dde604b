-- One entry more, and all.
use Rattle.std.proofs.Common.{arith}
use Rattle.dri_card16.proofs.Followed16.{all_shown, opened}
use Rattle.dri_replay.proofs.Taken.{first_refused, none_taken, one_taken}
use Rattle.dri_card16.proofs.replay.replayed.Goals as goal

pub loop-taken-init : goal.loop-taken-init
loop-taken-init c = record {
  are = none_taken c.args.scene.now c.args.entries.now c.in_ok-replay.replay c.in_ok-replay.ensures;
  follows = opened c.args.scene.now c.in_ok-replay.replay c.in_ok-card.card c.in_ok-replay.ensures c.in_ok-card.ensures;
}

pub loop-taken-preserved : goal.loop-taken-preserved
loop-taken-preserved c =
    let got = c.in-Ok.ensures in
    record { are = one_taken c.args.scene.now c.args.entries.now c.loop-taken.taken c.loop-taken.replay c.follow.new.replay _ c.loop-taken-test.true c.loop-taken.invariant.are got.0 got.1; follows = got.2 }

pub returns-in-Err-Refused : goal.returns-in-Err-Refused
returns-in-Err-Refused c = first_refused c.args.scene.now c.args.entries.now c.loop-taken.taken c.loop-taken.replay _ c.loop-taken-test.true c.loop-taken.invariant.are (rw c.in-Err-Refused.field-0-is at c.in-Err-Refused.ensures)

pub returns : goal.returns
returns c = all_shown c.args.scene.now c.args.entries.now c.loop-taken.taken c.loop-taken.replay c.in_ok-picture.picture (omega arith) c.loop-taken.invariant.are c.in_ok-picture.ensures
