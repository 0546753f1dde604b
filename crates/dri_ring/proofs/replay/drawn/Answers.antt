-- One entry more, and all.
use Rattle.std.proofs.Common.{arith, sym, subst}
use Rattle.dri_journal.specs.Replays.{ReplayState}
use Rattle.dri_replay.proofs.Taken.{all_taken, few_taken, first_refused, none_taken, one_taken}
use Rattle.dri_ring.specs.Follows.{IsAfter}
use Rattle.dri_ring.proofs.Followed.{all_ringed, following_roomed, roomed}
use Rattle.dri_ring.proofs.replay.drawn.Goals as goal

pub loop-taken-init : goal.loop-taken-init
loop-taken-init c = record {
  are = none_taken c.args.scene.now c.args.entries.now c.in_ok-replay.replay c.in_ok-replay.ensures;
  follows = subst (λ (v : ReplayState). IsAfter v c.args.opened.engine.room c.args.opened) (sym c.in_ok-replay.ensures) c.requires.opening;
}

pub follow-requires-clause-after : goal.follow-requires-clause-after
follow-requires-clause-after c = roomed c.loop-taken.replay c.args.opened.engine.room c.loop-taken.ring c.loop-taken.invariant.follows

pub follow-requires-clause-few : goal.follow-requires-clause-few
follow-requires-clause-few c = few_taken c.args.scene.now c.args.entries.now c.loop-taken.taken c.loop-taken.replay c.loop-taken.invariant.are c.loop-taken-test.true c.requires.few

pub loop-taken-preserved : goal.loop-taken-preserved
loop-taken-preserved c =
    let got = c.in-Ok.ensures in
    record {
      are = one_taken c.args.scene.now c.args.entries.now c.loop-taken.taken c.loop-taken.replay c.follow.new.replay _ c.loop-taken-test.true c.loop-taken.invariant.are got.0 got.1;
      follows = following_roomed c.follow.new.replay c.args.opened.engine.room c.loop-taken.ring c.follow.new.ring c.loop-taken.invariant.follows.room got.2;
    }

pub returns-in-Err-Refused : goal.returns-in-Err-Refused
returns-in-Err-Refused c = first_refused c.args.scene.now c.args.entries.now c.loop-taken.taken c.loop-taken.replay _ c.loop-taken-test.true c.loop-taken.invariant.are (rw c.in-Err-Refused.field-0-is at c.in-Err-Refused.ensures)

pub ringed_by-requires : goal.ringed_by-requires
ringed_by-requires c = roomed c.loop-taken.replay c.args.opened.engine.room c.loop-taken.ring c.loop-taken.invariant.follows

pub returns : goal.returns
returns c = all_ringed c.args.scene.now c.args.entries.now c.args.opened.engine.room c.loop-taken.replay c.loop-taken.ring c.in_ok-ringed.ringed (all_taken c.args.scene.now c.args.entries.now c.loop-taken.taken c.loop-taken.replay (omega arith) c.loop-taken.invariant.are) c.loop-taken.invariant.follows.room c.in_ok-ringed.ensures
