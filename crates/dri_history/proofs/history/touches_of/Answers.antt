-- One entry more, and all.
use Rattle.std.proofs.Common.{refl, arith}
use Rattle.std.proofs.lemmas.Result.{err_from_is_err_and}
use Rattle.dri_history.proofs.Followed.{opened}
use Rattle.dri_history.proofs.Told.{all_told, told_more}
use Rattle.dri_replay.proofs.Taken.{first_refused, none_taken, one_taken}
use Rattle.dri_history.proofs.history.touches_of.Goals as goal

pub loop-taken-init : goal.loop-taken-init
loop-taken-init c = record {
  are = none_taken c.args.scene.now c.args.entries.now c.in_ok-replay.replay c.in_ok-replay.ensures;
  follows = opened c.args.scene.now c.in_ok-replay.replay c.in_ok-card.card c.in_ok-replay.ensures c.in_ok-card.ensures;
  told = c.new-touches.ensures;
}

pub loop-taken-preserved : goal.loop-taken-preserved
loop-taken-preserved c =
    let got = c.in-Ok.ensures in
    record {
      are = one_taken c.args.scene.now c.args.entries.now c.loop-taken.taken c.loop-taken.replay c.tell.new.replay _ c.loop-taken-test.true c.loop-taken.invariant.are got.0 got.1;
      follows = got.2;
      told = told_more c.args.scene.now c.args.entries.now c.loop-taken.taken c.loop-taken.replay _ _ c.args.x c.args.y c.loop-taken.touches c.note.new.touches c.in-Ok.touch
          c.loop-taken-test.true c.loop-taken.invariant.are c.loop-taken.invariant.told refl c.in_ok-note-in-Ok.ensures got.3;
    }

pub returns-in-Err-Refused : goal.returns-in-Err-Refused
returns-in-Err-Refused c = first_refused c.args.scene.now c.args.entries.now c.loop-taken.taken c.loop-taken.replay _ c.loop-taken-test.true c.loop-taken.invariant.are (rw c.in-Err-Refused.field-0-is at c.in-Err-Refused.ensures)

pub returns-in_err-note-in-Ok : goal.returns-in_err-note-in-Ok
returns-in_err-note-in-Ok c =
    let p = err_from_is_err_and c.from_residual-in_err-note-in-Ok.result c.from_residual-in_err-note-in-Ok.ensures.1 in
    rw (p.1, p.2) tt

pub returns : goal.returns
returns c = all_told c.args.scene.now c.args.entries.now c.loop-taken.taken c.args.x c.args.y c.loop-taken.touches (omega arith) c.loop-taken.invariant.are.run c.loop-taken.invariant.told
