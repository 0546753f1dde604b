use Rattle.std.proofs.Common.{◌≡◌, ◌≤◌, ◌+◌, length, subst, arith}
use Rattle.dri_core.proofs.FirstBad.{bad_is_no_run}
use Rattle.dri_core.specs.FirstBad.{IsFirstBad}
use Rattle.dri_journal.proofs.Reported.{first_refused, reported}
use Rattle.dri_journal.proofs.checking.check.Goals as goal

pub returns-in-Err-Refused-clause-judges : goal.returns-in-Err-Refused-clause-judges
returns-in-Err-Refused-clause-judges c =
    first_refused c.args.scene.now c.loop-taken.replay c.step.new.self c.args.entries.now c.loop-taken.taken c.in-Err-Refused.field-0 c.in-Err-Refused.field-0-0 c.loop-taken-test.true c.loop-taken.invariant.scene c.loop-taken.invariant.entries c.loop-taken.invariant.run c.in-Err-Refused.field-0-is c.in-Err-Refused.ensures

pub returns-in-Err-Refused-clause-refuses : goal.returns-in-Err-Refused-clause-refuses
returns-in-Err-Refused-clause-refuses c entry is =
    let same : c.loop-taken.taken + 1 ≡ entry = cc in
    subst (λ n. IsFirstBad c.args.scene.now c.args.entries.now n) same
    (first_refused c.args.scene.now c.loop-taken.replay c.step.new.self c.args.entries.now c.loop-taken.taken c.in-Err-Refused.field-0 c.in-Err-Refused.field-0-0 c.loop-taken-test.true c.loop-taken.invariant.scene c.loop-taken.invariant.entries c.loop-taken.invariant.run c.in-Err-Refused.field-0-is c.in-Err-Refused.ensures)

pub returns-in-Err-Refused-clause-takes : goal.returns-in-Err-Refused-clause-takes
returns-in-Err-Refused-clause-takes c run entry is =
    bad_is_no_run c.args.scene.now c.args.entries.now (c.loop-taken.taken + 1) run
    (first_refused c.args.scene.now c.loop-taken.replay c.step.new.self c.args.entries.now c.loop-taken.taken c.in-Err-Refused.field-0 c.in-Err-Refused.field-0-0 c.loop-taken-test.true c.loop-taken.invariant.scene c.loop-taken.invariant.entries c.loop-taken.invariant.run c.in-Err-Refused.field-0-is c.in-Err-Refused.ensures)

pub returns-clause-tells : goal.returns-clause-tells
returns-clause-tells c =
    let over : length c.args.entries.now ≤ c.loop-taken.taken = omega (arith, c.loop-taken-test.false) in
    reported c.args.scene.now c.loop-taken.replay.scene c.args.entries.now c.loop-taken.replay.entries c.loop-taken.taken c.report_of.result c.requires.scene c.loop-taken.invariant.scene c.loop-taken.invariant.entries over c.report_of.ensures
