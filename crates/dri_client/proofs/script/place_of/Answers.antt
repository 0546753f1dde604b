use Rattle.std.proofs.Common.{below_more}
use Rattle.dri_client.proofs.Owned.{number_read, number_stands, script_found, script_on}
use Rattle.dri_client.proofs.script.place_of.Goals as goal

pub returns-then-script-number-clause-script : goal.returns-then-script-number-clause-script
returns-then-script-number-clause-script c =
    script_found c.args.clients.now c.loop-place.place c.args.number c.index-clients-place.result c.loop-place-test.true c.index-clients-place.is c.if-script-number.true c.loop-place.invariant.same

pub returns-then-script-number-clause-number : goal.returns-then-script-number-clause-number
returns-then-script-number-clause-number c =
    number_stands c.args.clients.now c.loop-place.place c.args.number c.index-clients-place.result c.loop-place-test.true c.index-clients-place.is c.if-script-number.true

pub loop-place-preserved : goal.loop-place-preserved
loop-place-preserved c =
    let ps = c.args.clients.now in
    let x = c.index-clients-place.result in
    record {
      same = script_on ps c.loop-place.place c.args.number x c.loop-place-test.true c.index-clients-place.is c.if-script-number.false c.loop-place.invariant.same;
      before = below_more _ _ c.loop-place.invariant.before (λ e. c.if-script-number.false (number_read ps c.loop-place.place c.args.number x c.loop-place-test.true c.index-clients-place.is e));
    }
