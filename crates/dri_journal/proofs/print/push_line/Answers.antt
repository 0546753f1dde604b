-- One more number of 32 bits.
use Rattle.std.proofs.Common.{◌<◌, ◌^◌, arith}
use Rattle.std.proofs.lemmas.Grind.{common_steps}
use Rattle.std.proofs.lemmas.List.Elements.{All-more}
use Rattle.dri_journal.proofs.print.push_line.Goals as goal

pub loop-number-preserved : goal.loop-number-preserved
loop-number-preserved c = record {
  line = grind (arith, common_steps);
  fit = All-more (λ n. n < 2 ^ 32) c.args.numbers.now c.loop-number.number-index 0 c.loop-number-test.true c.loop-number.invariant.fit c.push_number.ensures.fits;
}
