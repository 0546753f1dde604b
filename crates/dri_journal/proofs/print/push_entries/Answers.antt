-- One more entry.
use Rattle.std.proofs.Common.{arith}
use Rattle.std.proofs.lemmas.Grind.{common_steps}
use Rattle.std.proofs.lemmas.List.Elements.{All-more}
use Rattle.dri_journal.specs.Journals.{FitsWords}
use Rattle.dri_journal.proofs.print.push_entries.Goals as goal

pub loop-entry-preserved : goal.loop-entry-preserved
loop-entry-preserved c = record {
  lines = grind (arith, common_steps);
  fit = All-more FitsWords c.args.entries.now c.loop-entry.entry-index _ c.loop-entry-test.true c.loop-entry.invariant.fit c.in_ok-push_entry.ensures.fits;
}
