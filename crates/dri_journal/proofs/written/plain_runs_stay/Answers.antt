use Rattle.dri_journal.proofs.Plain.{plain_run, plain_whole}
use Rattle.dri_journal.proofs.written.plain_runs_stay.Goals as goal

pub returns-clause-run : goal.returns-clause-run
returns-clause-run c = plain_run

pub returns-clause-whole : goal.returns-clause-whole
returns-clause-whole c = plain_whole
