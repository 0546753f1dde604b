use Rattle.dri_journal.proofs.EntryRanges.{run_in_range, run_reads_back}
use Rattle.dri_journal.proofs.written.runs_read_back.Goals as goal

pub returns-clause-in_range : goal.returns-clause-in_range
returns-clause-in_range c = run_in_range

pub returns-clause-read : goal.returns-clause-read
returns-clause-read c = run_reads_back
