use Rattle.std.proofs.Common.{length}
use Rattle.dri_hwlock.specs.Tokens.{passes_in}
use Rattle.dri_threads.proofs.run.+fn-run_beside-join+arg3+run_beside.Given as goal

abbrev pub decreases-join+arg3 : goal.decreases-join+arg3
decreases-join+arg3 g l = length (passes_in l.passes)

abbrev pub decreases-run_beside : goal.decreases-run_beside
decreases-run_beside g l = length (passes_in l.passes)
