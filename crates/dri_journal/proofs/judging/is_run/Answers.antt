use Rattle.dri_journal.proofs.Runs.{run_is}
use Rattle.dri_texheap.specs.RegionStates.{heap_of}
use Rattle.dri_journal.proofs.judging.is_run.Goals as goal

pub returns-then-run-needed : goal.returns-then-run-needed
returns-then-run-needed c = rw (← c.run.view_is) (run_is c.args.room c.args.regions.now.count (heap_of c.args.regions.now) c.args.needed c.run.inside.first c.run.inside.count c.first_region.result c.if-run-needed.true c.first_region.ensures)
