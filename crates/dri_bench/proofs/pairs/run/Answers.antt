use Rattle.dri_bench.proofs.pairs.run.Goals as goal

pub last_pass-second-requires-clause-new : goal.last_pass-second-requires-clause-new
last_pass-second-requires-clause-new g c = c.in-Ok.ensures.passes
