use Rattle.dri_bench.proofs.contend.run.Goals as goal

pub last_pass-fifth-requires-clause-new : goal.last_pass-fifth-requires-clause-new
last_pass-fifth-requires-clause-new g c = c.in-Ok.ensures.passes
