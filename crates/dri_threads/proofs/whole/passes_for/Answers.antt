use Rattle.std.proofs.Common.{arith}
use Rattle.dri_threads.proofs.Rounds.{last_enough, number_in_range}
use Rattle.dri_threads.proofs.whole.passes_for.Goals as goal

pub returns-clause-enough : goal.returns-clause-enough
returns-clause-enough c = last_enough _ _ _ c.requires c.len-count.ensures c.get.ensures

pub returns-clause-few : goal.returns-clause-few
returns-clause-few c = omega (arith, (number_in_range _ _ _ c.requires c.get.ensures).1)
