use Rattle.std.proofs.Common.{refl, arith}
use Rattle.dri_leaf_tests.proofs.sarea.example.Goals as goal

pub new-area-requires-clause-sized : goal.new-area-requires-clause-sized
new-area-requires-clause-sized g c = (12, (omega arith, omega arith), refl)
