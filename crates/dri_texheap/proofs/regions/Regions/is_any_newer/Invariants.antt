use Rattle.std.proofs.Common.{◌≡◌, get_or, false}
use Rattle.std.specs.Prelude.{nat_lt}
use Rattle.dri_model.specs.Counting.{any_from}
use Rattle.dri_texheap.proofs.regions.Regions.is_any_newer.Given as goal

abbrev pub invariant-loop-j : goal.invariant-loop-j
invariant-loop-j l = any_from (λ k. nat_lt l.local (get_or l.self-inside.ages k 0)) l.run-inside.first l.j ≡ false
