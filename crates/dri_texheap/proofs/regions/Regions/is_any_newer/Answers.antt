use Rattle.std.proofs.Common.{◌≡◌, true, ◌+◌, get_or, arith, sym}
use Rattle.std.specs.Prelude.{nat_lt}
use Rattle.std.proofs.lemmas.Bool.Decides.{nat_tests}
use Rattle.dri_texheap.proofs.Counted.{any_at}
use Rattle.dri_texheap.proofs.regions.Regions.is_any_newer.Goals as goal

pub returns-then-self-run : goal.returns-then-self-run
returns-then-self-run c = rw (← c.run.view_is, ← c.self.view_is) (sym (any_at (λ k. nat_lt c.args.local (get_or c.self.inside.ages k 0)) c.run.inside.first c.run.inside.count (c.run.inside.first + c.loop-j.j) (omega arith) (omega (arith, c.loop-j-test.true)) newer))
  where
    newer : nat_lt c.args.local (get_or c.self.inside.ages (c.run.inside.first + c.loop-j.j) 0) ≡ true
    newer = grind (arith, nat_tests, c.if-self-run.true)
