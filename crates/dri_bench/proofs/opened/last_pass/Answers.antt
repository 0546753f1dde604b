use Rattle.std.proofs.Common.{arith, ap, ◌-◌}
use Rattle.dri_hwlock.proofs.PassLists.{last_new}
use Rattle.dri_bench.proofs.opened.last_pass.Goals as goal

pub returns-clause-own : goal.returns-clause-own
returns-clause-own g c = let some = c.requires.count.0 in let all = c.requires.count.1 in let one = last_new _ _ 1 (c.args.context - 1) _ _ _ c.in-Some.ensures.last (omega arith) c.requires.new in ap (λ t. t.lock) one.0.0

pub returns-clause-context : goal.returns-clause-context
returns-clause-context g c = let some = c.requires.count.0 in let all = c.requires.count.1 in let one = last_new _ _ 1 (c.args.context - 1) _ _ _ c.in-Some.ensures.last (omega arith) c.requires.new in let at = ap (λ t. t.context) one.0.0 in omega arith

pub returns-clause-new : goal.returns-clause-new
returns-clause-new g c = let some = c.requires.count.0 in let all = c.requires.count.1 in let one = last_new _ _ 1 (c.args.context - 1) _ _ _ c.in-Some.ensures.last (omega arith) c.requires.new in one.1

pub returns-clause-count : goal.returns-clause-count
returns-clause-count g c = let some = c.requires.count.0 in let all = c.requires.count.1 in let one = last_new _ _ 1 (c.args.context - 1) _ _ _ c.in-Some.ensures.last (omega arith) c.requires.new in let left = one.2 in omega arith
