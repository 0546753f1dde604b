use Rattle.std.proofs.Common.{arith, ap, ◌≡◌, ◌∙◌, ◌-◌, ◌+◌, length, suc}
use Rattle.dri_hwlock.proofs.PassLists.{last_new, new_of_lock}
use Rattle.dri_lock_tests.proofs.notes.last_pass.Goals as goal

pub returns-clause-own : goal.returns-clause-own
returns-clause-own c = let some = c.requires.count.0 in let all = c.requires.count.1 in let one = last_new _ _ 1 (c.args.context - 1) _ _ _ c.in-Some.ensures.last (omega arith) c.requires.new in ap (λ t. t.lock) one.0.0

pub returns-clause-context : goal.returns-clause-context
returns-clause-context c = let some = c.requires.count.0 in let all = c.requires.count.1 in let one = last_new _ _ 1 (c.args.context - 1) _ _ _ c.in-Some.ensures.last (omega arith) c.requires.new in let at = ap (λ t. t.context) one.0.0 in omega arith

pub returns-clause-new : goal.returns-clause-new
returns-clause-new c = let some = c.requires.count.0 in let all = c.requires.count.1 in let one = last_new _ _ 1 (c.args.context - 1) _ _ _ c.in-Some.ensures.last (omega arith) c.requires.new in one.1

pub returns-clause-of : goal.returns-clause-of
returns-clause-of c = let some = c.requires.count.0 in let all = c.requires.count.1 in let one = last_new _ _ 1 (c.args.context - 1) _ _ _ c.in-Some.ensures.last (omega arith) c.requires.new in new_of_lock _ _ _ _ one.1

pub returns-clause-count : goal.returns-clause-count
returns-clause-count c = let some = c.requires.count.0 in let all = c.requires.count.1 in let one = last_new _ _ 1 (c.args.context - 1) _ _ _ c.in-Some.ensures.last (omega arith) c.requires.new in let left = one.2 in omega arith
