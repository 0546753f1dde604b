use Rattle.std.proofs.Common.{rules, ap, ◌∙◌, ◌≡◌, ◌++◌, Some, option_to_list}
use Rattle.dri_hwlock.proofs.PassLists.{last_new, new_of_lock, snoc_of_lock}
use Rattle.dri_lock_tests.proofs.hwlock.a_lock_is_closed.Goals as goal

pub serve-first-requires : goal.serve-first-requires
serve-first-requires g c = let made = c.in-Ok.ensures in let first : c.pop.result ≡ Some c.expect-first.result = search rules in
    let one = last_new _ _ 1 0 _ _ _ (c.pop.ensures.last ∙ ap (λ o. c.pop.new.self.list.items ++ option_to_list o) first) made.count made.passes in record { first = (ap (λ t. t.lock) one.0.0, ap (λ t. t.context) one.0.0) }

pub close-notes-requires-clause-own : goal.close-notes-requires-clause-own
close-notes-requires-clause-own g c = let made = c.in-Ok.ensures in let first : c.pop.result ≡ Some c.expect-first.result = search rules in
    let one = last_new _ _ 1 0 _ _ _ (c.pop.ensures.last ∙ ap (λ o. c.pop.new.self.list.items ++ option_to_list o) first) made.count made.passes in
    rw c.push.ensures.last (snoc_of_lock _ _ _ (new_of_lock _ _ _ _ one.1) (search rules))
