use Rattle.std.proofs.Common.{rules, ap, ◌∙◌, ◌≡◌, ◌++◌, Some, option_to_list}
use Rattle.dri_hwlock.proofs.PassLists.{last_new}
use Rattle.dri_lock_tests.proofs.hwlock.word_after_the_kernel.Goals as goal

pub word_after_kernel-requires-clause-second : goal.word_after_kernel-requires-clause-second
word_after_kernel-requires-clause-second g c = let made = c.in-Ok.ensures in let third : c.pop.result ≡ Some c.expect-third.result = search rules in let second : c.pop-2.result ≡ Some c.expect-second.result = search rules in
    let one = last_new _ _ 1 2 _ _ _ (c.pop.ensures.last ∙ ap (λ o. c.pop.new.self.list.items ++ option_to_list o) third) made.count made.passes in
    let two = last_new _ _ 1 1 _ _ _ (c.pop-2.ensures.last ∙ ap (λ o. c.pop-2.new.self.list.items ++ option_to_list o) second) one.2 one.1 in (ap (λ t. t.lock) two.0.0, ap (λ t. t.context) two.0.0)

pub word_after_kernel-requires-clause-third : goal.word_after_kernel-requires-clause-third
word_after_kernel-requires-clause-third g c = let made = c.in-Ok.ensures in let third : c.pop.result ≡ Some c.expect-third.result = search rules in
    let one = last_new _ _ 1 2 _ _ _ (c.pop.ensures.last ∙ ap (λ o. c.pop.new.self.list.items ++ option_to_list o) third) made.count made.passes in (ap (λ t. t.lock) one.0.0, ap (λ t. t.context) one.0.0)
