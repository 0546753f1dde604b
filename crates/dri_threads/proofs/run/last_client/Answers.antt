use Rattle.std.proofs.Common.{rules, arith}
use Rattle.dri_threads.proofs.Rounds.{none_below, other_last, popped_last}
use Rattle.dri_threads.proofs.run.last_client.Goals as goal

pub returns-then-count-eq0-clause-none : goal.returns-then-count-eq0-clause-none
returns-then-count-eq0-clause-none c = none_below _ _ _ c.requires.in_range.scripted.rising c.requires.below (λ i n is there. absurd (omega (arith, is, c.len-count.ensures, c.if-count-eq0.true)))

pub returns-then-get-number-clause-none : goal.returns-then-get-number-clause-none
returns-then-get-number-clause-none c = other_last _ _ _ _ c.get.result.now c.requires.in_range.scripted.rising c.requires.below (search rules) c.get.ensures (search rules)

pub returns-clause-some : goal.returns-clause-some
returns-clause-some c = popped_last _ _ _ _ _ _ c.get.result.now c.requires.in_range.scripted.rising c.requires.below (search rules) c.get.ensures (search rules) c.pop.ensures.last
