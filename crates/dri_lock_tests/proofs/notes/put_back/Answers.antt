use Rattle.std.proofs.Common.{ap, sym, ◌≡◌, ◌∙◌, ◌+◌, ◌++◌, ◌∷◌, [], length, length-append}
use Rattle.dri_hwlock.proofs.PassLists.{snoc_of_lock}
use Rattle.dri_lock_tests.proofs.notes.put_back.Goals as goal

pub returns-clause-own : goal.returns-clause-own
returns-clause-own c = rw c.push.ensures.last (snoc_of_lock _ _ _ c.requires.own c.requires.pass)

pub returns-clause-count : goal.returns-clause-count
returns-clause-count c = ap length c.push.ensures.last ∙ length-append _ _
